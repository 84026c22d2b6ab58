-- Texts that a compiler's driver splits differently than the rules.
use Rattle.std.specs.Prelude.{ℕ, Bool, false, List, Option, None, Some}
use Rattle.std.specs.List.{list_any}
use Rattle.scl_files.specs.ResponseFiles.{arguments}
use Rattle.scl_files.specs.declared.expand.ExpansionKind.{ExpansionKind}
use Rattle.scl_driver_texts.specs.Splitters.{is_otherwise}
use Rattle.scl_driver_texts.specs.declared.splitter.Splitter.{Splitter}

-- the text has words by the rules, and the driver's are different
abbrev pub differs : Splitter → List ℕ → Option (List (List ℕ)) → Bool
differs splitter text None = false
differs splitter text (Some words) = is_otherwise splitter text words

unfoldable pub is_split_otherwise : Splitter → ExpansionKind → List ℕ → Bool
is_split_otherwise splitter kind text = differs splitter text (arguments kind text)

-- one of the texts is split differently
unfoldable pub splits_otherwise : Splitter → ExpansionKind → List (List ℕ) → Bool
splits_otherwise splitter kind texts = list_any (is_split_otherwise splitter kind) texts
