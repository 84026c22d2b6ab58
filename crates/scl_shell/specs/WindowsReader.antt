-- What `windows_words` has read, and what is still to come.
use Rattle.std.specs.Prelude.{ℕ, List, Option, None, if◌then◌else◌}
use Rattle.std.specs.Borrow.{Bor}
use Rattle.scl_values.specs.Words.{words_of}
use Rattle.scl_shell.specs.ShellReader.{begun_of}
use Rattle.scl_shell.specs.WindowsText.{joined, onto}
use Rattle.scl_shell.specs.declared.windows.Words.{Words}
use Rattle.scl_windows_words.specs.Parts.{Part}

-- all words, if these parts are still to come
abbrev pub made : Words → List Part → Option (List (List ℕ))
made w ps = if w.is_unclear then None else onto (words_of w.whole.items) (joined (begun_of w.begun) ps)

-- two texts, as the code has them
abbrev pub both : Bor (List ℕ) × Bor (List ℕ) → List ℕ × List ℕ
both p = (p.0.now, p.1.now)
