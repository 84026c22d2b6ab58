use Rattle.std.proofs.Common.{◌≡◌, ◌∷◌, take, codes}
use Rattle.scl_values.specs.Words.{words_of}
use Rattle.scl_text.specs.Commands.{pairs_of}
use Rattle.scl_key.specs.Told.{flat_pairs}
use Rattle.scl_key.proofs.told.environment_fact.Given as goal

abbrev pub invariant-loop-key : goal.invariant-loop-key
invariant-loop-key l = words_of l.row.items ≡ codes "environment" ∷ flat_pairs (pairs_of (take l.key-index l.pairs))
