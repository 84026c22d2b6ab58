-- What is hashed of rows of a key.
use Rattle.std.proofs.Common.{◌≡◌, ℕ, List, ◌∷◌, codes, refl}
use Rattle.scl_key.specs.declared.part.Ask.{Ask}
use Rattle.scl_key.specs.declared.part.Ask.TheVariants as asks
use Rattle.scl_key.specs.Parts.{is, output, directory, compiler, plan, asked, run, run_else, pch, sources, times, fields, hashed as hashed_part}
use Rattle.scl_explain.specs.Laws.{RowsAreHashedAsParts}
use Rattle.scl_explain.specs.SameKeys.{hashed}

asked_alike : (ask : Ask) (name : List ℕ) → hashed (codes "key" ∷ fields (asked ask name)) ≡ codes "key" ∷ hashed_part (asked ask name)
asked_alike asks.Env name = refl
asked_alike asks.Unset name = refl
asked_alike asks.File name = refl
asked_alike asks.Maybe name = refl
asked_alike asks.Regular name = refl
asked_alike asks.SourcesIfShown name = refl
asked_alike asks.RefuseIfShown name = refl

pub rows_are_hashed_as_parts : RowsAreHashedAsParts
rows_are_hashed_as_parts (is row) = refl
rows_are_hashed_as_parts (output made) = refl
rows_are_hashed_as_parts directory = refl
rows_are_hashed_as_parts compiler = refl
rows_are_hashed_as_parts (plan words) = refl
rows_are_hashed_as_parts (asked ask name) = asked_alike ask name
rows_are_hashed_as_parts (run words) = refl
rows_are_hashed_as_parts (run_else words) = refl
rows_are_hashed_as_parts (pch searched) = refl
rows_are_hashed_as_parts sources = refl
rows_are_hashed_as_parts times = refl

pub ruleset hashed_laws = (rows_are_hashed_as_parts)
