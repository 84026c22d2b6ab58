-- What follows from the definitions of a command's texts, and of what is compared of two keys.
use Rattle.std.specs.Prelude.{◌≡◌, ℕ, false, List, ◌∷◌, codes}
use Rattle.std.specs.List.{flat_map}
use Rattle.scl_key.specs.Parts.{Part, fields, hashed as hashed_part}
use Rattle.scl_explain.specs.CommandTexts.{ended_by_nul}
use Rattle.scl_explain.specs.Nuls.{some_hold_nul, AreEndedByNul}
use Rattle.scl_explain.specs.SameKeys.{hashed}

-- words without a NUL are read back where a NUL ends each
abbrev pub EndedWordsAreReadBack : Type 0
EndedWordsAreReadBack = (words : List (List ℕ)) → some_hold_nul words ≡ false → AreEndedByNul (flat_map ended_by_nul words) words

-- and no others
abbrev pub EndedWordsAreOne : Type 0
EndedWordsAreOne = (text : List ℕ) (words others : List (List ℕ)) → AreEndedByNul text words → AreEndedByNul text others → words ≡ others

-- what is hashed of the row of a part is what is hashed of the part
abbrev pub RowsAreHashedAsParts : Type 0
RowsAreHashedAsParts = (part : Part) → hashed (codes "key" ∷ fields part) ≡ codes "key" ∷ hashed_part part
