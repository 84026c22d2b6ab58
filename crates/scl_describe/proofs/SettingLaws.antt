-- The numbers that settings have.
use Rattle.std.proofs.Common.{◌≡◌, ℕ, List, [], ◌∷◌, None, refl}
use Rattle.scl_describe.specs.Settings.{number_from}

-- after what is no digit no number comes
pub none_stays : (digits : List ℕ) → number_from None digits ≡ None
none_stays [] = refl
none_stays (digit ∷ digits) = none_stays digits
