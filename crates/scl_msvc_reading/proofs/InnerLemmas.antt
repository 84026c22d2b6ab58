-- Words for the inner command line, joined to their flag.
use Rattle.std.proofs.Common.{◌≡◌, ℕ, List, [], ◌∷◌, None, refl}
use Rattle.scl_values.specs.Spell.{delimited}

pub undelimited : (word : List ℕ) → delimited None word ≡ word
undelimited [] = refl
undelimited (byte ∷ bytes) = refl
