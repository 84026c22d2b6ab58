-- Outputs that are added one by one, in the order of their names.
use Rattle.std.proofs.Common.{◌≡◌, ℕ, Bool, true, false, ◌&&◌, List, [], ◌∷◌, ◌++◌, Option, None, Some, refl, ap, ◌∙◌, nat_cmp, Ordering, Less, Equal, Greater}
use Rattle.std.specs.Ordering.{match_ordering}
use Rattle.std.specs.Cmp.Lexicographic.{slice_cmp}
use Rattle.std.proofs.lemmas.Bool.{and_parts, false≢true}
use Rattle.std.proofs.lemmas.List.{append_assoc, append-nil}
use Rattle.scl_text.specs.Records.{Artifact, artifact}
use Rattle.scl_text.specs.Outputs.{output_at, put_optional}

-- an output's name, whether it may be missing, and its path if there is one
pub data Entry : Type 0 where
  entry : List ℕ → Bool → Option (List ℕ) → Entry

-- the outputs that there are, in this order
abbrev pub listed : List Entry → List Artifact
listed [] = []
listed (entry name optional path ∷ es) = output_at name optional path ++ listed es

abbrev pub put_all : List Artifact → List Entry → List Artifact
put_all old [] = old
put_all old (entry name optional path ∷ es) = put_all (put_optional old name optional path) es

abbrev is_above : Ordering → Bool
is_above Less = false
is_above Equal = false
is_above Greater = true

-- the name is greater than all of these
abbrev is_last : List ℕ → List Entry → Bool
is_last name [] = true
is_last name (entry other optional path ∷ es) = is_above (slice_cmp nat_cmp name other) && is_last name es

abbrev pub rises : List Entry → List Entry → Bool
rises before [] = true
rises before (entry name optional path ∷ es) = is_last name before && rises (before ++ entry name optional path ∷ []) es

goes_on : (o : Ordering) (x y z : List Artifact) → is_above o ≡ true → match_ordering o x y z ≡ z
goes_on Less x y z h = absurd (false≢true h)
goes_on Equal x y z h = absurd (false≢true h)
goes_on Greater x y z h = refl

-- a name greater than all others is put last
put_last : (before : List Entry) (name : List ℕ) (optional : Bool) (path : Option (List ℕ)) → is_last name before ≡ true →
    put_optional (listed before) name optional path ≡ listed (before ++ entry name optional path ∷ [])
put_last [] name optional None h = refl
put_last [] name optional (Some p) h = refl
put_last (entry other o None ∷ before) name optional path h = put_last before name optional path (and_parts _ _ h).1
put_last (entry other o (Some q) ∷ before) name optional None h = ap (λ rest. artifact other q o ∷ rest) (put_last before name optional None (and_parts _ _ h).1)
put_last (entry other o (Some q) ∷ before) name optional (Some p) h =
    goes_on (slice_cmp nat_cmp name other) _ _ _ (and_parts _ _ h).0
    ∙ ap (λ rest. artifact other q o ∷ rest) (put_last before name optional (Some p) (and_parts _ _ h).1)

-- outputs whose names rise are put in order
pub put_rising : (before es : List Entry) → rises before es ≡ true → put_all (listed before) es ≡ listed (before ++ es)
put_rising before [] h = rw append-nil refl
put_rising before (entry name optional path ∷ es) h =
    ap (λ old. put_all old es) (put_last before name optional path (and_parts _ _ h).0)
    ∙ put_rising (before ++ entry name optional path ∷ []) es (and_parts _ _ h).1
    ∙ rw append_assoc refl
