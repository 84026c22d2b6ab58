-- The places of precompiled headers, piece by piece.
use Rattle.std.proofs.Common.{◌≡◌, ◌<◌, ℕ, List, [], ◌∷◌, ◌++◌, length, Vec, refl, ap, ◌∙◌, arith}
use Rattle.std.specs.declared.alloc.Global.{Global}
use Rattle.std.specs.List.{flat_map}
use Rattle.scl_values.specs.Words.{words_of}
use Rattle.scl_lookup.specs.Questions.{Machine}
use Rattle.scl_rounds.specs.Headers.{folders, headers, included_as, named, places, places_by}
use Rattle.scl_rounds.specs.Keys.{Key}
use Rattle.scl_rounds.specs.Shown.{each_once, marked}

-- one word alone names nothing
pub named_short : (what : List ℕ) (searched : List (Vec ℕ Global)) → length searched < 2 → named what (words_of searched) ≡ []
named_short what [] h = refl
named_short what (it ∷ []) h = refl
named_short what (it ∷ (name ∷ searched)) h = absurd (omega (arith, h))

pub places_are : (key : Key) (m : Machine) (searched them within names sources : List (List ℕ)) → them ≡ headers key m searched → within ≡ folders key m them searched
    → names ≡ each_once (flat_map included_as them) → sources ≡ them ++ marked key m → places_by key within names sources ≡ places key m searched
places_are key m searched them within names sources one two three four =
    ap (λ it. places_by key it names sources) two
    ∙ ap (λ it. places_by key (folders key m them searched) it sources) three
    ∙ ap (places_by key (folders key m them searched) (each_once (flat_map included_as them))) four
    ∙ ap (λ it. places_by key (folders key m it searched) (each_once (flat_map included_as it)) (it ++ marked key m)) one
