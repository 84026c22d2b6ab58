-- The bad line is the first that breaks a rule.
use Rattle.std.proofs.Common.{◌≡◌, ℕ, ◌+◌, ◌<◌, Bool, true, false, cond, List, [], ◌∷◌, ◌++◌, length, get_or, Option, Some, None, MatchOption, refl, ap, sym, ◌∙◌, subst, arith, append_assoc, length-append, below_more}
use Rattle.std.specs.List.{filter_map, cons_option}
use Rattle.std.specs.Option.{option_to_list}
use Rattle.std.proofs.Math.Seq.{take-append_seam, get_or-append_seam}
use Rattle.std.proofs.lemmas.List.Elements.{filter_map-append}
use Rattle.scl_cl.specs.Sayings.{Saying, said}
use Rattle.scl_cl.specs.Requests.{gathered, breaks, first_broken}
use Rattle.scl_cl.specs.Written.{breaks_at}

-- what is said of the number of a bad line
abbrev IsFirst : List (List ℕ) → Option ℕ → Type 0
IsFirst lines o = MatchOption o
    ((k : ℕ) → k < length lines → breaks_at lines k ≡ false)
    (λ n. (k : ℕ) × (n ≡ k + 1) × (k < length lines) × (breaks_at lines k ≡ true) × ((j : ℕ) → j < k → breaks_at lines j ≡ false))

breaks_here : (done : List (List ℕ)) (l : List ℕ) (ls : List (List ℕ)) → breaks_at (done ++ l ∷ ls) (length done) ≡ breaks (gathered (filter_map said done)) (said l)
breaks_here done l ls =
    ap (λ ks. breaks (gathered (filter_map said ks)) (said (get_or (done ++ l ∷ ls) (length done) []))) (take-append_seam done (l ∷ ls))
    ∙ ap (λ k. breaks (gathered (filter_map said done)) (said k)) (get_or-append_seam done l ls [])

said-more : (done : List (List ℕ)) (l : List ℕ) → filter_map said done ++ option_to_list (said l) ≡ filter_map said (done ++ l ∷ [])
said-more done l = sym (filter_map-append said done (l ∷ []) ∙ ap (λ xs. filter_map said done ++ xs) (one (said l))) where
  one : (o : Option Saying) → cons_option o [] ≡ option_to_list o
  one None = refl
  one (Some s) = refl

first_behind : (rest done : List (List ℕ)) → ((j : ℕ) → j < length done → breaks_at (done ++ rest) j ≡ false) → IsFirst (done ++ rest) (first_broken (length done + 1) (filter_map said done) rest)
first_behind [] done none = λ k h. none k (omega (arith, length-append done []))
first_behind (l ∷ ls) done none = either (breaks (gathered (filter_map said done)) (said l)) refl (first_behind ls (done ++ l ∷ [])) where
  either : (broken : Bool) → breaks (gathered (filter_map said done)) (said l) ≡ broken
      → (((j : ℕ) → j < length (done ++ l ∷ []) → breaks_at ((done ++ l ∷ []) ++ ls) j ≡ false) → IsFirst ((done ++ l ∷ []) ++ ls) (first_broken (length (done ++ l ∷ []) + 1) (filter_map said (done ++ l ∷ [])) ls))
      → IsFirst (done ++ l ∷ ls) (cond broken (Some (length done + 1)) (first_broken (length done + 1 + 1) (filter_map said done ++ option_to_list (said l)) ls))
  either true is further = (length done, refl, omega (arith, length-append done (l ∷ ls)), breaks_here done l ls ∙ is, none)
  either false is further =
      let same : (done ++ l ∷ []) ++ ls ≡ done ++ l ∷ ls = append_assoc done (l ∷ []) ls in
      let long : length (done ++ l ∷ []) ≡ length done + 1 = length-append done (l ∷ []) in
      let below : (j : ℕ) → j < length done + 1 → breaks_at (done ++ l ∷ ls) j ≡ false =
      below_more (λ j. breaks_at (done ++ l ∷ ls) j ≡ false) (length done) none (breaks_here done l ls ∙ is) in
      let goes : IsFirst ((done ++ l ∷ []) ++ ls) (first_broken (length (done ++ l ∷ []) + 1) (filter_map said (done ++ l ∷ [])) ls) =
      further (λ j h. ap (λ ks. breaks_at ks j) same ∙ below j (omega (arith, long))) in
      let numbered : first_broken (length (done ++ l ∷ []) + 1) (filter_map said (done ++ l ∷ [])) ls ≡ first_broken (length done + 1 + 1) (filter_map said done ++ option_to_list (said l)) ls =
      ap (λ n. first_broken (n + 1) (filter_map said (done ++ l ∷ [])) ls) long ∙ ap (λ ss. first_broken (length done + 1 + 1) ss ls) (sym (said-more done l)) in
      subst (λ ks. IsFirst ks (first_broken (length done + 1 + 1) (filter_map said done ++ option_to_list (said l)) ls)) same
      (subst (IsFirst ((done ++ l ∷ []) ++ ls)) numbered goes)

pub bad_line-first : (lines : List (List ℕ)) → IsFirst lines (first_broken 1 [] lines)
bad_line-first lines = first_behind lines [] (λ j h. absurd (omega arith))
