-- A text to be mapped, read line by line, and what is answered of it.
use Rattle.std.proofs.Common.{◌≡◌, ℕ, ◌+◌, ◌<◌, ◌≤◌, false, cond, List, [], ◌∷◌, ◌++◌, length, Some, ap, sym, ◌∙◌, arith, append-nil, append_assoc}
use Rattle.std.specs.List.{cons_option, filter_map, flat_map}
use Rattle.std.specs.Option.{option_to_list}
use Rattle.std.proofs.lemmas.Grind.{flat_map-append}
use Rattle.scl_description.specs.Lines.{lines_of}
use Rattle.scl_requests.specs.Mapping.{Gathered, Saying, breaks, first_broken, gathered, said}
use Rattle.scl_requests.specs.MappingRead.{with_line}

flat_more : {A : Type 0} (f : Saying → List A) (xs : List Saying) (y : Saying) → flat_map f (xs ++ y ∷ []) ≡ flat_map f xs ++ f y
flat_more f xs y = flat_map-append f xs (y ∷ []) ∙ ap (λ zs. flat_map f xs ++ zs) (append-nil (f y))

-- one more line adds what it says
gathered-more : (before : List Saying) (line : Saying) → with_line (gathered before) line ≡ gathered (before ++ line ∷ [])
gathered-more before line = simp (flat_more)

-- Of all bytes these are left, after lines that said this; the next line has this number.
pub record Passed (all left : List ℕ) (number : ℕ) (kept : Gathered) : Type 0 where
  pub before : List Saying
  pub kept_is : kept ≡ gathered before
  pub told : first_broken number before (lines_of left) ≡ first_broken 2 [] (lines_of all)
  pub whole : before ++ filter_map said (lines_of left) ≡ filter_map said (lines_of all)
  pub numbered : number + length (lines_of left) ≡ length (lines_of all) + 2
  pub counted : number + length left ≤ length all + 2

-- a line was taken
pub goes_on : (all left rest line : List ℕ) (number : ℕ) (kept kept' : Gathered) (s : Saying) → Passed all left number kept → lines_of left ≡ line ∷ lines_of rest → length rest < length left
    → said line ≡ Some s → breaks kept (Some s) ≡ false → kept' ≡ with_line kept s → Passed all rest (number + 1) kept'
goes_on all left rest line number kept kept' s p cut shorter says keeps takes =
    let holds : breaks (gathered p.before) (said line) ≡ false = ap (λ g. breaks g (said line)) (sym p.kept_is) ∙ ap (breaks kept) says ∙ keeps in
    record {
      before = p.before ++ s ∷ [];
      kept_is = takes ∙ ap (λ g. with_line g s) p.kept_is ∙ gathered-more p.before s;
      told =
          ap (λ o. first_broken (number + 1) (p.before ++ option_to_list o) (lines_of rest)) (sym says)
          ∙ ap (λ b. cond b (Some number) (first_broken (number + 1) (p.before ++ option_to_list (said line)) (lines_of rest))) (sym holds)
          ∙ ap (first_broken number p.before) (sym cut) ∙ p.told;
      whole =
          append_assoc p.before (s ∷ []) (filter_map said (lines_of rest))
          ∙ ap (λ o. p.before ++ cons_option o (filter_map said (lines_of rest))) (sym says)
          ∙ ap (λ ls. p.before ++ filter_map said ls) (sym cut) ∙ p.whole;
      numbered = omega (arith, p.numbered, ap length cut);
      counted = omega (arith, p.counted);
    }
