-- The code's explanations and the table say the same of a reason.
use Rattle.std.proofs.Common.{◌≡◌, ℕ, Bool, true, false, cond, ◌||◌, List, [], ◌∷◌, map, Option, Some, refl, ap, ◌∙◌}
use Rattle.std.specs.Prelude.{find}
use Rattle.std.specs.List.{list_any}
use Rattle.std.specs.Option.{option_map}
use Rattle.std.specs.Str.{bytes_eq}
use Rattle.scl_reasons.specs.Explanations.{Explained, Explanation, explained, explains, is_one_of, text_for, text_given}

any-mapped : {X Y : Type 0} (f : X → Y) (p : Y → Bool) (xs : List X) → list_any (λ x. p (f x)) xs ≡ list_any p (map f xs)
any-mapped f p [] = refl
any-mapped f p (x ∷ xs) = ap (λ b. p (f x) || b) (any-mapped f p xs)

explains-same : (reason : List ℕ) (x : Explanation) → is_one_of x.1.now reason ≡ explains reason (explained x)
explains-same reason x = any-mapped (λ name. name.now) (λ name. bytes_eq name reason) x.1.now

chosen : (b : Bool) (x : Explanation) (given : Option Explanation) (said : Option Explained) → option_map (λ e. e.0.now) given ≡ option_map (λ e. e.text) said
    → option_map (λ e. e.0.now) (cond b (Some x) given) ≡ option_map (λ e. e.text) (cond b (Some (explained x)) said)
chosen true x given said e = refl
chosen false x given said e = e

pub text-is : (reason : List ℕ) (xs : List Explanation) → text_given reason xs ≡ text_for reason (map explained xs)
text-is reason [] = refl
text-is reason (x ∷ xs) =
    chosen (is_one_of x.1.now reason) x (find (λ e. is_one_of e.1.now reason) xs) (find (explains reason) (map explained xs)) (text-is reason xs)
    ∙ ap (λ b. option_map (λ e. e.text) (cond b (Some (explained x)) (find (explains reason) (map explained xs)))) (explains-same reason x)
