-- Words of a command line of Windows, one part after another.
use Rattle.std.proofs.Common.{◌≡◌, ℕ, Bool, true, false, cond, List, [], ◌∷◌, ◌++◌, Option, None, Some, Result, Ok, Err, OnOk, refl, sym, ap, ◌∙◌, append_assoc}
use Rattle.scl_windows_words.specs.Parts.{Part, gap}
use Rattle.scl_shell.specs.ShellText.{kept}
use Rattle.scl_shell.specs.WindowsText.{joined, onto}

-- an implication between facts that hold on success
pub on_ok : {A E : Type 0} {P Q : Type 0} (r : Result A E) → (P → Q) → OnOk r P → OnOk r Q
on_ok (Ok x) f h = f h
on_ok (Err e) f h = tt

-- words before words before others
pub onto-onto : (a b : List (List ℕ)) (o : Option (List (List ℕ))) → onto a (onto b o) ≡ onto (a ++ b) o
onto-onto a b None = refl
onto-onto a b (Some others) = ap Some (sym (append_assoc a b others))

pub onto-nil : (o : Option (List (List ℕ))) → onto [] o ≡ o
onto-nil None = refl
onto-nil (Some others) = refl

-- a word that ends
pub gap-step : (is_unclear : Bool) (whole more : List (List ℕ)) (begun : Option (List ℕ)) (ps : List Part) → more ≡ whole ++ kept begun
    → cond is_unclear None (onto more (joined None ps)) ≡ cond is_unclear None (onto whole (joined begun (gap ∷ ps)))
gap-step true whole more begun ps h = refl
gap-step false whole more begun ps h = ap (λ ws. onto ws (joined None ps)) h ∙ sym (onto-onto whole (kept begun) (joined None ps))

pub ruleset part_rules = (onto-onto, onto-nil, gap-step)
