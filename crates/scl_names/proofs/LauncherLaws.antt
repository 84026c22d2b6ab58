-- One more word before a program, and the program.
use Rattle.std.proofs.Common.{◌≡◌, ◌<◌, ◌+◌, ℕ, List, ◌∷◌, Option, Some, None, Vec, length, drop, get_or, ap, sym, ◌∙◌}
use Rattle.std.proofs.lemmas.List.{drop_more}
use Rattle.std.specs.declared.alloc.Global.{Global}
use Rattle.scl_values.specs.Words.{words_of}
use Rattle.scl_names.specs.Launchers.{Front, program_from, program_or, step}

next-word : (all : List (Vec ℕ Global)) (i : ℕ) (d : Vec ℕ Global) (word : List ℕ) (more : List (List ℕ)) (f : Front) (o : Option Front) (total : Option ℕ) → i < length all → word ≡ (get_or all i d).items
    → o ≡ step more f word → program_from more f i (words_of (drop i all)) ≡ total → program_or i o (λ g. program_from more g (i + 1) (words_of (drop (i + 1) all))) ≡ total
next-word all i d word more f o total inside is s h =
    let rest : List (List ℕ) = words_of (drop (i + 1) all) in
    let whole : words_of (drop i all) ≡ word ∷ rest = ap words_of (drop_more all i d inside) ∙ ap (λ w. w ∷ rest) (sym is) in
    ap (λ p. program_or i p (λ g. program_from more g (i + 1) rest)) s ∙ ap (program_from more f i) (sym whole) ∙ h

pub step-on : (all : List (Vec ℕ Global)) (i : ℕ) (d : Vec ℕ Global) (word : List ℕ) (more : List (List ℕ)) (f g : Front) (total : Option ℕ) → i < length all → word ≡ (get_or all i d).items
    → Some g ≡ step more f word → program_from more f i (words_of (drop i all)) ≡ total → program_from more g (i + 1) (words_of (drop (i + 1) all)) ≡ total
step-on all i d word more f g total inside is s h = next-word all i d word more f (Some g) total inside is s h

pub stop-on : (all : List (Vec ℕ Global)) (i : ℕ) (d : Vec ℕ Global) (word : List ℕ) (more : List (List ℕ)) (f : Front) (total : Option ℕ) → i < length all → word ≡ (get_or all i d).items
    → None ≡ step more f word → program_from more f i (words_of (drop i all)) ≡ total → Some i ≡ total
stop-on all i d word more f total inside is s h = next-word all i d word more f None total inside is s h
