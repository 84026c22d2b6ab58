-- What is left of words without those that make the preprocessor write a file.
use Rattle.std.proofs.Common.{◌≡◌, ℕ, zero, suc, ◌<◌, Bool, true, false, List, [], ◌∷◌, ◌++◌, drop, length, append_assoc, refl, sym, ap, ◌∙◌, arith}
use Rattle.std.proofs.lemmas.List.Folds.{list_any_at, list_any_none}
use Rattle.std.proofs.lemmas.List.{append-nil, drop-map}
use Rattle.std.specs.Bool.{MatchBool}
use Rattle.std.specs.List.{AllWithin, HoldsAt, list_any}
use Rattle.std.specs.Prelude.{Vec}
use Rattle.std.specs.declared.alloc.Global.{Global}
use Rattle.std.proofs.Common.{get_or}
use Rattle.scl_values.specs.Words.{words_of}
use Rattle.scl_gnu.specs.OutputFiles.{file_count, left_behind, without_output_files}

-- what is left after n words is what is left of the others
pub left_behind-drop : (n : ℕ) (words : List (List ℕ)) → left_behind n words ≡ left_behind 0 (drop n words)
left_behind-drop zero words = refl
left_behind-drop (suc n) [] = refl
left_behind-drop (suc n) (word ∷ words) = left_behind-drop n words

nothing : file_count [] ≡ 0
unfolding file_count
nothing = refl

pub any-result : (t : List ℕ → Bool) (all : List (List ℕ)) (r : Bool) → MatchBool r ((k : ℕ) × (k < length all) × HoldsAt (λ x. t x ≡ true) all k) (AllWithin (λ x. t x ≡ false) all 0 (length all)) → r ≡ list_any t all
any-result t all true h = sym (list_any_at t all h.0 [] h.1 (h.2 []))
any-result t all false h = sym (list_any_none t all (λ k d lt. h k d (omega arith) lt))

abbrev pub step : List ℕ → List (List ℕ) → ℕ → List (List ℕ)
step word words n = elim n [ zero ↦ word ∷ left_behind 0 words | suc m ↦ left_behind m words ]

at-step : (word : List ℕ) (words : List (List ℕ)) (n : ℕ) → file_count (word ∷ words) ≡ n → without_output_files (word ∷ words) ≡ step word words n
unfolding without_output_files
at-step word words n h = ap (step word words) h

pub without-nil : without_output_files [] ≡ []
unfolding without_output_files
without-nil = refl

pub without-kept : (word : List ℕ) (words : List (List ℕ)) → file_count (word ∷ words) ≡ 0 → without_output_files (word ∷ words) ≡ word ∷ without_output_files words
unfolding without_output_files
without-kept word words h = at-step word words 0 h

pub without-left : (n : ℕ) (words : List (List ℕ)) → file_count words ≡ n → 0 < n → without_output_files words ≡ without_output_files (drop n words)
unfolding without_output_files
without-left n [] h some = absurd (omega (arith, nothing, h))
without-left zero (word ∷ words) h some = absurd (omega arith)
without-left (suc n) (word ∷ words) h some = at-step word words (suc n) h ∙ left_behind-drop n words

-- the same of the code's words
pub kept-first : (rest : List (Vec ℕ Global)) (word : Vec ℕ Global) → 0 < length rest → word ≡ get_or rest 0 word → 0 ≡ file_count (words_of rest) → word.items ∷ without_output_files (words_of (drop 1 rest)) ≡ without_output_files (words_of rest)
kept-first [] word some first h = absurd (omega arith)
kept-first (w ∷ rest) word some first h = rw first (sym (without-kept w.items (words_of rest) (sym h)))

pub left_first : (n : ℕ) (rest : List (Vec ℕ Global)) → n ≡ file_count (words_of rest) → 0 < n → without_output_files (words_of (drop n rest)) ≡ without_output_files (words_of rest)
left_first n rest h some = ap without_output_files (sym (drop-map (λ (word : Vec ℕ Global). word.items) n rest)) ∙ sym (without-left n (words_of rest) (sym h) some)

pub kept-more : (made more all : List (List ℕ)) (rest behind : List (Vec ℕ Global)) (word : Vec ℕ Global) (bytes : List ℕ) → more ≡ made ++ bytes ∷ [] → bytes ≡ word.items → 0 < length rest → word ≡ get_or rest 0 word → 0 ≡ file_count (words_of rest)
    → behind ≡ drop 1 rest → made ++ without_output_files (words_of rest) ≡ all → more ++ without_output_files (words_of behind) ≡ all
kept-more made more all rest behind word bytes e same some first h back sofar =
    rw (e, back) (append_assoc made (bytes ∷ []) _ ∙ ap (λ b. made ++ b ∷ without_output_files (words_of (drop 1 rest))) same ∙ ap (λ ws. made ++ ws) (kept-first rest word some first h) ∙ sofar)

pub none-left : (made all : List (List ℕ)) (rest : List (Vec ℕ Global)) → length rest < 1 → made ++ without_output_files (words_of rest) ≡ all → made ≡ all
none-left made all [] none sofar = sym (append-nil made) ∙ ap (λ ws. made ++ ws) (sym without-nil) ∙ sofar
none-left made all (w ∷ rest) none sofar = absurd (omega arith)
