-- Exactly what the rule leaves is left of words, in order.
use Rattle.std.proofs.Common.{◌≡◌, ℕ, zero, suc, List, [], ◌∷◌, drop, refl, sym, ap, subst, ◌∙◌, arith}
use Rattle.scl_gnu.specs.OutputFiles.{file_count, left_behind, without_output_files, LeavesOut, ends, keeps, leaves, StandIn, none, next, later, OutputFilesAreLeftOut}
use Rattle.scl_gnu.proofs.OutputFileLemmas.{step, without-nil, without-kept, without-left}

left : (n : ℕ) (words : List (List ℕ)) → LeavesOut (drop n words) (left_behind n words)
left zero [] = ends
left (suc n) [] = ends
left (suc n) (word ∷ words) = left n words
left zero (word ∷ words) =
    elim (file_count (word ∷ words)) as (λ n. file_count (word ∷ words) ≡ n → LeavesOut (word ∷ words) (step word words n)) [
      | zero ↦ λ e. keeps word words (left_behind 0 words) e (left 0 words)
      | suc n ↦ λ e. leaves word words (left_behind n words) (omega arith) (subst (λ m. LeavesOut (drop m (word ∷ words)) (left_behind n words)) (sym e) (left n words))
    ] refl

alone : (words kept : List (List ℕ)) → LeavesOut words kept → kept ≡ without_output_files words
alone _ _ ends = sym without-nil
alone _ _ (keeps word words kept e rest) = ap (λ ws. word ∷ ws) (alone words kept rest) ∙ sym (without-kept word words e)
alone _ _ (leaves word words kept some rest) = alone _ kept rest ∙ sym (without-left _ (word ∷ words) refl some)

in_order : (n : ℕ) (words : List (List ℕ)) → StandIn (left_behind n words) words
in_order zero [] = none
in_order (suc n) [] = none
in_order (suc n) (word ∷ words) = later word _ _ (in_order n words)
in_order zero (word ∷ words) =
    elim (file_count (word ∷ words)) as (λ n. StandIn (step word words n) (word ∷ words)) [
      | zero ↦ next word (left_behind 0 words) words (in_order 0 words)
      | suc n ↦ later word (left_behind n words) words (in_order n words)
    ]

pub output-files-are-left-out : OutputFilesAreLeftOut
unfolding without_output_files
output-files-are-left-out words = record {
  are_left = left 0 words;
  alone = alone words;
  stand_in_order = in_order 0 words;
}
