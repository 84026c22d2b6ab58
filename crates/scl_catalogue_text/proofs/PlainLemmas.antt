-- Patterns without marks, but for a star at the end.
use Rattle.std.proofs.Common.{◌≡◌, ◌∙◌, ℕ, ◌==◌, true, false, not, ◌&&◌, List, [], ◌∷◌, ◌++◌, Ok, refl, ap}
use Rattle.std.proofs.lemmas.Bool.{not-true}
use Rattle.std.proofs.lemmas.List.{append-nil}
use Rattle.std.specs.List.{list_any}
use Rattle.scl_catalogue.specs.declared.text.How.TheVariants as how
use Rattle.scl_catalogue_text.specs.Cutting.{parts}
use Rattle.scl_catalogue_text.specs.Reading.{pattern_read, starred_parts, unescaped}
use Rattle.scl_catalogue_text.proofs.SplitLemmas.{one_part, parts-mark, star_last}
use Rattle.scl_catalogue_text.proofs.TestLemmas.{and-left, and-right}

no-stars : (bs : List ℕ) → (not (list_any (λ b. b == 42) bs) && not (list_any (λ b. b == 92) bs)) ≡ true → list_any (λ b. b == 42) bs ≡ false
no-stars bs h = not-true (list_any (λ b. b == 42) bs) (and-left (not (list_any (λ b. b == 42) bs)) (not (list_any (λ b. b == 92) bs)) h)

no-escapes : (bs : List ℕ) → (not (list_any (λ b. b == 42) bs) && not (list_any (λ b. b == 92) bs)) ≡ true → list_any (λ b. b == 92) bs ≡ false
no-escapes bs h = not-true (list_any (λ b. b == 92) bs) (and-right (not (list_any (λ b. b == 42) bs)) (not (list_any (λ b. b == 92) bs)) h)

pub plain_is : (word : List ℕ) → (not (list_any (λ b. b == 42) word) && not (list_any (λ b. b == 92) word)) ≡ true → pattern_read word ≡ Ok (record { how = how.Is; text = word })
unfolding pattern_read starred_parts unescaped
plain_is word h = rw (one_part 42 word (no-stars word h)) (rw (one_part 92 word (no-escapes word h)) (rw append-nil refl))

pub plain_begins : (word text : List ℕ) (last : ℕ) → word ≡ text ++ last ∷ [] → last ≡ 42 → (not (list_any (λ b. b == 42) text) && not (list_any (λ b. b == 92) text)) ≡ true → pattern_read word ≡ Ok (record { how = how.Begins; text = text })
unfolding pattern_read starred_parts unescaped
plain_begins word text last e star h =
    rw (star_last 42 word text last e star (no-stars text h)) (rw (one_part 92 text (no-escapes text h)) (rw append-nil refl))

holds-parts : (word w text : List ℕ) (last first : ℕ) → word ≡ w ++ last ∷ [] → last ≡ 42 → w ≡ first ∷ text → first ≡ 42 → list_any (λ b. b == 42) text ≡ false → parts 42 word ≡ [] ∷ text ∷ [] ∷ []
holds-parts word w text last first e star f front h =
    rw (e, star, f, front) (parts-mark 42 (text ++ 42 ∷ []) ∙ ap (λ ps. [] ∷ ps) (star_last 42 (text ++ 42 ∷ []) text 42 refl refl h))

pub plain_holds : (word w text : List ℕ) (last first : ℕ) → word ≡ w ++ last ∷ [] → last ≡ 42 → w ≡ first ∷ text → first ≡ 42 → (not (list_any (λ b. b == 42) text) && not (list_any (λ b. b == 92) text)) ≡ true → pattern_read word ≡ Ok (record { how = how.Holds; text = text })
unfolding pattern_read starred_parts unescaped
plain_holds word w text last first e star f front h =
    rw (holds-parts word w text last first e star f front (no-stars text h)) (rw (one_part 92 text (no-escapes text h)) (rw append-nil refl))
