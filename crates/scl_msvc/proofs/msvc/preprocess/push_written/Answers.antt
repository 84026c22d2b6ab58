use Rattle.std.proofs.Common.{◌≡◌, ◌++◌, ◌∷◌, [], ℕ, List, append_assoc, ap, ◌∙◌}
use Rattle.scl_values.specs.Words.{words_of}
use Rattle.scl_msvc.proofs.msvc.preprocess.push_written.Goals as goal

two : (made first second : List (List ℕ)) (a b : List ℕ) → first ≡ made ++ a ∷ [] → second ≡ first ++ b ∷ [] → second ≡ made ++ (a ∷ (b ∷ []))
two made first second a b h k = rw (k, h) (append_assoc made (a ∷ []) (b ∷ []))

pub returns-in_ok-push_word-2 : goal.returns-in_ok-push_word-2
returns-in_ok-push_word-2 c =
    rw c.in-Some.is
    (two _ _ _ _ _ c.in_ok-push_word.ensures.ok (c.in_ok-push_word-2.ensures.ok ∙ ap (λ bytes. words_of c.push_word.new.list.items ++ bytes ∷ []) c.deref.ensures.value))
