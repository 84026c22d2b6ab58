-- A value is decided by what was asked for it.
use Rattle.std.proofs.Common.{◌≡◌, List, [], ◌∷◌, ◌++◌, refl, ap, ◌∙◌}
use Rattle.scl_lookup.specs.Lists.{asked_on, Agree, KeysAreDecided, ListsAreRight}
use Rattle.scl_lookup.specs.Lookups.{Answers, answers_on, found, nothing, ask, value_on}
use Rattle.scl_lookup.specs.Questions.{Question, Machine}

agree_first : (v w : Machine) (qs rs : List Question) → Agree v w (qs ++ rs) → Agree v w qs
agree_first v w [] rs h = tt
agree_first v w (q ∷ qs) rs h = (h.0, agree_first v w qs rs h.1)

agree_rest : (v w : Machine) (qs rs : List Question) → Agree v w (qs ++ rs) → Agree v w rs
agree_rest v w [] rs h = h
agree_rest v w (q ∷ qs) rs h = agree_rest v w qs rs h.1

answers_alike : (v w : Machine) (qs : List Question) → Agree v w qs → answers_on v qs ≡ answers_on w qs
answers_alike v w [] h = refl
answers_alike v w (q ∷ qs) h = ap (λ answer. (answer, answers_on v qs)) h.0 ∙ ap (λ (rest : Answers qs). (w q, rest)) (answers_alike v w qs h.1)

pub keys_are_decided : {A : Type 0} → KeysAreDecided A
keys_are_decided v w (found value) h = refl
keys_are_decided v w nothing h = refl
keys_are_decided v w (ask qs behind) h =
    keys_are_decided v w (behind (answers_on v qs)) (agree_rest v w qs (asked_on v (behind (answers_on v qs))) h)
    ∙ ap (λ answers. value_on w (behind answers)) (answers_alike v w qs (agree_first v w qs (asked_on v (behind (answers_on v qs))) h))

pub lists_are_right : {A : Type 0} → ListsAreRight A
lists_are_right v w lookup decided h = keys_are_decided v w lookup (decided h)
