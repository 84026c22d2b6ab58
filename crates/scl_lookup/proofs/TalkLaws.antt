-- With an honest caller a lookup ends, with the value on the machine.
use Rattle.std.proofs.Common.{◌≡◌, ◌≤◌, ℕ, zero, suc, cond, not, is_some, List, [], ◌∷◌, Option, None, Some, refl, ap, ◌∙◌, arith}
use Rattle.std.specs.Option.{option_map_or, option_zip}
use Rattle.scl_values.specs.Each.{Each}
use Rattle.scl_lookup.specs.Callers.{Known, answers_in, lacking, Next, look_up, ends, next, Caller, IsTrueOf, IsHonest, go_on, talk, LookupsEnd}
use Rattle.scl_lookup.specs.Lookups.{Answers, answers_on, Lookup, found, nothing, ask, value_on}
use Rattle.scl_lookup.specs.Questions.{Question, Answer, Machine}

-- ---- what is known

abbrev AreKnown : Machine → Known → List Question → Type 0
AreKnown m known qs = Each (λ q. known q ≡ Some (m q)) qs

-- what a caller knows afterwards has all that was known
abbrev Keeps : Known → Known → Type 0
Keeps known after = (q : Question) (answer : Answer q) → known q ≡ Some answer → after q ≡ Some answer

all_known : (m : Machine) (known : Known) (qs : List Question) → AreKnown m known qs → answers_in known qs ≡ Some (answers_on m qs)
all_known m known [] h = refl
all_known m known (q ∷ qs) h = ap (λ a. option_zip a (answers_in known qs)) h.0 ∙ ap (option_zip (Some (m q))) (all_known m known qs h.1)

known_first : (m : Machine) (known : Known) (q : Question) (o : Option (Answer q)) → known q ≡ o → IsTrueOf m known
    → (qs : List Question) (r : Option (Answers qs)) (all : Answers (q ∷ qs)) → option_zip o r ≡ Some all → known q ≡ Some (m q)
known_first m known q None is true_of qs r all h = absurd (cc)
known_first m known q (Some a) is true_of qs r all h = is ∙ ap Some (true_of q a is)

known_rest : (q : Question) (qs : List Question) (o : Option (Answer q)) (r : Option (Answers qs)) (all : Answers (q ∷ qs)) → option_zip o r ≡ Some all → (rest : Answers qs) × (r ≡ Some rest)
known_rest q qs None r all h = absurd (cc)
known_rest q qs (Some a) None all h = absurd (cc)
known_rest q qs (Some a) (Some rest) all h = (rest, refl)

were_known : (m : Machine) (known : Known) → IsTrueOf m known → (qs : List Question) (all : Answers qs) → answers_in known qs ≡ Some all → AreKnown m known qs
were_known m known true_of [] all h = tt
were_known m known true_of (q ∷ qs) all h =
    let rest = known_rest q qs (known q) (answers_in known qs) all h in
    (known_first m known q (known q) refl true_of qs (answers_in known qs) all h, were_known m known true_of qs rest.0 rest.1)

learned_one : (m : Machine) (known after : Known) → IsTrueOf m known → Keeps known after
    → (q : Question) (qs : List Question) (o : Option (Answer q)) → known q ≡ o → AreKnown m after (cond (not (is_some o)) (q ∷ qs) qs) → (after q ≡ Some (m q)) × AreKnown m after qs
learned_one m known after true_of keeps q qs None is h = h
learned_one m known after true_of keeps q qs (Some a) is h = (keeps q a is ∙ ap Some (true_of q a is), h)

learned : (m : Machine) (known after : Known) → IsTrueOf m known → Keeps known after → (qs : List Question) → AreKnown m after (lacking known qs) → AreKnown m after qs
learned m known after true_of keeps [] h = tt
learned m known after true_of keeps (q ∷ qs) h =
    let parts = learned_one m known after true_of keeps q (lacking known qs) (known q) refl h in
    (parts.0, learned m known after true_of keeps qs parts.1)

still_known : (m : Machine) (known after : Known) → Keeps known after → (qs : List Question) → AreKnown m known qs → AreKnown m after qs
still_known m known after keeps [] h = tt
still_known m known after keeps (q ∷ qs) h = (keeps q (m q) h.0, still_known m known after keeps qs h.1)

-- ---- a round whose answers are known is over

-- a talk about this lookup, from the next round on
abbrev talk_on : {A : Type 0} → ℕ → Caller → Known → Lookup A → List Question → Next A
talk_on k caller known lookup questions = talk k caller (caller known questions) lookup

next_known : {A : Type 0} (m : Machine) (known : Known) (qs : List Question) (behind : Answers qs → Lookup A) → AreKnown m known qs → next known (ask qs behind) ≡ next known (behind (answers_on m qs))
next_known m known qs behind h = ap (λ all. option_map_or (λ answers. next known (behind answers)) all (look_up (lacking known qs))) (all_known m known qs h)

go_on_alike : {A : Type 0} (s : Next A) (f g : List Question → Next A) → ((qs : List Question) → f qs ≡ g qs) → go_on s f ≡ go_on s g
go_on_alike (look_up questions) f g h = h questions
go_on_alike (ends value) f g h = refl

talk_known : {A : Type 0} (m : Machine) (caller : Caller) → IsHonest m caller → (k : ℕ) (known : Known) (qs : List Question) (behind : Answers qs → Lookup A) → AreKnown m known qs
    → talk k caller known (ask qs behind) ≡ talk k caller known (behind (answers_on m qs))
talk_known m caller honest zero known qs behind h = next_known m known qs behind h
talk_known m caller honest (suc k) known qs behind h =
    ap (λ s. go_on s (talk_on k caller known (ask qs behind))) (next_known m known qs behind h)
    ∙ go_on_alike (next known (behind (answers_on m qs))) (talk_on k caller known (ask qs behind)) (talk_on k caller known (behind (answers_on m qs)))
    (λ more. talk_known m caller honest k (caller known more) qs behind (still_known m known (caller known more) (honest.keeps known more) qs h))

-- ---- it ends

-- a lookup ends, whatever is known
abbrev Ends : {A : Type 0} → Machine → Caller → ℕ → Lookup A → Type 0
Ends m caller n lookup = (k : ℕ) (known : Known) → IsTrueOf m known → n ≤ k → talk k caller known lookup ≡ ends (value_on m lookup)

end_known : {A : Type 0} (m : Machine) (caller : Caller) → IsHonest m caller → (qs : List Question) (behind : Answers qs → Lookup A) (n : ℕ) → Ends m caller n (behind (answers_on m qs))
    → (k : ℕ) (known : Known) → IsTrueOf m known → n ≤ k → AreKnown m known qs → talk k caller known (ask qs behind) ≡ ends (value_on m (behind (answers_on m qs)))
end_known m caller honest qs behind n rest k known true_of le are = talk_known m caller honest k known qs behind are ∙ rest k known true_of le

next_asked : {A : Type 0} (known : Known) (qs : List Question) (behind : Answers qs → Lookup A) → answers_in known qs ≡ None → next known (ask qs behind) ≡ look_up (lacking known qs)
next_asked known qs behind h = ap (λ all. option_map_or (λ answers. next known (behind answers)) all (look_up (lacking known qs))) h

end_ask : {A : Type 0} (m : Machine) (caller : Caller) → IsHonest m caller → (qs : List Question) (behind : Answers qs → Lookup A) (n : ℕ) → Ends m caller n (behind (answers_on m qs))
    → (k : ℕ) (known : Known) → IsTrueOf m known → n ≤ k → (o : Option (Answers qs)) → answers_in known qs ≡ o
    → talk (suc k) caller known (ask qs behind) ≡ ends (value_on m (behind (answers_on m qs)))
end_ask m caller honest qs behind n rest k known true_of le (Some all) is =
    end_known m caller honest qs behind n rest (suc k) known true_of (omega (arith, le)) (were_known m known true_of qs all is)
end_ask m caller honest qs behind n rest k known true_of le None is =
    let more = lacking known qs in
    ap (λ s. go_on s (talk_on k caller known (ask qs behind))) (next_asked known qs behind is)
    ∙ end_known m caller honest qs behind n rest k (caller known more) (honest.is_true known more true_of) le
    (learned m known (caller known more) true_of (honest.keeps known more) qs (honest.answers known more))

pub lookups_end : {A : Type 0} → LookupsEnd A
lookups_end m caller honest (found value) n zero known true_of within le = refl
lookups_end m caller honest (found value) n (suc k) known true_of within le = refl
lookups_end m caller honest nothing n zero known true_of within le = refl
lookups_end m caller honest nothing n (suc k) known true_of within le = refl
lookups_end m caller honest (ask qs behind) zero k known true_of within le = absurd within
lookups_end m caller honest (ask qs behind) (suc n) zero known true_of within le = absurd (omega (arith, le))
lookups_end m caller honest (ask qs behind) (suc n) (suc k) known true_of within le =
    end_ask m caller honest qs behind n (λ j after true_after more. lookups_end m caller honest (behind (answers_on m qs)) n j after true_after (within (answers_on m qs)) more)
    k known true_of (omega (arith, le)) (answers_in known qs) refl
