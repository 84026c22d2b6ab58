-- What true replies tell of a machine.
use Rattle.std.proofs.Common.{◌≡◌, Bool, true, false, cond, inl, inr, List, [], ◌∷◌, ◌++◌, map, Option, Some, refl, sym, ap, ◌∙◌}
use Rattle.scl_values.specs.Each.{Each, Has}
use Rattle.scl_lookup.specs.Lists.{Agree}
use Rattle.scl_lookup.specs.Questions.{Question, env, program, file, bytes, names, real, times, run, Machine}
use Rattle.scl_questions.specs.Answers.{Reply, reply_on, reply_to, fits, value_in, tool_in, standing_in, content_in, listed_in, path_in, stamp_in, written_in, told}
use Rattle.scl_questions.specs.Same.{same}
use Rattle.scl_questions.proofs.SameLaws.{same_one, same_self}

-- the true replies to questions
abbrev pub truth : Machine → List Question → List Reply
truth m questions = map (reply_on m) questions

pub truth_both : (m : Machine) (a b : List Question) → truth m (a ++ b) ≡ truth m a ++ truth m b
truth_both m [] b = refl
truth_both m (q ∷ a) b = ap (λ rest. reply_on m q ∷ rest) (truth_both m a b)

pub fits_on : (m : Machine) (q : Question) → fits q (reply_on m q) ≡ true
fits_on m (env name) = refl
fits_on m (program name) = refl
fits_on m (file path) = refl
fits_on m (bytes path) = refl
fits_on m (names path) = refl
fits_on m (real path) = refl
fits_on m (times path) = refl
fits_on m (run language words) = refl

-- ---- a question that was asked has the true reply

found_by : (m : Machine) (first q : Question) (asked : List Question) (rest : List Reply) (b : Bool) → same first q ≡ b → Has (first ∷ asked) q → (Has asked q → reply_to q asked rest ≡ Some (reply_on m q))
    → cond b (Some (reply_on m first)) (reply_to q asked rest) ≡ Some (reply_on m q)
found_by m first q asked rest true is has more = ap (λ it. Some (reply_on m it)) (same_one first q is)
found_by m first q asked rest false is (inl e) more = absurd (let no : false ≡ true = sym is ∙ ap (λ it. same it q) e ∙ same_self q in cc)
found_by m first q asked rest false is (inr has) more = more has

found : (m : Machine) (q : Question) (asked : List Question) (more : List Reply) → Has asked q → reply_to q asked (truth m asked ++ more) ≡ Some (reply_on m q)
found m q [] more has = absurd has
found m q (first ∷ asked) more has = found_by m first q asked (truth m asked ++ more) (same first q) refl has (λ it. found m q asked more it)

told_one : (m : Machine) (asked : List Question) (replies : List Reply) (q : Question) → reply_to q asked replies ≡ Some (reply_on m q) → told asked replies q ≡ m q
told_one m asked replies (env name) e = ap value_in e
told_one m asked replies (program name) e = ap tool_in e
told_one m asked replies (file path) e = ap standing_in e
told_one m asked replies (bytes path) e = ap content_in e
told_one m asked replies (names path) e = ap listed_in e
told_one m asked replies (real path) e = ap path_in e
told_one m asked replies (times path) e = ap stamp_in e
told_one m asked replies (run language words) e = ap written_in e

each_had : (P : Question → Type 0) (asked : List Question) → ((q : Question) → Has asked q → P q) → Each P asked
each_had P [] h = tt
each_had P (q ∷ asked) h = (h q (inl refl), each_had P asked (λ p has. h p (inr has)))

-- the machine that true replies describe answers what was asked as the machine itself does
pub told_agrees : (m : Machine) (asked : List Question) (more : List Reply) → Agree (told asked (truth m asked ++ more)) m asked
told_agrees m asked more =
    each_had (λ q. told asked (truth m asked ++ more) q ≡ m q) asked (λ q has. told_one m asked (truth m asked ++ more) q (found m q asked more has))
