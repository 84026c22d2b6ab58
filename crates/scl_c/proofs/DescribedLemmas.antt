-- What is given where a description is requested, by what is given of its text.
use Rattle.std.proofs.Common.{◌≡◌, inl, inr, ℕ, ℤ, pos, true, false, List, Result, refl, rules}
use Rattle.scl_c.specs.Texts.{IsTextGiven}
use Rattle.scl_c.specs.Texts as texts
use Rattle.scl_c.specs.Described.{is_setting, line_at, IsDescribed, IsStatus}

status-of : (status : ℤ) → texts.IsStatus status → IsStatus status
status-of status (inl e) = inl e
status-of status (inr (inl e)) = inr (inl e)
status-of status (inr (inr (inl e))) = inr (inr (inl e))
status-of status (inr (inr (inr e))) = inr (inr (inr (inl e)))

not-newer : (status : ℤ) → texts.IsStatus status → status ≡ pos 5 → ⊥
not-newer status (inl e) five = absurd (cc)
not-newer status (inr (inl e)) five = absurd (cc)
not-newer status (inr (inr (inl e))) five = absurd (cc)
not-newer status (inr (inr (inr e))) five = absurd (cc)

-- a status that is none of a bad line
pub given_otherwise : (Answers : Result (List ℕ) ℕ → Type 0) (request old new : List ℕ) (wanted : ℕ) (status : ℤ) → IsTextGiven Answers old new wanted status → (status ≡ pos 2 → ⊥) →
    IsDescribed Answers request old new wanted status
given_otherwise Answers request old new wanted status h otherwise = record {
  known = status-of status h.known;
  given = h.given;
  short = h.short;
  bad_line = λ two. absurd (otherwise two);
  no_memory = h.no_memory;
  newer = λ five. absurd (not-newer status h.known five);
}

-- that of a bad line, which is one of a setting
pub given_newer : (Answers : Result (List ℕ) ℕ → Type 0) (request old new : List ℕ) (wanted : ℕ) (status : ℤ) → IsTextGiven Answers old new wanted status → status ≡ pos 2 →
    is_setting (line_at wanted request) ≡ true → IsDescribed Answers request old new wanted (pos 5)
given_newer Answers request old new wanted status h two is = record {
  known = inr (inr (inr (inr refl)));
  given = search rules;
  short = search rules;
  bad_line = search rules;
  no_memory = search rules;
  newer = λ five. record { is_answer = (h.bad_line two).0; is_of_setting = is; is_kept = (h.bad_line two).1 };
}

-- that of a bad line, which is none
pub given_bad : (Answers : Result (List ℕ) ℕ → Type 0) (request old new : List ℕ) (wanted : ℕ) (status : ℤ) → IsTextGiven Answers old new wanted status → status ≡ pos 2 →
    is_setting (line_at wanted request) ≡ false → IsDescribed Answers request old new wanted (pos 2)
given_bad Answers request old new wanted status h two is = record {
  known = inr (inr (inl refl));
  given = search rules;
  short = search rules;
  bad_line = λ e. record { is_answer = (h.bad_line two).0; is_of_setting = is; is_kept = (h.bad_line two).1 };
  no_memory = search rules;
  newer = search rules;
}
