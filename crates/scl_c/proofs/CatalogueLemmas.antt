-- What is given by what is read of a catalogue's text.
use Rattle.std.proofs.Common.{◌≡◌, ◌<◌, inl, inr, ℕ, ℤ, pos, Bool, true, false, List, Result, Ok, Err, refl, sym, subst}
use Rattle.scl_catalogue.specs.Form.{Catalogue}
use Rattle.scl_catalogue_default.specs.Over.{IsWrongOver}
use Rattle.scl_catalogue_text.specs.Outcome.{ReadsTextNot}
use Rattle.scl_catalogue_text.specs.declared.mistake.BadLine.{BadLine}
use Rattle.scl_catalogue_text.specs.declared.mistake.ReadError.{ReadError}
use Rattle.scl_catalogue_text.specs.declared.mistake.ReadError.TheVariants as error
use Rattle.scl_description.specs.Lines.{lines_of}
use Rattle.scl_requests.specs.Requests.{AnswersBy, AnswersBytes, is_described, kind_of}
use Rattle.scl_requests.specs.declared.requests.Kind.{Kind}
use Rattle.scl_requests.specs.declared.requests.Kind.TheVariants as kinds
use Rattle.scl_c.specs.Described.{IsDescribed, IsStatus}
use Rattle.scl_c.specs.Catalogues.{IsDescribedBy, IsDescribedWhere, IsFirstWrongLine, IsUnreadBy}

pub by_catalogue : (r : Result Catalogue BadLine) (catalogue : Catalogue) (request old new : List ℕ) (wanted : ℕ) (status : ℤ) → r ≡ Ok catalogue →
    IsDescribed (AnswersBytes catalogue request) request old new wanted status → IsDescribedBy r request old new wanted status
by_catalogue r catalogue request old new wanted status is h = subst (λ it. IsDescribedBy it request old new wanted status) (sym is) h

-- where memory was refused nothing is said of the text
by_none : (r : Result Catalogue BadLine) (request room : List ℕ) (wanted : ℕ) (status : ℤ) → wanted ≡ 0 → status ≡ pos 3 → IsDescribedBy r request room room wanted status
by_none (Ok catalogue) request room wanted status none three = record {
  known = inr (inr (inr (inl three)));
  given = λ e. absurd (cc);
  short = λ e. absurd (cc);
  bad_line = λ e. absurd (cc);
  no_memory = λ e. (none, refl);
  newer = λ e. absurd (cc);
}
by_none (Err bad) request room wanted status none three = record { known = inr three; wrong = λ e. absurd (cc); no_memory = λ e. none; is_kept = refl }

apart : {status : ℤ} → status ≡ pos 6 → status ≡ pos 3 → ⊥
apart six three = absurd (cc)

-- where no catalogue is read the room is as it was
pub by_unread : (r : Result Catalogue BadLine) (e : ReadError) (request room : List ℕ) (wanted : ℕ) (status : ℤ) → ReadsTextNot e r → IsUnreadBy e wanted status →
    IsDescribedBy r request room room wanted status
by_unread r (error.BadLine bad) request room wanted status is told =
    subst (λ it. IsDescribedBy it request room room wanted status) (sym is)
    (record { known = inl told.1; wrong = λ six. told.0; no_memory = λ three. absurd (apart told.1 three); is_kept = refl })
by_unread r error.Memory request room wanted status is told = by_none r request room wanted status told.0 told.1

-- an error never has the status of a description
pub never_told : (e : ReadError) (wanted : ℕ) (status : ℤ) → IsUnreadBy e wanted status → status ≡ pos 0 → ⊥
never_told (error.BadLine bad) wanted status (line, six) zero = absurd (cc)
never_told error.Memory wanted status (none, three) zero = absurd (cc)

-- a number from 1 on is that of a line of the text
pub first_wrong : (text : List ℕ) (e : ReadError) (wanted : ℕ) (status : ℤ) → IsWrongOver text e → IsUnreadBy e wanted status → status ≡ pos 6 → 0 < wanted → IsFirstWrongLine text wanted
first_wrong text (error.BadLine bad) wanted status is told six some = record { bad = bad; is_wrong = is (subst (λ n. 0 < n) told.0 some); number_is = told.0 }
first_wrong text error.Memory wanted status is (none, three) six some = absurd (cc)

no-six : (status : ℤ) → IsStatus status → status ≡ pos 6 → ⊥
no-six status (inl e) six = absurd (cc)
no-six status (inr (inl e)) six = absurd (cc)
no-six status (inr (inr (inl e))) six = absurd (cc)
no-six status (inr (inr (inr (inl e)))) six = absurd (cc)
no-six status (inr (inr (inr (inr e)))) six = absurd (cc)

-- a description never has the status of a wrong catalogue
pub never_wrong : (Answers : Result (List ℕ) ℕ → Type 0) (request old new : List ℕ) (wanted : ℕ) (status : ℤ) → IsDescribed Answers request old new wanted status → status ≡ pos 6 → ⊥
never_wrong Answers request old new wanted status h six = no-six status h.known six

any-kind : (kind : Kind) (c d : Catalogue) (request old new : List ℕ) (wanted : ℕ) (status : ℤ) → is_described kind ≡ false →
    IsDescribed (AnswersBy kind c request) request old new wanted status → IsDescribed (AnswersBy kind d request) request old new wanted status
any-kind kinds.Name c d request old new wanted status e h = h
any-kind kinds.Join c d request old new wanted status e h = h
any-kind kinds.Map c d request old new wanted status e h = h
any-kind kinds.Depfile c d request old new wanted status e h = h
any-kind kinds.MadeBy c d request old new wanted status e h = h
any-kind kinds.Lookup c d request old new wanted status e h = absurd (cc)
any-kind kinds.Description c d request old new wanted status e h = absurd (cc)

-- what is no description is answered alike by each catalogue
pub without_description : (c : Catalogue) (read : Result Catalogue BadLine) (request old new : List ℕ) (wanted : ℕ) (status : ℤ) → is_described (kind_of (lines_of request)) ≡ false →
    IsDescribed (AnswersBytes c request) request old new wanted status → IsDescribedWhere (is_described (kind_of (lines_of request))) read request old new wanted status
without_description c read request old new wanted status e h =
    subst (λ b. IsDescribedWhere b read request old new wanted status) (sym e) (λ d. any-kind (kind_of (lines_of request)) c d request old new wanted status e h)

pub with_description : (read : Result Catalogue BadLine) (request old new : List ℕ) (wanted : ℕ) (status : ℤ) → is_described (kind_of (lines_of request)) ≡ true →
    IsDescribedBy read request old new wanted status → IsDescribedWhere (is_described (kind_of (lines_of request))) read request old new wanted status
with_description read request old new wanted status e h = subst (λ b. IsDescribedWhere b read request old new wanted status) (sym e) h
