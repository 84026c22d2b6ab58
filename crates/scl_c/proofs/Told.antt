-- What is told of a text of which a catalogue is wanted, by what is told of the catalogue or of the error.
use Rattle.std.proofs.Common.{◌≡◌, ℕ, List, refl, sym, ◌∙◌, ap}
use Rattle.std.specs.Prelude.{ℤ, pos}
use native.Mathlib.Omega.{arith}
use mathlib.Core.Logic.{inl, inr}
use base.Fml.{ftrue}
use denote.RawPtr.{Ptr}
use lib.IntN.{negsuc}
use Rattle.std.specs.Global.{Global}
use Rattle.scl_catalogue_default.specs.Over.{read_over, IsWrongOver}
use Rattle.scl_catalogue_text.specs.Outcome.{ReadsTextNot}
use Rattle.scl_catalogue_text.specs.declared.mistake.ReadError.{ReadError}
use Rattle.scl_catalogue_text.specs.declared.mistake.ReadError.TheVariants as error
use Rattle.scl_c.specs.Catalogues.{IsMade, IsUnreadBy}
use Rattle.scl_c.specs.Memory.{handed}
use Rattle.scl_c.proofs.CatalogueLemmas.{first_wrong}

-- the number of a status
abbrev number : ℤ → ℕ
number (pos n) = n
number (negsuc n) = n

is_not : (status : ℤ) (m n : ℕ) → status ≡ pos m → status ≡ pos n → (m ≡ n → ⊥) → ⊥
is_not status m n here there other = other (sym (ap number here) ∙ ap number there)

pub made_is : (text : List ℕ) (old new : Ptr) (wanted : ℕ) (status : ℤ) → (status ≡ pos 0) × (wanted ≡ 0) → IsMade text old new wanted status
made_is text old new wanted status told = record {
  known = inl told.0;
  made = λ _. told.1;
  wrong = λ six. absurd (is_not status 0 6 told.0 six (λ e. omega (arith, e)));
  no_memory = λ three. absurd (is_not status 0 3 told.0 three (λ e. omega (arith, e)));
}

-- the handle is as it was
pub unread_is : (text : List ℕ) (e : ReadError) (handle : Ptr) (wanted : ℕ) (status : ℤ) → ReadsTextNot e (read_over text) → IsWrongOver text e → IsUnreadBy e wanted status → IsMade text handle handle wanted status
unread_is text (error.BadLine bad) handle wanted status unread is told = record {
  known = inr (inl told.1);
  made = λ zero. absurd (is_not status 6 0 told.1 zero (λ e. omega (arith, e)));
  wrong = λ _. (
    record {
      bad = bad;
      is_unread = unread;
      number_is = told.0;
      is_first = first_wrong text (error.BadLine bad) wanted status is told told.1;
    },
    refl,
  );
  no_memory = λ three. absurd (is_not status 6 3 told.1 three (λ e. omega (arith, e)));
}
unread_is text error.Memory handle wanted status unread is told = record {
  known = inr (inr told.1);
  made = λ zero. absurd (is_not status 3 0 told.1 zero (λ e. omega (arith, e)));
  wrong = λ six. absurd (is_not status 3 6 told.1 six (λ e. omega (arith, e)));
  no_memory = λ _. (told.0, refl);
}

-- nothing is handed out with an error
pub none_handed : (alloc : Global) (text : List ℕ) (p : Ptr) (e : ReadError) (wanted : ℕ) (status : ℤ) → IsUnreadBy e wanted status → handed alloc text p status ≡ ftrue
none_handed alloc text p (error.BadLine bad) wanted status told = ap (λ (n : ℤ). handed alloc text p n) told.1
none_handed alloc text p error.Memory wanted status told = ap (λ (n : ℤ). handed alloc text p n) told.1
