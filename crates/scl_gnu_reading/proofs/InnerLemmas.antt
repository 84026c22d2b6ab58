-- Inner command lines without words, and words as texts.
use Rattle.std.proofs.Common.{◌≡◌, ℕ, true, false, ◌==◌, List, [], length, Option, Vec, refl}
use Rattle.std.proofs.lemmas.Bool.{eqb-true}
use Rattle.std.proofs.lemmas.List.{nil_from_length}
use Rattle.std.proofs.lemmas.Str.{IsUtf8-from_is_utf8, is_utf8-from_IsUtf8}
use Rattle.std.specs.Prelude.{Ok}
use Rattle.std.specs.Str.{IsUtf8, is_utf8}
use Rattle.std.specs.declared.alloc.Global.{Global}
use Rattle.scl_values.specs.Seen.{Seen}
use Rattle.scl_values.specs.Words.{words_of}
use Rattle.scl_files.specs.Views.{Viewed}
use Rattle.scl_text.specs.Records.{Verdict}
use Rattle.scl_files.proofs.ExpandLemmas.{expand-nil}
use Rattle.scl_gnu_reading.specs.declared.gcc.data.Kind.{Kind}
use Rattle.scl_gnu_reading.specs.Inners.{inner_reading}

-- without words there are no options
pub none_inside : (verdict : List (Seen Kind) → Seen Kind → Option Verdict) (directory : List ℕ) (view : Viewed) (words : List (Vec ℕ Global))
    → (length words == 0) ≡ true → inner_reading verdict directory view (words_of words) ≡ Ok []
none_inside verdict directory view words e = rw (nil_from_length words (eqb-true (length words) 0 e), expand-nil _ directory view.files) refl

pub text-yes : (bs : List ℕ) → IsUtf8 bs → is_utf8 bs ≡ true
text-yes bs h = is_utf8-from_IsUtf8 bs h

pub text-no : (bs : List ℕ) → (IsUtf8 bs → ⊥) → is_utf8 bs ≡ false
text-no bs h = elim (is_utf8 bs) as (λ b. is_utf8 bs ≡ b → b ≡ false) [ true ↦ λ e. absurd (h (IsUtf8-from_is_utf8 bs e)) | false ↦ λ _. refl ] refl

pub ruleset text_rules = (text-yes, text-no)
