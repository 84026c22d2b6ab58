use Rattle.std.proofs.Common.{◌≡◌, List, ℕ, Result, Ok, Err, refl, sym, ap, ◌∙◌}
use Rattle.std.specs.Prelude.{IfOk}
use Rattle.scl_args.specs.Options.{◌>>=◌}
use Rattle.scl_args.specs.Promises.{IsFaithful}
use Rattle.scl_text.proofs.CompilerLaws.{command-kept}
use Rattle.scl_text.specs.Records.{Parsed}
use Rattle.scl_gnu_reading.specs.ClangRows.{clang_tables}
use Rattle.scl_msvc.specs.Building.{command_words}
use Rattle.scl_msvc.specs.Environment.{surrounded, surrounded_reading}
use Rattle.scl_msvc.specs.Promises.{msvc_line, MsvcCommandsAreFaithful}
use Rattle.scl_msvc.specs.ReadAgain.{parts, HasOneInput}
use Rattle.scl_msvc_reading.specs.Readings.{reading}
use Rattle.scl_msvc_reading.specs.Rows.{msvc_tables}
use Rattle.scl_msvc.proofs.NoFileLaws.{command-none}
use Rattle.scl_msvc.proofs.OneInputLaws.{one-input}
use Rattle.scl_msvc.proofs.ReadAgainLaws.{command-read}

if-ok : {A E : Type 0} (r : Result A E) (P : A → Type 0) → ((a : A) → r ≡ Ok a → P a) → IfOk r P
if-ok (Ok a) P h = h a refl
if-ok (Err e) P h = tt

pub command_kept : MsvcCommandsAreFaithful
command_kept is_clang directory pairs view words =
    let again : Parsed → List ℕ → List (List ℕ) → List (List ℕ) → Type 0 = λ p object built all.
    IsFaithful msvc_tables is_clang clang_tables (msvc_line is_clang directory view all) (parts p object) object built
    × HasOneInput is_clang p built in
    command-kept command_words (λ p object built. IfOk (surrounded pairs words) (again p object built))
    (surrounded_reading is_clang directory pairs view words)
    (λ p object e o. if-ok (surrounded pairs words) (again p object (command_words p object)) (λ all s.
    let r : reading is_clang directory view all ≡ Ok p = sym (ap (λ w. w >>= reading is_clang directory view) s) ∙ e in (
      record { again = command-read is_clang directory view all p object r o; no_file = command-none is_clang directory view all p object r o },
      one-input is_clang directory view all p object r o,
    )))
