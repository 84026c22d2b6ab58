-- What is promised of a command of Msvc: it is read again, has one input, and names no response file of its own. And what is
-- known of records.
use Rattle.std.specs.Prelude.{◌≡◌, ℕ, Bool, true, List, [], ◌∷◌, map, codes, Ok, IfOk, IfSome, is_some}
use Rattle.scl_values.specs.Cuts.{Cut}
use Rattle.scl_values.specs.Seen.{shown}
use Rattle.scl_args.specs.Promises.{HandedOn, Line, HasNoEmpty, IsFaithful}
use Rattle.scl_text.specs.Commands.{object_of}
use Rattle.scl_text.specs.Compilers.{IfCommand}
use Rattle.scl_text.specs.Records.{Parsed}
use Rattle.scl_files.specs.Views.{Viewed}
use Rattle.scl_gnu_reading.specs.declared.gcc.data.Kind as gnu
use Rattle.scl_gnu_reading.specs.ClangRows.{clang_tables}
use Rattle.scl_msvc_reading.specs.declared.msvc.data.Kind.{Kind}
use Rattle.scl_msvc_reading.specs.declared.msvc.data.Kind.TheVariants as kind
use Rattle.scl_msvc.specs.Building.{command}
use Rattle.scl_msvc.specs.ReadAgain.{parts, outer_options_of, inner_options_of, HasOneInput}
use Rattle.scl_msvc.specs.Environment.{surrounded, surrounded_reading}
use Rattle.scl_msvc_reading.specs.Rows.{msvc_tables}

-- words for the inner lines, after `-Xclang` and `-clang:`, which are cut into these options
abbrev pub handed_on : (xclang clang : List (Cut gnu.Kind)) → List (HandedOn Kind gnu.Kind)
handed_on xclang clang = record { flag = codes "-Xclang"; kind = kind.XClang; options = xclang } ∷ record { flag = codes "-clang:"; kind = kind.Clang; options = clang } ∷ []

-- what words are cut into, and their words for the inner lines
abbrev pub msvc_line : Bool → List ℕ → Viewed → List (List ℕ) → Line Kind gnu.Kind
msvc_line is_clang directory view words =
    let options = outer_options_of is_clang directory view words in
    let os = map shown options in
    record { options = options; handed_on = handed_on (inner_options_of kind.XClang directory view os) (inner_options_of kind.Clang directory view os) }

-- When the words of a record's command are read again, have one input and name no response file of their own; the command
-- line has these words, between those of the environment.
abbrev pub MsvcReadsAgain : Bool → List ℕ → List (List ℕ × List ℕ) → Viewed → List (List ℕ) → Parsed → List (List ℕ) → Type 0
MsvcReadsAgain is_clang directory pairs view words p command = IfSome (object_of p) (λ object. IfOk (surrounded pairs words) (λ all.
    IsFaithful msvc_tables is_clang clang_tables (msvc_line is_clang directory view all) (parts p object) object command × HasOneInput is_clang p command))

-- if words have a record, its command is read again, has one input, and names no response file of its own
abbrev pub MsvcCommandsAreFaithful : Type 0
MsvcCommandsAreFaithful =
    (is_clang : Bool) (directory : List ℕ) (pairs : List (List ℕ × List ℕ)) (view : Viewed) (words : List (List ℕ)) →
    IfCommand command (MsvcReadsAgain is_clang directory pairs view words) (surrounded_reading is_clang directory pairs view words)

-- ---- records

-- if words have a record, it has an object
abbrev pub MsvcRecordsHaveObjects : Type 0
MsvcRecordsHaveObjects =
    (is_clang : Bool) (directory : List ℕ) (pairs : List (List ℕ × List ℕ)) (view : Viewed) (words : List (List ℕ)) (p : Parsed) →
    surrounded_reading is_clang directory pairs view words ≡ Ok p → is_some (object_of p) ≡ true

-- if words, together with those of the environment, have a record, no option of an either row in their line has an empty
-- value
abbrev pub MsvcLinesHaveNoEmpty : Type 0
MsvcLinesHaveNoEmpty =
    (is_clang : Bool) (directory : List ℕ) (pairs : List (List ℕ × List ℕ)) (view : Viewed) (words all : List (List ℕ)) (p : Parsed) →
    surrounded pairs words ≡ Ok all → surrounded_reading is_clang directory pairs view words ≡ Ok p → HasNoEmpty (msvc_line is_clang directory view all)
