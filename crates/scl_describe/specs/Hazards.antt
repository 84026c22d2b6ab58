-- What a catalogue says of a request's command line.
use Rattle.std.specs.Prelude.{ℕ, Bool, List, ◌∷◌, ◌++◌, Option, None, Some}
use Rattle.scl_catalogue.specs.Form.{Catalogue}
use Rattle.scl_catalogue.specs.Found.{OptionSeen}
use Rattle.scl_catalogue.specs.Lookup.{Lexicon, lexicon_in}
use Rattle.scl_catalogue.specs.declared.case.Compiler.{Compiler as Catalogued}
use Rattle.scl_catalogue.specs.declared.case.Compiler.TheVariants as catalogue
use Rattle.scl_catalogue.specs.declared.case.Version.{Version}
use Rattle.scl_catalogue_text.specs.Reading.{version_read}
use Rattle.scl_description.specs.Lines.{cut_at}
use Rattle.scl_hazards.specs.ClangClHazards.{cl_options, msvc_told}
use Rattle.scl_hazards.specs.GnuHazards.{gnu_options, gnu_told}
use Rattle.scl_hazards.specs.Hazards.{Known}
use Rattle.scl_hazards.specs.SmallHazards.{diab_options, diab_told, tasking_options, tasking_told}
use Rattle.scl_hazards.specs.Told.{Told}
use Rattle.scl_reader.specs.Apple.{is_apple}
use Rattle.scl_reader.specs.CommandLines.{Given, Request, given_in}
use Rattle.scl_reader.specs.PrecompiledHeaders.{has_precompiled_header}
use Rattle.scl_reader.specs.Reads.{read_of}
use Rattle.scl_reader.specs.declared.compiler.Compiler.{Compiler}
use Rattle.scl_reader.specs.declared.compiler.Compiler.TheVariants as compilers
use Rattle.scl_reader.specs.declared.reading.Reading.{Reading}
use Rattle.scl_reader.specs.declared.reading.Reading.TheVariants.{Gnu, Msvc, Diab, Tasking}

abbrev pub with_minor : List ℕ → List ℕ → Option (List ℕ × List ℕ) → List ℕ
with_minor text major None = text
with_minor text major (Some parts) = major ++ 46 ∷ parts.0

abbrev pub before_second_dot : List ℕ → Option (List ℕ × List ℕ) → List ℕ
before_second_dot text None = text
before_second_dot text (Some parts) = with_minor text parts.0 (cut_at 46 parts.1)

-- what of a version's text counts: what stands before its second dot
abbrev pub major_and_minor : List ℕ → List ℕ
major_and_minor text = before_second_dot text (cut_at 46 text)

-- the version that a text names; if it names none, every version is meant
abbrev pub version_told : Option (List ℕ) → Option Version
version_told None = None
version_told (Some text) = version_read (major_and_minor text)

-- what a catalogue knows of a compiler whose version has this text, if it is known
abbrev pub known_by : Catalogue → Option (List ℕ) → Known
known_by catalogue version = record { catalogue = catalogue; version = version_told version; is_apple = is_apple version }

-- the compiler by which a catalogue names this one
abbrev pub catalogued : Compiler → Catalogued
catalogued compilers.Gcc = catalogue.Gcc
catalogued compilers.Gxx = catalogue.Gcc
catalogued compilers.Clang = catalogue.Clang
catalogued compilers.Clangxx = catalogue.Clang
catalogued compilers.Cl = catalogue.Cl
catalogued compilers.ClangCl = catalogue.ClangCl
catalogued compilers.Diab = catalogue.Diab
catalogued compilers.Tasking = catalogue.Tasking

-- what a catalogue says of the words of a compiler's command, if its version has this text
abbrev pub lexicon_by : Catalogue → Option (List ℕ) → Compiler → Lexicon
lexicon_by catalogue version compiler = lexicon_in catalogue (catalogued compiler) (version_told version)

-- the options of a reading, without its inner ones, as a catalogue's conditions see them
abbrev pub seen_in : Reading → List OptionSeen
seen_in (Gnu r) = gnu_options r
seen_in (Msvc r) = cl_options r
seen_in (Diab r) = diab_options r
seen_in (Tasking r) = tasking_options r

-- what is reported of a reading in an environment of these pairs, by whether there is a precompiled header that matters
abbrev pub told_with : Known → List (List ℕ × List ℕ) → (has_header : Bool) → Reading → Told
told_with known pairs has_header (Gnu r) = gnu_told known has_header r
told_with known pairs has_header (Msvc r) = msvc_told known pairs r
told_with known pairs has_header (Diab r) = diab_told known r
told_with known pairs has_header (Tasking r) = tasking_told known r

-- what is reported of a command line that was read
abbrev pub told_in : Known → Given → Reading → Told
told_in known line reading = told_with known line.environment (has_precompiled_header line reading) reading

abbrev pub told_by : Known → Request → Told
told_by known request = told_in known (given_in request) (read_of request)
