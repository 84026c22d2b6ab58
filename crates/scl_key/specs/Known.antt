-- What is known of a record, and whether runs show the words of the preprocessor.
use Rattle.std.specs.Prelude.{ℕ, Bool, true, false, ◌&&◌, not, List}
use Rattle.std.specs.List.{list_all, list_any}
use Rattle.scl_reader.specs.declared.compiler.Compiler.{Compiler}
use Rattle.scl_text.specs.Records.{Artifact, Parsed}
use Rattle.scl_text.specs.declared.language.Language.{Language}
use Rattle.scl_text.specs.declared.language.Language.TheVariants as languages
use Rattle.scl_catalogue.specs.Lookup.{Lexicon}
use Rattle.scl_catalogue.specs.declared.entry.Brings.TheVariants.{Folder, Header, MacroFile}
use Rattle.scl_key.specs.Effects.{Judged, judged_in, keeps_macros}
use Rattle.scl_key.specs.Families.{is_gnu}
use Rattle.scl_key.specs.Given.{Given, given_in, is_known, values_among}
use Rattle.scl_key.specs.Made.{made as all_made}

pub record Known : Type 0 where
  -- the words, each with what it does
  pub preprocessor : List Judged
  pub common : List Judged
  pub unhashed : List Judged
  pub dependency : List Judged
  -- what the words of the preprocessor bring in
  pub given : List Given
  -- the files that come out
  pub made : List Artifact

abbrev pub known_in : Lexicon → Parsed → Known
known_in l p = record {
  preprocessor = judged_in l p.preprocessor_args;
  common = judged_in l p.common_args;
  unhashed = judged_in l p.unhashed_args;
  dependency = judged_in l p.dependency_args;
  given = given_in l p.preprocessor_args;
  made = all_made p;
}

abbrev pub folders : Known → List (List ℕ)
folders k = values_among Folder k.given

abbrev pub headers : Known → List (List ℕ)
headers k = values_among Header k.given

abbrev pub macro_files : Known → List (List ℕ)
macro_files k = values_among MacroFile k.given

-- macros come into the outcome
abbrev pub has_macros : Known → Bool
has_macros k = list_any (λ j. keeps_macros j.doing) k.common

-- what is compiled is a text that a run shows: no header, of which macros are kept, and no assembler, which gets the words itself
abbrev pub is_text : Language → Bool
is_text languages.C = true
is_text languages.Cxx = true
is_text languages.ObjectiveC = true
is_text languages.ObjectiveCxx = true
is_text languages.Assembler = false
is_text languages.AssemblerToPreprocess = false
is_text languages.CHeader = false
is_text languages.GenericHeader = false
is_text languages.CxxHeader = false
is_text languages.CxxModule = false
is_text languages.ObjectiveCHeader = false
is_text languages.ObjectiveCxxHeader = false
is_text languages.Cuda = false
is_text languages.Rust = false
is_text languages.Hip = false

-- the text of a run has all that the words of the preprocessor bring in
abbrev pub all_known : Known → Bool
all_known k = list_all (λ g. is_known g.brings) k.given

-- the same as `shows` of what is known of a record
abbrev pub shows_by : Known → Compiler → Language → Bool
shows_by k compiler language = is_gnu compiler && (is_text language && (not (has_macros k) && all_known k))

-- Each run shows all that the words of the preprocessor bring in: so they are no part of the key.
abbrev pub shows : Lexicon → Compiler → Parsed → Bool
shows l compiler p = shows_by (known_in l p) compiler p.language
