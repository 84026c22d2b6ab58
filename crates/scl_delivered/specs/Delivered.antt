-- A key as it is delivered: macros that the runs show stand at its end, and its words are told by base directories.
use Rattle.std.specs.Prelude.{ℕ, Bool, true, false, ◌==◌, ◌&&◌, ◌||◌, not, List, [], ◌++◌, length, map, codes, Option, Some, None, unwrap_or, if◌then◌else◌}
use Rattle.std.specs.List.{list_all, list_any}
use Rattle.std.specs.Option.{option_map}
use Rattle.std.specs.Str.{bytes_eq}
use Rattle.scl_catalogue.specs.Lookup.{Lexicon}
use Rattle.scl_text.specs.Records.{Parsed, artifact}
use Rattle.scl_text.specs.declared.language.Language.{Language}
use Rattle.scl_text.specs.declared.language.Language.TheVariants as languages
use Rattle.scl_reader.specs.declared.compiler.Compiler.{Compiler}
use Rattle.scl_key.specs.Directs.{Direct}
use Rattle.scl_key.specs.Families.{is_clang, is_gcc}
use Rattle.scl_key.specs.Keys.{Key}
use Rattle.scl_key.specs.Parts.{Part, is, output, plan, asked, run, run_else, pch}
use Rattle.scl_shared_key.specs.declared.said.InObject.{InObject}
use Rattle.scl_shared_key.specs.declared.said.InObject.TheVariants.{No, Yes, Mapped}
use Rattle.scl_shared_key.specs.Fields.{told_field, told_row}
use Rattle.scl_shared_key.specs.Objects.{Object, is_macro, may_name_anything}
use Rattle.scl_shared_key.specs.Verdicts.{Verdict, verdict}
use Rattle.scl_delivered.specs.Macros.{are_defined, macros_in, runs_in, without_macros}

pub record Delivered : Type 0 where
  -- what is said of the object, if there are base directories
  pub verdict : Option Verdict
  -- what is hashed and asked
  pub parts : List Part
  -- what direct mode needs
  pub direct : List Direct
  -- the words that define macros which the runs show
  pub shown : List (List ℕ)

-- ---- the object

abbrev pub is_c : Language → Bool
is_c languages.C = true
is_c _ = false

abbrev pub is_cxx : Language → Bool
is_cxx languages.Cxx = true
is_cxx _ = false

-- an output has no names but those that an object has, or is a text
abbrev pub is_told_output : Part → Bool
is_told_output (output made) = bytes_eq made.name (codes "obj") || bytes_eq made.name (codes "d")
is_told_output _ = true

-- the object of a record with this key, with what a catalogue says of the words of its command
abbrev pub object_by : Lexicon → Compiler → Parsed → Key → Object
object_by lexicon c p key = record {
  is_by_gcc = is_gcc c;
  is_of_c = is_c p.language;
  is_of_shown_text = key.is_shown && (bytes_eq p.compilation_flag (codes "-c") && (is_c p.language || is_cxx p.language));
  is_alone = list_all is_told_output key.parts;
  lexicon = lexicon;
  words = p.common_args ++ p.arch_args ++ p.unhashed_args;
}

-- ---- macros

-- the path of an output looks like a word that defines a macro
abbrev pub is_like_macro : Part → Bool
is_like_macro (output made) = is_macro made.path
is_like_macro _ = false

-- the path of the input or of an output does
abbrev pub has_path_like_macro : Parsed → List Part → Bool
has_path_like_macro p parts = is_macro p.input || list_any is_like_macro parts

-- Of macros no more counts than the texts of runs show of them.
abbrev pub texts_show_macros : Compiler → Parsed → List Part → Object → Bool
texts_show_macros c p parts o = o.is_of_shown_text && ((is_gcc c || is_clang c) && not (may_name_anything o || has_path_like_macro p parts))

-- the texts of runs show all that counts of the macros of the command
abbrev pub leaves_macros_out : Lexicon → Compiler → Parsed → Key → Bool
leaves_macros_out lexicon c p key = texts_show_macros c p key.parts (object_by lexicon c p key) && are_defined (macros_in key.parts) (runs_in key.parts)

-- a key whose macros stand at its end, or where they are
abbrev pub with_macros : (last : Bool) → Key → Delivered
with_macros last key =
    if last
    then record { verdict = None; parts = without_macros key.parts; direct = key.direct; shown = macros_in key.parts }
    else record { verdict = None; parts = key.parts; direct = key.direct; shown = [] }

-- ---- base directories

-- a part by the base directories: its words are, its names stand
abbrev pub told_part : List (List ℕ) → Part → Part
told_part dirs (is row) = is (told_row dirs row)
told_part dirs (output made) = output (artifact (told_field dirs made.name) (told_field dirs made.path) made.optional)
told_part dirs (plan words) = plan (told_row dirs words)
told_part dirs (asked ask name) = asked ask (told_field dirs name)
told_part dirs (run words) = run (told_row dirs words)
told_part dirs (run_else words) = run_else (told_row dirs words)
told_part dirs (pch searched) = pch (told_row dirs searched)
told_part dirs part = part

-- an object names none of the directories
abbrev pub names_none : InObject → Bool
names_none No = true
names_none Yes = false
names_none Mapped = true

-- a key whose object names one, and the same told by the directories, without direct mode, whose rows are not told
abbrev pub told_by : List (List ℕ) → Verdict → Delivered → Delivered
told_by dirs said d =
    if names_none said.in_object
    then record { verdict = Some said; parts = map (told_part dirs) d.parts; direct = []; shown = told_row dirs d.shown }
    else record d { verdict = Some said }

-- ---- all of it

-- The key of a record as it is delivered with these base directories; macros stand where they are if they are kept there.
abbrev pub delivered : Lexicon → Compiler → Parsed → (dirs : List (List ℕ)) (keeps_macros : Bool) → Key → Delivered
delivered lexicon c p dirs keeps_macros key =
    let last = with_macros (not keeps_macros && leaves_macros_out lexicon c p key) key in
    if length dirs == 0 then last else told_by dirs (verdict dirs (object_by lexicon c p key)) last

-- its parts are told by base directories
abbrev pub is_told_by_bases : Delivered → Bool
is_told_by_bases d = unwrap_or (option_map (λ said. names_none said.in_object) d.verdict) false
