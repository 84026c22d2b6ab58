-- What an outcome Ok says of the options of a command line.
use Rattle.std.proofs.Common.{◌≡◌, ℕ, Bool, true, false, not, ◌&&◌, List, [], ◌∷◌, ◌++◌, map, Option, None, Some, Ok, refl, sym, ap, ◌∙◌}
use Rattle.std.specs.Option.{option_and_then}
use Rattle.std.specs.Prelude.{codes, ok_or}
use Rattle.scl_values.specs.Cuts.{cut, is_dangling}
use Rattle.scl_values.specs.Each.{Each}
use Rattle.scl_args.specs.Empties.{refusing_empty}
use Rattle.scl_args.specs.Options.{last_flag, last_text, texts}
use Rattle.scl_values.specs.Seen.{Seen, Raw, Unknown, Known, shown}
use Rattle.scl_values.specs.Tables.{owner_in}
use Rattle.scl_args.specs.Origins.{IsClear}
use Rattle.scl_args.proofs.EmptyLaws.{judged-clear, judged-else}
use Rattle.scl_args.proofs.FilterLaws.{has-last}
use Rattle.scl_args.proofs.OutcomeLaws.{bind-ok, ok_or-ok, unless-ok, unless-none, judged-ok, judged-none}
use Rattle.scl_files.specs.declared.expand.ExpansionKind.TheVariants as expansions
use Rattle.scl_text.specs.declared.language.Language.{Language}
use Rattle.scl_text.specs.declared.language.Language.TheVariants as languages
use Rattle.scl_text.specs.Commands.{object_of}
use Rattle.scl_files.specs.Expand.{expand}
use Rattle.scl_text.specs.JudgedWords.{judged_words}
use Rattle.scl_text.specs.Outputs.{output_at, path_at}
use Rattle.scl_text.specs.Reasons.{empty_value, argument_parse, invalid_input_file, unknown_source_language}
use Rattle.scl_text.specs.Records.{Parsed, Verdict, NotCompilation}
use Rattle.scl_text.specs.Refusals.{the_input}
use Rattle.scl_files.specs.Views.{Viewed}
use Rattle.scl_gnu_reading.specs.declared.gcc.data.Kind as gnu
use Rattle.scl_gnu_reading.specs.ClangRows.{clang_tables}
use Rattle.scl_msvc_reading.specs.declared.msvc.data.Kind.{Kind}
use Rattle.scl_msvc_reading.specs.declared.msvc.data.Kind.TheVariants as kind
use Rattle.scl_msvc_reading.specs.FixedTests as tests
use Rattle.scl_msvc_reading.specs.FixedTests.{Found, found, input_unless, language_of, module_verdict, program_database}
use Rattle.scl_msvc_reading.specs.Inners.{BothInner, inner_verdict}
use Rattle.scl_msvc_reading.specs.Kinds.{of, any, is_input, language_said, explicit_language, language_inputs}
use Rattle.scl_msvc.specs.ReadAgain.{outer_options_of, inner_options_of}
use Rattle.scl_msvc_reading.specs.Readings.{inner_options, both_inner, read, reading, recorded}
use Rattle.scl_msvc_reading.specs.Recordings.{record_of, library_file}
use Rattle.scl_msvc_reading.specs.Rows.{msvc_tables}
use Rattle.scl_msvc_reading.specs.Verdicts.{verdict}

-- ---- the input and its language

-- whether the option gives its input's language
abbrev pub names_language : Seen Kind → Bool
names_language = of language_inputs

input-is : (said : Option Verdict) (xs : List (List ℕ)) (x : List ℕ) → input_unless said xs ≡ Ok x → (said ≡ None) × (xs ≡ x ∷ [])
input-is said [] x e = absurd (let no = unless-ok said (the_input []) x e in cc)
input-is said (y ∷ []) x e = (unless-none said (the_input (y ∷ [])) x e, (let same = unless-ok said (the_input (y ∷ [])) x e in cc))
input-is said (y ∷ z ∷ ys) x e = absurd (cc)

-- if a flag gives the language, no module is compiled
no-module : (is_compiled is_named : Bool) → module_verdict is_compiled is_named true ≡ None → is_compiled ≡ false
no-module false is_named e = refl
no-module true true e = absurd (cc)
no-module true false e = absurd (cc)

is-said : (o : Seen Kind) → names_language o ≡ true → (l : Language) × (language_said o ≡ Some l)
is-said (Raw w) e = absurd (cc)
is-said (Unknown w) e = absurd (cc)
is-said (Known f kind.CInput v h) e = (languages.C, refl)
is-said (Known f kind.CxxInput v h) e = (languages.Cxx, refl)
is-said (Known f _ v h) e = absurd (cc)

pub each-tt : {A : Type 0} (xs : List A) → Each (λ x. Unit {0}) xs
each-tt [] = tt
each-tt (x ∷ xs) = (tt, each-tt xs)

explicit-said : (os : List (Seen Kind)) → any language_inputs os ≡ true → (l : Language) × (explicit_language os ≡ Some l)
explicit-said os e =
    let o = has-last (λ o. Unit {0}) names_language os (each-tt os) e in
    let l = is-said o.option o.passes in
    (l.0, ap (λ x. option_and_then language_said x) o.is ∙ l.1)

from-flag : (is_compiled : Bool) (explicit : Option Language) (input : List ℕ) (l m : Language) → is_compiled ≡ false → explicit ≡ Some m → language_of is_compiled explicit input ≡ Some l → explicit ≡ Some l
from-flag true explicit input l m c s e = absurd (cc)
from-flag false None input l m c s e = absurd (cc)
from-flag false (Some k) input l m c s e = e

-- ---- what the tests found

pub record HasFound (os : List (Seen Kind)) (f : Found) : Type 0 where
  pub flag_is : last_flag (of (kind.DoCompilation ∷ [])) os ≡ Some f.compile_flag
  pub input_is : texts is_input os ≡ f.input ∷ []
  pub language_is : any language_inputs os ≡ true → explicit_language os ≡ Some f.language

pub has-found : (is_clang : Bool) (os : List (Seen Kind)) (f : Found) → found is_clang os ≡ Ok f → HasFound os f
has-found is_clang os f e =
    let compiled = any (kind.ClangLanguage ∷ []) os in
    let named = any (kind.ClangModuleOutput ∷ []) os in
    let says = any language_inputs os in
    let a = bind-ok (ok_or (last_flag (of (kind.DoCompilation ∷ [])) os) NotCompilation) _ f e in
    let b = bind-ok (input_unless (module_verdict compiled named says) (texts is_input os)) _ f a.2 in
    let c = bind-ok (ok_or (language_of compiled (explicit_language os) b.0) unknown_source_language) _ f b.2 in
    let d = bind-ok (ok_or (tests.object_path (last_text (of (kind.Output ∷ [])) os) b.0) invalid_input_file) _ f c.2 in
    let g = bind-ok (program_database (not is_clang && any (kind.DebugInfo ∷ []) os) (last_text (of (kind.ProgramDatabase ∷ [])) os)) _ f d.2 in
    let made : Found = record { compile_flag = a.0; input = b.0; language = c.0; object = d.0; program_database = g.0 } in
    let is : made ≡ f = cc (g.2) in
    let i = input-is (module_verdict compiled named says) (texts is_input os) b.0 b.1 in
    record {
      flag_is = ok_or-ok (last_flag (of (kind.DoCompilation ∷ [])) os) NotCompilation a.0 a.1 ∙ ap (λ x. Some x.compile_flag) is;
      input_is = i.1 ∙ ap (λ x. x.input ∷ []) is;
      language_is = λ yes.
          let said = explicit-said os yes in
          let none : module_verdict compiled named true ≡ None = ap (module_verdict compiled named) (sym yes) ∙ i.0 in
          from-flag compiled (explicit_language os) b.0 c.0 said.0 (no-module compiled named none) said.1 (ok_or-ok _ unknown_source_language c.0 c.1) ∙ ap (λ x. Some x.language) is;
    }

-- ---- what was read

module _ (is_clang : Bool) (directory : List ℕ) (view : Viewed) (words : List (List ℕ)) (p : Parsed) where
  abbrev os : List (Seen Kind)
  os = map shown (outer_options_of is_clang directory view words)

  abbrev pub inner : BothInner
  inner = record { xclang = map shown (inner_options_of kind.XClang directory view os); clang = map shown (inner_options_of kind.Clang directory view os) }

  pub record IsRead : Type 0 where
    pub tested : Found
    pub has : HasFound os tested
    pub unrefused : Each (λ o. verdict is_clang [] o ≡ None) os
    pub clear : Each IsClear (outer_options_of is_clang directory view words)
    pub xclang_clear : Each IsClear (inner_options_of kind.XClang directory view os)
    pub clang_clear : Each IsClear (inner_options_of kind.Clang directory view os)
    pub is : record_of directory view os inner tested ≡ p

  same-verdict : (before : List (Seen Kind)) (o : Seen Kind) → verdict is_clang before o ≡ verdict is_clang [] o
  same-verdict before (Raw w) = refl
  same-verdict before (Unknown w) = refl
  same-verdict before (Known f k v h) = refl

  inner-ok : (k : Kind) (r : List (Seen gnu.Kind)) → inner_options k directory view os ≡ Ok r → map shown (inner_options_of k directory view os) ≡ r
  inner-ok k r e =
      let c = cut (owner_in clang_tables) false (expand expansions.Gnu directory view.files (texts (of (k ∷ [])) os)) in
      judged-ok (refusing_empty (owner_in clang_tables) empty_value inner_verdict) argument_parse (map shown c.options) (is_dangling c.end) r e

  inner-clear : (k : Kind) (r : List (Seen gnu.Kind)) → inner_options k directory view os ≡ Ok r → Each IsClear (inner_options_of k directory view os)
  inner-clear k r e = judged-clear clang_tables false (expand expansions.Gnu directory view.files (texts (of (k ∷ [])) os)) empty_value inner_verdict argument_parse r e

  abbrev says : List (Seen Kind) → Seen Kind → Option Verdict
  says = refusing_empty (owner_in msvc_tables) empty_value (verdict is_clang)

  pub is-read : reading is_clang directory view words ≡ Ok p → IsRead
  is-read e =
      let c = cut (owner_in msvc_tables) is_clang (expand expansions.Msvc directory view.files words) in
      let a = bind-ok (judged_words expansions.Msvc (verdict is_clang) msvc_tables is_clang directory view words) (read is_clang directory view) p e in
      let r : read is_clang directory view os ≡ Ok p =
      ap (read is_clang directory view) (judged-ok says argument_parse os (is_dangling c.end) a.0 a.1) ∙ a.2 in
      let b = bind-ok (both_inner directory view os) (recorded is_clang directory view os) p r in
      let x = bind-ok (inner_options kind.XClang directory view os) _ b.0 b.1 in
      let y = bind-ok (inner_options kind.Clang directory view os) _ b.0 x.2 in
      let same_x = inner-ok kind.XClang x.0 x.1 in
      let same_y = inner-ok kind.Clang y.0 y.1 in
      let made : BothInner = record { xclang = x.0; clang = y.0 } in
      let is : made ≡ b.0 = cc (y.2) in
      let inside : inner ≡ b.0 = ap (λ xs. let i : BothInner = record { xclang = xs; clang = inner.clang } in i) same_x ∙ (ap (λ ys. let i : BothInner = record { xclang = x.0; clang = ys } in i) same_y ∙ is) in
      let i : recorded is_clang directory view os inner ≡ Ok p = ap (recorded is_clang directory view os) inside ∙ b.2 in
      let t = bind-ok (found is_clang os) _ p i in
      record {
        tested = t.0;
        has = has-found is_clang os t.0 t.1;
        unrefused = judged-none (verdict is_clang) same-verdict argument_parse os (is_dangling c.end) a.0
            (judged-else (owner_in msvc_tables) empty_value (verdict is_clang) argument_parse os (is_dangling c.end) a.0 a.1);
        clear = judged-clear msvc_tables is_clang (expand expansions.Msvc directory view.files words) empty_value (verdict is_clang) argument_parse a.0 a.1;
        xclang_clear = inner-clear kind.XClang x.0 x.1;
        clang_clear = inner-clear kind.Clang y.0 y.1;
        is = cc (t.2);
      }

-- ---- the object of a record

object-put : (module_path : Option (List ℕ)) (object : List ℕ) (database header source : Option (List ℕ)) →
    path_at (output_at (codes "module") false module_path ++ output_at (codes "obj") false (Some object) ++ output_at (codes "pdb") false database ++ output_at (codes "tlh") true header ++ output_at (codes "tli") true source) (codes "obj") ≡ Some object
object-put None object database header source = refl
object-put (Some path) object database header source = refl

pub object-found : (directory : List ℕ) (view : Viewed) (os : List (Seen Kind)) (inside : BothInner) (f : Found) → object_of (record_of directory view os inside f) ≡ Some f.object
object-found directory view os inside f =
    object-put (last_text (of (kind.ClangModuleOutput ∷ [])) os) f.object f.program_database (library_file f (codes "tlh")) (library_file f (codes "tli"))
