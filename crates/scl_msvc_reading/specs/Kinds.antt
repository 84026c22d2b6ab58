-- What kinds of options mean, and what some of them say of the input.
use Rattle.std.specs.Prelude.{Bool, not, ◌&&◌, ◌||◌, List, [], ◌∷◌, Option, None, Some}
use Rattle.std.specs.List.{list_any}
use Rattle.std.specs.Option.{option_and_then}
use Rattle.scl_args.specs.Options.{is_raw, is_dashes, of_kinds, last_by}
use Rattle.scl_values.specs.Seen.{Seen, Raw, Unknown, Known}
use Rattle.scl_text.specs.declared.language.Language.{Language}
use Rattle.scl_text.specs.declared.language.Language.TheVariants as languages
use Rattle.scl_gnu_reading.specs.declared.gcc.hash_files.HashRole.{HashRole}
use Rattle.scl_gnu_reading.specs.declared.gcc.hash_files.HashRole.TheVariants as roles
use Rattle.scl_msvc_reading.specs.contracts.msvc.data.KindPartialEq.TheImpl.{ghosts}
use Rattle.scl_msvc_reading.specs.declared.msvc.data.Kind.{Kind}
use Rattle.scl_msvc_reading.specs.declared.msvc.data.Kind.TheVariants as kind

-- whether the option is of one of the kinds
abbrev pub of : List Kind → Seen Kind → Bool
of kinds o = of_kinds ghosts.eq kinds o

-- the kinds of options that give an input with its language
abbrev pub language_inputs : List Kind
language_inputs = kind.CInput ∷ kind.CxxInput ∷ []

-- a raw word is an input, unless it is `--`; so is the value of a flag that gives an input with its language
abbrev pub is_input : Seen Kind → Bool
is_input o = (is_raw o && not (is_dashes o)) || of language_inputs o

-- the language that an option of the kind gives its input
abbrev pub language_of_kind : Kind → Option Language
language_of_kind kind.CInput = Some languages.C
language_of_kind kind.CxxInput = Some languages.Cxx
language_of_kind _ = None

abbrev pub language_said : Seen Kind → Option Language
language_said (Raw w) = None
language_said (Unknown w) = None
language_said (Known f k v how) = language_of_kind k

-- how an option names a file on whose contents the result depends
abbrev pub hash_role : Kind → Option HashRole
hash_role kind.ExtraHashFile = Some roles.File
hash_role kind.ClangModuleFile = Some roles.Module
hash_role _ = None

-- ---- all options

-- whether there is such an option
abbrev pub any : List Kind → List (Seen Kind) → Bool
any kinds os = list_any (of kinds) os

-- the language of the input that a flag gives
abbrev pub explicit_language : List (Seen Kind) → Option Language
explicit_language os = option_and_then language_said (last_by (of language_inputs) os)
