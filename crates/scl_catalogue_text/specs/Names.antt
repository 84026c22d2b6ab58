-- The words by which a catalogue's text names things.
use Rattle.std.specs.Prelude.{ℕ, List, [], ◌∷◌, codes, Option, find}
use Rattle.std.specs.Str.{bytes_eq}
use Rattle.scl_catalogue.specs.declared.case.Compiler.{Compiler}
use Rattle.scl_catalogue.specs.declared.case.Compiler.TheVariants as compiler
use Rattle.scl_catalogue.specs.declared.condition.Fact.{Fact}
use Rattle.scl_catalogue.specs.declared.condition.Fact.TheVariants as fact
use Rattle.scl_catalogue.specs.declared.condition.Place.{Place}
use Rattle.scl_catalogue.specs.declared.condition.Place.TheVariants as place
use Rattle.scl_catalogue.specs.declared.entry.Brings.{Brings}
use Rattle.scl_catalogue.specs.declared.entry.Brings.TheVariants as brings
use Rattle.scl_catalogue.specs.declared.entry.Danger.{Danger}
use Rattle.scl_catalogue.specs.declared.entry.Danger.TheVariants as danger
use Rattle.scl_catalogue.specs.declared.entry.Doing.{Doing}
use Rattle.scl_catalogue.specs.declared.entry.Doing.TheVariants as doing
use Rattle.scl_catalogue.specs.declared.entry.Naming.{Naming}
use Rattle.scl_catalogue.specs.declared.entry.Naming.TheVariants as naming
use Rattle.scl_catalogue.specs.declared.entry.Verb.{Verb}
use Rattle.scl_catalogue.specs.declared.entry.Verb.TheVariants as verb
use Rattle.scl_catalogue.specs.declared.seen.Mark.{Mark}
use Rattle.scl_catalogue.specs.declared.seen.Mark.TheVariants as mark
use Rattle.scl_catalogue.specs.declared.test.Class.{Class}
use Rattle.scl_catalogue.specs.declared.test.Class.TheVariants as class
use Rattle.scl_catalogue_text.specs.declared.names.Kind.{Kind}
use Rattle.scl_catalogue_text.specs.declared.names.Kind.TheVariants as kind

-- the first of these that has the word as its name
abbrev pub named_by : {A : Type 0} → (A → List ℕ) → List A → List ℕ → Option A
named_by name all word = find (λ x. bytes_eq word (name x)) all

abbrev pub class_name : Class → List ℕ
class_name class.Option = codes "option"
class_name class.Raw = codes "raw"
class_name class.Unknown = codes "unknown"
class_name class.Flag = codes "flag"
class_name class.Kind = codes "kind"

abbrev pub all_classes : List Class
all_classes = class.Option ∷ class.Raw ∷ class.Unknown ∷ class.Flag ∷ class.Kind ∷ []

abbrev pub class_named : List ℕ → Option Class
class_named word = named_by class_name all_classes word

abbrev pub mark_name : Mark → List ℕ
mark_name mark.Stays = codes "stays"
mark_name mark.Apart = codes "apart"
mark_name mark.Joined = codes "joined"
mark_name mark.DelimiterDropped = codes "delimiter-dropped"
mark_name mark.HiddenValue = codes "hidden-value"

abbrev pub all_marks : List Mark
all_marks = mark.Stays ∷ mark.Apart ∷ mark.Joined ∷ mark.DelimiterDropped ∷ mark.HiddenValue ∷ []

abbrev pub mark_named : List ℕ → Option Mark
mark_named word = named_by mark_name all_marks word

abbrev pub fact_name : Fact → List ℕ
fact_name fact.Plusplus = codes "plusplus"
fact_name fact.Apple = codes "apple"
fact_name fact.Preprocessed = codes "preprocessed"
fact_name fact.OtherLanguage = codes "other-language"
fact_name fact.SplitOtherwise = codes "split-otherwise"
fact_name fact.EnvironmentSplitOtherwise = codes "environment-split-otherwise"
fact_name fact.HiddenInput = codes "hidden-input"
fact_name fact.HiddenObject = codes "hidden-object"
fact_name fact.OtherTarget = codes "other-target"
fact_name fact.RenamedObject = codes "renamed-object"
fact_name fact.PrecompiledHeader = codes "precompiled-header"

abbrev pub all_facts : List Fact
all_facts = fact.Plusplus ∷ fact.Apple ∷ fact.Preprocessed ∷ fact.OtherLanguage ∷ fact.SplitOtherwise ∷ fact.EnvironmentSplitOtherwise ∷ fact.HiddenInput ∷ fact.HiddenObject ∷ fact.OtherTarget ∷ fact.RenamedObject ∷ fact.PrecompiledHeader ∷ []

abbrev pub fact_named : List ℕ → Option Fact
fact_named word = named_by fact_name all_facts word

abbrev pub place_name : Place → List ℕ
place_name place.Word = codes "word"
place_name place.File = codes "file"
place_name place.Environment = codes "environment"
place_name place.Language = codes "language"
place_name place.Input = codes "input"
place_name place.Extension = codes "extension"
place_name place.Object = codes "object"

abbrev pub all_places : List Place
all_places = place.Word ∷ place.File ∷ place.Environment ∷ place.Language ∷ place.Input ∷ place.Extension ∷ place.Object ∷ []

abbrev pub place_named : List ℕ → Option Place
place_named word = named_by place_name all_places word

abbrev pub compiler_name : Compiler → List ℕ
compiler_name compiler.Gcc = codes "gcc"
compiler_name compiler.Clang = codes "clang"
compiler_name compiler.ClangCl = codes "clang-cl"
compiler_name compiler.Cl = codes "cl"
compiler_name compiler.Diab = codes "diab"
compiler_name compiler.Tasking = codes "tasking"

abbrev pub all_compilers : List Compiler
all_compilers = compiler.Gcc ∷ compiler.Clang ∷ compiler.ClangCl ∷ compiler.Cl ∷ compiler.Diab ∷ compiler.Tasking ∷ []

abbrev pub compiler_named : List ℕ → Option Compiler
compiler_named word = named_by compiler_name all_compilers word

abbrev pub danger_name : Danger → List ℕ
danger_name danger.Object = codes "object"
danger_name danger.Failure = codes "failure"
danger_name danger.SideFile = codes "side-file"
danger_name danger.Messages = codes "messages"
danger_name danger.Run = codes "run"

abbrev pub all_dangers : List Danger
all_dangers = danger.Object ∷ danger.Failure ∷ danger.SideFile ∷ danger.Messages ∷ danger.Run ∷ []

abbrev pub danger_named : List ℕ → Option Danger
danger_named word = named_by danger_name all_dangers word

abbrev pub verb_name : Verb → List ℕ
verb_name verb.Reads = codes "reads"
verb_name verb.Writes = codes "writes"
verb_name verb.Asks = codes "asks"
verb_name verb.Loads = codes "loads"

abbrev pub all_verbs : List Verb
all_verbs = verb.Reads ∷ verb.Writes ∷ verb.Asks ∷ verb.Loads ∷ []

abbrev pub verb_named : List ℕ → Option Verb
verb_named word = named_by verb_name all_verbs word

abbrev pub doing_name : Doing → List ℕ
doing_name doing.Plain = codes "plain"
doing_name doing.Exact = codes "exact"
doing_name doing.Macros = codes "macros"
doing_name doing.WritesUnnamed = codes "writes-unnamed"
doing_name doing.TextHides = codes "hides-text"
doing_name doing.ReadsCounts = codes "reads-counts"
doing_name doing.ReadsSamples = codes "reads-samples"

abbrev pub all_doings : List Doing
all_doings = doing.Plain ∷ doing.Exact ∷ doing.Macros ∷ doing.WritesUnnamed ∷ doing.TextHides ∷ doing.ReadsCounts ∷ doing.ReadsSamples ∷ []

abbrev pub doing_named : List ℕ → Option Doing
doing_named word = named_by doing_name all_doings word

abbrev pub naming_name : Naming → List ℕ
naming_name naming.Nothing = codes "nothing"
naming_name naming.DebugInfo = codes "debug-info"
naming_name naming.FileMap = codes "maps-files"
naming_name naming.DebugMap = codes "maps-debug-info"
naming_name naming.MacroMap = codes "maps-macros"
naming_name naming.Anything = codes "anything"

abbrev pub all_namings : List Naming
all_namings = naming.Nothing ∷ naming.DebugInfo ∷ naming.FileMap ∷ naming.DebugMap ∷ naming.MacroMap ∷ naming.Anything ∷ []

abbrev pub naming_named : List ℕ → Option Naming
naming_named word = named_by naming_name all_namings word

abbrev pub brings_name : Brings → List ℕ
brings_name brings.Folder = codes "folder"
brings_name brings.Header = codes "header"
brings_name brings.MacroFile = codes "macro-file"
brings_name brings.Other = codes "other"
brings_name brings.Dependencies = codes "dependencies"
brings_name brings.Unknown = codes "unknown"

abbrev pub all_brings : List Brings
all_brings = brings.Folder ∷ brings.Header ∷ brings.MacroFile ∷ brings.Other ∷ brings.Dependencies ∷ brings.Unknown ∷ []

abbrev pub brings_named : List ℕ → Option Brings
brings_named word = named_by brings_name all_brings word

-- entries that are a name and one word of a list
abbrev pub kind_name : Kind → List ℕ
kind_name kind.Hazard = codes "hazard"
kind_name kind.Key = codes "key"
kind_name kind.Run = codes "run"
kind_name kind.Names = codes "names"
kind_name kind.Brings = codes "brings"

abbrev pub all_kinds : List Kind
all_kinds = kind.Hazard ∷ kind.Key ∷ kind.Run ∷ kind.Names ∷ kind.Brings ∷ []

abbrev pub kind_named : List ℕ → Option Kind
kind_named word = named_by kind_name all_kinds word
