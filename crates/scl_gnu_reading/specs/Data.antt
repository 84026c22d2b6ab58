-- The kinds of options, and what a value of each holds.
use Rattle.std.specs.Prelude.{ℕ, Bool, true, false, List}
use Rattle.scl_values.specs.Contents.{Content, nothing, word, path}
use Rattle.scl_gnu_reading.specs.declared.gcc.data.ArgData.{ArgData}
use Rattle.scl_gnu_reading.specs.declared.gcc.data.ArgData.TheVariants as values
use Rattle.scl_gnu_reading.specs.declared.gcc.data.Kind.{Kind}
use Rattle.scl_gnu_reading.specs.declared.gcc.data.Kind.TheVariants as kind

-- a value's kind, and the word or path that it holds, if it holds one
abbrev pub content : ArgData → Content Kind
content values.TooHardFlag = nothing kind.TooHardFlag
content (values.TooHard w) = word kind.TooHard w.items
content (values.DiagnosticsColor w) = word kind.DiagnosticsColor w.items
content values.DiagnosticsColorFlag = nothing kind.DiagnosticsColorFlag
content values.NoDiagnosticsColorFlag = nothing kind.NoDiagnosticsColorFlag
content (values.Arch w) = word kind.Arch w.items
content values.Coverage = nothing kind.Coverage
content values.TestCoverage = nothing kind.TestCoverage
content (values.DepArgumentPath p) = path kind.DepArgumentPath p.0.items
content (values.DepTarget w) = word kind.DepTarget w.items
content values.NeedDepTarget = nothing kind.NeedDepTarget
content values.DoCompilation = nothing kind.DoCompilation
content (values.ExtraHashFile p) = path kind.ExtraHashFile p.0.items
content (values.ExtraHashFileClangModuleFile w) = word kind.ExtraHashFileClangModuleFile w.items
content (values.Language w) = word kind.Language w.items
content values.SplitDwarf = nothing kind.SplitDwarf
content (values.Output p) = path kind.Output p.0.items
content (values.PassThrough w) = word kind.PassThrough w.items
content values.PassThroughFlag = nothing kind.PassThroughFlag
content (values.PassThroughPath p) = path kind.PassThroughPath p.0.items
content (values.PreprocessorArgument w) = word kind.PreprocessorArgument w.items
content values.PreprocessorArgumentFlag = nothing kind.PreprocessorArgumentFlag
content (values.PreprocessorArgumentPath p) = path kind.PreprocessorArgumentPath p.0.items
content values.ProfileGenerate = nothing kind.ProfileGenerate
content (values.ClangProfileUse p) = path kind.ClangProfileUse p.0.items
content (values.SerializeDiagnostics p) = path kind.SerializeDiagnostics p.0.items
content values.UnhashedFlag = nothing kind.UnhashedFlag
content (values.Unhashed w) = word kind.Unhashed w.items
content values.PedanticFlag = nothing kind.PedanticFlag
content (values.Standard w) = word kind.Standard w.items
content (values.XClang w) = word kind.XClang w.items
content values.ModuleOnlyFlag = nothing kind.ModuleOnlyFlag
content (values.ClangModuleOutput w) = word kind.ClangModuleOutput w.items
content values.IntegratedAs = nothing kind.IntegratedAs
content values.NoIntegratedAs = nothing kind.NoIntegratedAs

-- whether options of the kind have a value
abbrev pub holds_value : Kind → Bool
holds_value kind.TooHardFlag = false
holds_value kind.DiagnosticsColorFlag = false
holds_value kind.NoDiagnosticsColorFlag = false
holds_value kind.Coverage = false
holds_value kind.TestCoverage = false
holds_value kind.NeedDepTarget = false
holds_value kind.DoCompilation = false
holds_value kind.SplitDwarf = false
holds_value kind.PassThroughFlag = false
holds_value kind.PreprocessorArgumentFlag = false
holds_value kind.ProfileGenerate = false
holds_value kind.UnhashedFlag = false
holds_value kind.PedanticFlag = false
holds_value kind.ModuleOnlyFlag = false
holds_value kind.IntegratedAs = false
holds_value kind.NoIntegratedAs = false
holds_value _ = true

abbrev pub kind_of : ArgData → Kind
kind_of value = (content value).kind

-- the word that a value prints
abbrev pub word_of : ArgData → List ℕ
word_of value = (content value).word

-- whether the value is a path
abbrev pub is_path : ArgData → Bool
is_path value = (content value).is_path
