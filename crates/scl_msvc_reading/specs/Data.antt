-- The kinds of options, and what a value of each holds.
use Rattle.std.specs.Prelude.{ℕ, Bool, true, false, List}
use Rattle.scl_values.specs.Contents.{Content, nothing, word, path}
use Rattle.scl_msvc_reading.specs.declared.msvc.data.ArgData.{ArgData}
use Rattle.scl_msvc_reading.specs.declared.msvc.data.ArgData.TheVariants as values
use Rattle.scl_msvc_reading.specs.declared.msvc.data.Kind.{Kind}
use Rattle.scl_msvc_reading.specs.declared.msvc.data.Kind.TheVariants as kind

-- a value's kind, and the word or path that it holds, if it holds one
abbrev pub content : ArgData → Content Kind
content values.TooHardFlag = nothing kind.TooHardFlag
content (values.TooHard w) = word kind.TooHard w.items
content (values.TooHardPath p) = path kind.TooHardPath p.0.items
content values.SuppressCompilation = nothing kind.SuppressCompilation
content values.DoCompilation = nothing kind.DoCompilation
content (values.Output p) = path kind.Output p.0.items
content (values.CInput p) = path kind.CInput p.0.items
content (values.CxxInput p) = path kind.CxxInput p.0.items
content (values.ClangLanguage w) = word kind.ClangLanguage w.items
content (values.ClangModuleFile w) = word kind.ClangModuleFile w.items
content (values.ClangModuleOutput w) = word kind.ClangModuleOutput w.items
content (values.ExtraHashFile p) = path kind.ExtraHashFile p.0.items
content values.DebugInfo = nothing kind.DebugInfo
content (values.ProgramDatabase p) = path kind.ProgramDatabase p.0.items
content (values.DepFile p) = path kind.DepFile p.0.items
content values.ShowIncludes = nothing kind.ShowIncludes
content (values.PreprocessorArgument w) = word kind.PreprocessorArgument w.items
content (values.PreprocessorArgumentPath p) = path kind.PreprocessorArgumentPath p.0.items
content (values.ExternalIncludePath p) = path kind.ExternalIncludePath p.0.items
content values.PassThrough = nothing kind.PassThrough
content (values.PassThroughWithPath p) = path kind.PassThroughWithPath p.0.items
content (values.PassThroughWithSuffix w) = word kind.PassThroughWithSuffix w.items
content (values.XClang w) = word kind.XClang w.items
content (values.Clang w) = word kind.Clang w.items
content values.Ignore = nothing kind.Ignore
content (values.IgnoreWithSuffix w) = word kind.IgnoreWithSuffix w.items

-- whether options of the kind have a value
abbrev pub holds_value : Kind → Bool
holds_value kind.TooHardFlag = false
holds_value kind.SuppressCompilation = false
holds_value kind.DoCompilation = false
holds_value kind.DebugInfo = false
holds_value kind.ShowIncludes = false
holds_value kind.PassThrough = false
holds_value kind.Ignore = false
holds_value _ = true

abbrev pub kind_of : ArgData → Kind
kind_of value = (content value).kind

-- the word that a value prints
abbrev pub word_of : ArgData → List ℕ
word_of value = (content value).word

-- whether the value is a path
abbrev pub is_path : ArgData → Bool
is_path value = (content value).is_path
