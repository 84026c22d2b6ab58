-- The values of TaskingVX's options.
use Rattle.std.specs.Prelude.{ℕ, Bool, true, false, List}
use Rattle.scl_values.specs.Contents.{Content, nothing, word, path}
use Rattle.scl_small.specs.declared.tasking_vx.data.ArgData.{ArgData}
use Rattle.scl_small.specs.declared.tasking_vx.data.ArgData.TheVariants as values
use Rattle.scl_small.specs.declared.tasking_vx.data.Kind.{Kind}
use Rattle.scl_small.specs.declared.tasking_vx.data.Kind.TheVariants as kinds

-- a value's kind, and the word or path that it holds, if it holds one
abbrev pub content : ArgData → Content Kind
content values.TooHardFlag = nothing kinds.TooHardFlag
content (values.TooHard w) = word kinds.TooHard w.items
content values.NotCompilationFlag = nothing kinds.NotCompilationFlag
content (values.NotCompilation w) = word kinds.NotCompilation w.items
content values.DoCompilation = nothing kinds.DoCompilation
content (values.Output p) = path kinds.Output p.0.items
content (values.PassThrough w) = word kinds.PassThrough w.items
content (values.PreprocessorArgument w) = word kinds.PreprocessorArgument w.items
content (values.PreprocessorArgumentPath p) = path kinds.PreprocessorArgumentPath p.0.items
content (values.DepFile p) = path kinds.DepFile p.0.items

-- whether options of the kind have a value
abbrev pub holds_value : Kind → Bool
holds_value kinds.TooHardFlag = false
holds_value kinds.NotCompilationFlag = false
holds_value kinds.DoCompilation = false
holds_value _ = true

abbrev pub kind_of : ArgData → Kind
kind_of value = (content value).kind

-- the word that a value prints
abbrev pub word_of : ArgData → List ℕ
word_of value = (content value).word

-- whether the value is a path
abbrev pub is_path : ArgData → Bool
is_path value = (content value).is_path
