-- The text of an answer.
use Rattle.std.specs.Prelude.{ℕ, List, ◌++◌, codes}
use Rattle.std.specs.List.{flat_map}
use Rattle.scl_values.specs.Escaped.{escaped}
use Rattle.scl_description.specs.Lines.{line}
use Rattle.scl_text.specs.declared.records.Cacheable.{Cacheable}
use Rattle.scl_text.specs.declared.records.Cacheable.TheVariants as cacheable
use Rattle.scl_reader.specs.Answers.{Answer, compiled, cannot_cache, not_compilation}

-- the line of a word
abbrev pub arg_line : List ℕ → List ℕ
arg_line word = codes "arg " ++ line (escaped word)

-- whether the result can be cached
abbrev pub cacheable_text : Cacheable → List ℕ
cacheable_text cacheable.Yes = codes "cacheable yes"
cacheable_text cacheable.No = codes "cacheable no"

-- the text of an answer, in lines with LF; a reason is not escaped, and the text beside it is left out
abbrev pub text_of : Answer → List ℕ
text_of (compiled words kept) = line (codes "ok") ++ flat_map arg_line words ++ line (cacheable_text kept)
text_of (cannot_cache reason beside) = codes "cannot-cache " ++ line reason
text_of not_compilation = line (codes "not-compilation")
