-- What a line of a request says.
use Rattle.std.specs.Prelude.{ℕ, List, [], ◌∷◌, Option, Some, None, codes, find, if◌then◌else◌, option_and_then}
use Rattle.std.specs.Option.{option_map}
use Rattle.std.specs.Str.{bytes_eq}
use Rattle.scl_files.specs.Characters.{space}
use Rattle.scl_reader.specs.declared.compiler.Compiler as compilers
use Rattle.scl_cl.specs.declared.keyword.Keyword.{Keyword}
use Rattle.scl_cl.specs.declared.keyword.Keyword.TheVariants as keyword
use Rattle.scl_description.specs.Lines.{cut_at}
use Rattle.scl_description.specs.Fields.{field_of, two_fields}
use Rattle.scl_reader.specs.Compilers.{compiler_named}

-- what a line says
pub data Saying : Type 0 where
  Blank : Saying
  Compiler : (compiler : compilers.Compiler) → Saying
  Directory : (directory : List ℕ) → Saying
  Word : (word : List ℕ) → Saying
  File : (path bytes : List ℕ) → Saying
  ViewedDirectory : (path : List ℕ) → Saying
  Existing : (path : List ℕ) → Saying
  Variable : (key value : List ℕ) → Saying
  Multiarch : Saying

abbrev pub keyword_text : Keyword → List ℕ
keyword_text keyword.Compiler = codes "compiler"
keyword_text keyword.Cwd = codes "cwd"
keyword_text keyword.Word = codes "word"
keyword_text keyword.File = codes "file"
keyword_text keyword.Dir = codes "dir"
keyword_text keyword.Exists = codes "exists"
keyword_text keyword.Env = codes "env"

abbrev pub keywords : List Keyword
keywords = keyword.Word ∷ keyword.Compiler ∷ keyword.Cwd ∷ keyword.File ∷ keyword.Dir ∷ keyword.Exists ∷ keyword.Env ∷ []

abbrev pub keyword_named : List ℕ → Option Keyword
keyword_named text = find (λ k. bytes_eq (keyword_text k) text) keywords

-- what a line says, by its keyword and the text after the keyword's space
abbrev pub said_with : List ℕ → Keyword → Option Saying
said_with text keyword.Compiler = option_map Compiler (compiler_named text)
said_with text keyword.Cwd = option_map Directory (field_of text)
said_with text keyword.Word = option_map Word (field_of text)
said_with text keyword.File = option_map (λ p. File p.0 p.1) (two_fields text)
said_with text keyword.Dir = option_map ViewedDirectory (field_of text)
said_with text keyword.Exists = option_map Existing (field_of text)
said_with text keyword.Env = option_map (λ p. Variable p.0 p.1) (two_fields text)

-- what a line without a space says
abbrev pub said_alone : List ℕ → Option Saying
said_alone line =
    if bytes_eq line [] then Some Blank
    else (if bytes_eq line (codes "multiarch") then Some Multiarch else None)

-- what a line says, if anything, by what comes before and after its first space
abbrev pub said_in : List ℕ → Option (List ℕ × List ℕ) → Option Saying
said_in line None = said_alone line
said_in line (Some parts) = option_and_then (said_with parts.1) (keyword_named parts.0)

abbrev pub said : List ℕ → Option Saying
said line = said_in line (cut_at space line)
