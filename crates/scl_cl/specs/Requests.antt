-- The request that lines make, or the number of the first line that breaks a rule.
use Rattle.std.specs.Prelude.{ℕ, ◌+◌, Bool, true, false, List, [], ◌∷◌, ◌++◌, fold, reverse, length, Option, Some, None, Result, Err, if◌then◌else◌}
use Rattle.std.specs.List.{flat_map, filter_map, list_any}
use Rattle.std.specs.Option.{option_map, option_to_list, ok_or}
use Rattle.scl_files.specs.Views.{Viewed, File, put_file}
use Rattle.scl_reader.specs.CommandLines.{Request}
use Rattle.scl_reader.specs.declared.compiler.Compiler.{Compiler}
use Rattle.scl_cl.specs.Sayings.{Saying, said}
use Rattle.scl_cl.specs.Sayings as sayings

abbrev pub compiler_in : Saying → List Compiler
compiler_in (sayings.Compiler compiler) = compiler ∷ []
compiler_in _ = []

abbrev pub directory_in : Saying → List (List ℕ)
directory_in (sayings.Directory directory) = directory ∷ []
directory_in _ = []

abbrev pub word_in : Saying → List (List ℕ)
word_in (sayings.Word word) = word ∷ []
word_in _ = []

abbrev pub variable_in : Saying → List (List ℕ × List ℕ)
variable_in (sayings.Variable key value) = (key, value) ∷ []
variable_in _ = []

abbrev pub file_in : Saying → List File
file_in (sayings.File path bytes) = record { path = path; bytes = bytes } ∷ []
file_in _ = []

abbrev pub viewed_directory_in : Saying → List (List ℕ)
viewed_directory_in (sayings.ViewedDirectory path) = path ∷ []
viewed_directory_in _ = []

abbrev pub path_in : Saying → List (List ℕ)
path_in (sayings.Existing path) = path ∷ []
path_in _ = []

abbrev pub is_multiarch : Saying → Bool
is_multiarch sayings.Multiarch = true
is_multiarch _ = false

-- the files with others added in order
abbrev pub with_files : List File → List File → List File
with_files files added = fold (λ before file. put_file file before) files added

-- the view of the files, directories and paths that lines name
abbrev pub view_of : List Saying → Viewed
view_of all = record {
  files = with_files [] (flat_map file_in all);
  directories = reverse (flat_map viewed_directory_in all);
  existing = reverse (flat_map path_in all);
  is_multiarch = list_any is_multiarch all;
}

-- what lines name, in order
pub record Gathered : Type 0 where
  pub compilers : List Compiler
  pub directories : List (List ℕ)
  pub words : List (List ℕ)
  pub environment : List (List ℕ × List ℕ)
  pub view : Viewed

abbrev pub gathered : List Saying → Gathered
gathered all = record {
  compilers = flat_map compiler_in all;
  directories = flat_map directory_in all;
  words = flat_map word_in all;
  environment = flat_map variable_in all;
  view = view_of all;
}

-- the first, or the empty path
abbrev pub directory_of : List (List ℕ) → List ℕ
directory_of [] = []
directory_of (directory ∷ _) = directory

abbrev pub request_for : List Compiler → Gathered → Option Request
request_for [] g = None
request_for (compiler ∷ _) g = Some (record {
  compiler = compiler;
  directory = directory_of g.directories;
  words = g.words;
  environment = g.environment;
  view = g.view;
})

-- the request from what lines name, if they name a compiler
abbrev pub request_of : Gathered → Option Request
request_of g = request_for g.compilers g

abbrev pub is_given : {A : Type 0} → List A → Bool
is_given [] = false
is_given (_ ∷ _) = true

-- whether a line breaks a rule, given that the lines before it name this: it says nothing, or it repeats what may be said
-- only once
abbrev pub breaks : Gathered → Option Saying → Bool
breaks g None = true
breaks g (Some (sayings.Compiler _)) = is_given g.compilers
breaks g (Some (sayings.Directory _)) = is_given g.directories
breaks g (Some _) = false

-- what a line says that names this compiler, if there is one
abbrev pub naming : Option Compiler → List Saying
naming compiler = option_to_list (option_map sayings.Compiler compiler)

-- the number of the first line that breaks a rule; the first of these lines has number n and follows lines that say this
abbrev pub first_broken : ℕ → List Saying → List (List ℕ) → Option ℕ
first_broken n earlier [] = None
first_broken n earlier (line ∷ lines) = if breaks (gathered earlier) (said line) then Some n else first_broken (n + 1) (earlier ++ option_to_list (said line)) lines

-- the request of what lines say, if none of them breaks a rule and one names a compiler; a line after them would have number n
abbrev pub request_unless : Option ℕ → ℕ → List Saying → Result Request ℕ
request_unless (Some number) n all = Err number
request_unless None n all = ok_or (request_of (gathered all)) n

-- The request of lines, of which the first has number n and follows lines that say this, or the number of the bad line. That is
-- the first that breaks a rule, or, if no line names a compiler, the last line's number plus one.
abbrev pub request_from : ℕ → List Saying → List (List ℕ) → Result Request ℕ
request_from n earlier lines = request_unless (first_broken n earlier lines) (length lines + n) (earlier ++ filter_map said lines)

-- the request of all lines
abbrev pub request_in : List (List ℕ) → Result Request ℕ
request_in lines = request_from 1 [] lines
