-- The questions of the answer to a request: paths that its view does not have.
use Rattle.std.specs.Prelude.{◌≡◌, ℕ, Bool, true, false, List, [], ◌∷◌, ◌++◌, codes, map, Option, None, Some, Result, Ok, Err}
use Rattle.std.specs.List.{flat_map}
use Rattle.scl_values.specs.Each.{Each}
use Rattle.scl_files.specs.Paths.{join}
use Rattle.scl_files.specs.Views.{Viewed, exists, is_directory}
use Rattle.scl_files.specs.Wanted.{HasFiles, HasNone}
use Rattle.scl_text.specs.Outputs.{path_at}
use Rattle.scl_text.specs.Records.{Parsed, Verdict}
use Rattle.scl_reader.specs.CommandLines.{Given, Request, given_in}
use Rattle.scl_reader.specs.Answers.{reading_by, answer_to}
use Rattle.scl_reader.specs.PrecompiledHeaders.{has_precompiled_header, precompiled_headers}
use Rattle.scl_reader.specs.Reads.{files_lacked, outcome_in, read_of}
use Rattle.scl_reader.specs.declared.reading.Reading.{Reading}

-- what is in question, by paths
pub record Questions : Type 0 where
  pub files : List (List ℕ)
  pub directories : List (List ℕ)
  pub existing : List (List ℕ)

-- the path, where nothing was found there
abbrev pub if_none : Bool → List ℕ → List (List ℕ)
if_none true path = []
if_none false path = path ∷ []

-- ---- directories

-- the path, where it is no directory of the view
abbrev pub no_directory : Viewed → List ℕ → List (List ℕ)
no_directory view path = if_none (is_directory path view) path

abbrev pub hash_files : Result Parsed Verdict → List (List ℕ)
hash_files (Ok p) = p.extra_hash_files
hash_files (Err v) = []

-- a file on which the outcome depends may be a directory of profiles
abbrev pub directories_in : Viewed → Result Parsed Verdict → List (List ℕ)
directories_in view r = flat_map (no_directory view) (hash_files r)

-- ---- paths that exist

-- debug information may be added to a file that exists
abbrev pub database_asked : List ℕ → Viewed → Option (List ℕ) → List (List ℕ)
database_asked directory view None = []
database_asked directory view (Some database) = if_none (exists (join directory database) view) (join directory database)

abbrev pub database_in : Result Parsed Verdict → Option (List ℕ)
database_in (Ok p) = path_at p.outputs (codes "pdb")
database_in (Err v) = None

-- the path, where the view has nothing
abbrev pub no_path : Viewed → List ℕ → List (List ℕ)
no_path view path = if_none (exists path view) path

-- the paths of precompiled headers that matter, where the view has nothing
abbrev pub headers_asked : Given → Reading → List (List ℕ)
headers_asked g r = flat_map (no_path g.view) (precompiled_headers g r)

-- ---- all of them

-- the questions of the reading of a command line
abbrev pub questions_in : Given → Reading → Questions
questions_in g r = record {
  files = map (λ file. file.path) (files_lacked r);
  directories = directories_in g.view (outcome_in r);
  existing = database_asked g.directory g.view (database_in (outcome_in r)) ++ headers_asked g r;
}

abbrev pub questions_of : Request → Questions
questions_of request = questions_in (given_in request) (read_of request)

-- the disk has what the view has
pub record Extends (disk view : Viewed) : Type 0 where
  pub files : HasFiles disk.files view.files
  pub directories : (path : List ℕ) → is_directory path view ≡ true → is_directory path disk ≡ true
  pub existing : (path : List ℕ) → exists path view ≡ true → exists path disk ≡ true
  pub multiarch : disk.is_multiarch ≡ view.is_multiarch

-- the disk has none of the questions
pub record HasNoneOf (disk : Viewed) (q : Questions) : Type 0 where
  pub files : HasNone disk.files q.files
  pub directories : Each (λ path. is_directory path disk ≡ false) q.directories
  pub existing : Each (λ path. exists path disk ≡ false) q.existing

-- the request, on the disk
abbrev pub on_disk : Request → Viewed → Request
on_disk r disk = record { compiler = r.compiler; directory = r.directory; words = r.words; environment = r.environment; view = disk }

abbrev pub AnswersAreDecided : Type 0
AnswersAreDecided = (r : Request) (disk : Viewed) → Extends disk r.view → HasNoneOf disk (questions_of r) → answer_to (on_disk r disk) ≡ answer_to r

-- so is the record, each of its fields, or the refusal
abbrev pub ReadingsAreDecided : Type 0
ReadingsAreDecided = (r : Request) (disk : Viewed) → Extends disk r.view → HasNoneOf disk (questions_of r) → reading_by r.compiler (on_disk r disk) ≡ reading_by r.compiler r

-- so is the whole reading: the words of each line, given and inner, their options and what is said against them, the texts of response files, what is lacked, and the outcome
abbrev pub WholeReadingsAreDecided : Type 0
WholeReadingsAreDecided = (r : Request) (disk : Viewed) → Extends disk r.view → HasNoneOf disk (questions_of r) → read_of (on_disk r disk) ≡ read_of r

-- so is whether there is a precompiled header that matters
abbrev pub HeadersAreDecided : Type 0
HeadersAreDecided =
    (r : Request) (disk : Viewed) → Extends disk r.view → HasNoneOf disk (questions_of r)
    → has_precompiled_header (given_in (on_disk r disk)) (read_of (on_disk r disk)) ≡ has_precompiled_header (given_in r) (read_of r)
