-- A key, and which of its parts the first round answers.
use Rattle.std.specs.Prelude.{ℕ, Bool, true, false, List, [], ◌∷◌}
use Rattle.std.specs.List.{flat_map, list_any}
use Rattle.scl_files.specs.Paths.{join, same_path}
use Rattle.scl_key.specs.declared.part.Ask.{Ask}
use Rattle.scl_key.specs.declared.part.Ask.TheVariants as asks
use Rattle.scl_key.specs.Directs.{Direct, env as env_asked, search, first, named, refuse_if_read}
use Rattle.scl_key.specs.Parts.{Part, is, output, compiler, asked}

-- the parts of a key, the directory of the compiler, and what finds the key without a run
pub record Key : Type 0 where
  pub place : List ℕ
  pub parts : List Part
  pub direct : List Direct

-- ---- without a run

-- a variable whose value decides what a run writes
abbrev pub variable_in : Direct → List (List ℕ)
variable_in (env_asked name) = name ∷ []
variable_in (search words) = []
variable_in (first header) = []
variable_in (named pattern) = []
variable_in (refuse_if_read pattern) = []

-- the words of a run that names the folders in which the compiler searches headers
abbrev pub search_in : Direct → List (List (List ℕ))
search_in (env_asked name) = []
search_in (search words) = words ∷ []
search_in (first header) = []
search_in (named pattern) = []
search_in (refuse_if_read pattern) = []

-- a header that words name, or that the compiler includes by itself
abbrev pub header_in : Direct → List (List ℕ)
header_in (env_asked name) = []
header_in (search words) = []
header_in (first header) = header ∷ []
header_in (named pattern) = []
header_in (refuse_if_read pattern) = []

abbrev pub variables : Key → List (List ℕ)
variables key = flat_map variable_in key.direct

abbrev pub searches : Key → List (List (List ℕ))
searches key = flat_map search_in key.direct

abbrev pub headers_named : Key → List (List ℕ)
headers_named key = flat_map header_in key.direct

-- ---- the first round

abbrev pub asks_early : Ask → Bool
asks_early asks.SourcesIfShown = false
asks_early asks.RefuseIfShown = false
asks_early other = true

-- the first round answers it
abbrev pub is_early : Part → Bool
is_early (is row) = true
is_early (output made) = true
is_early compiler = true
is_early (asked ask name) = asks_early ask
is_early other = false

-- ---- outputs

-- it is an output at this path; both are looked for from the place
abbrev pub is_output_at : (place path : List ℕ) → Part → Bool
is_output_at place path (output made) = same_path (join place made.path) (join place path)
is_output_at place path other = false

-- the command writes there
abbrev pub is_made : Key → List ℕ → Bool
is_made key path = list_any (is_output_at key.place path) key.parts
