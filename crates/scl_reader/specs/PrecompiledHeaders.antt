-- The precompiled headers that Gcc and Clang may take in the place of headers that a command line names.
use Rattle.std.specs.Prelude.{ℕ, ◌+◌, ◌*◌, ◌&&◌, Bool, true, false, List, [], ◌∷◌, ◌++◌, codes, length, map, nat_le, Option, None, Some, unwrap_or, if◌then◌else◌}
use Rattle.std.specs.List.{flat_map, list_any}
use Rattle.std.specs.Option.{is_some, option_map_or}
use Rattle.std.specs.Result.{result_ok}
use Rattle.std.specs.Str.{bytes_eq}
use Rattle.scl_args.specs.Options.{texts}
use Rattle.scl_files.specs.Paths.{join}
use Rattle.scl_files.specs.Views.{exists}
use Rattle.scl_gnu_reading.specs.contracts.gcc.data.KindPartialEq.TheImpl.{ghosts}
use Rattle.scl_gnu_reading.specs.declared.gcc.data.Kind.{Kind}
use Rattle.scl_gnu_reading.specs.declared.gcc.data.Kind.TheVariants as kind
use Rattle.scl_values.specs.Seen.{Seen, Raw, Unknown, Known}
use Rattle.scl_reader.specs.CommandLines.{Given}
use Rattle.scl_reader.specs.declared.reading.Reading.{Reading}
use Rattle.scl_reader.specs.declared.reading.Reading.TheVariants as reading

-- ---- what a line names

-- the longest path that is looked at, in bytes: longer ones name no file
abbrev pub longest : ℕ
longest = 4096

-- whether the option has one of the flags, and a path after it
abbrev pub names_by : List (List ℕ) → Seen Kind → Bool
names_by flags (Raw w) = false
names_by flags (Unknown w) = false
names_by flags (Known f k v how) = list_any (λ flag. bytes_eq flag f) flags && nat_le (length v) longest

-- the flag that names a header to be read before the input
abbrev pub including : List (List ℕ)
including = codes "-include" ∷ []

-- the flags that name a folder in which headers are searched
abbrev pub searching : List (List ℕ)
searching = codes "-I" ∷ codes "-iquote" ∷ codes "-isystem" ∷ codes "-idirafter" ∷ []

abbrev pub headers_named : List (Seen Kind) → List (List ℕ)
headers_named os = texts (names_by including) os

abbrev pub folders_named : List (Seen Kind) → List (List ℕ)
folders_named os = texts (names_by searching) os

-- ---- their paths

-- a header's precompiled ones at a place: Gcc takes the first, Clang either
abbrev pub precompiled_at : List ℕ → List ℕ → List (List ℕ)
precompiled_at header place = join place (header ++ codes ".gch") ∷ join place (header ++ codes ".pch") ∷ []

-- the directory, and the folders by it
abbrev pub places : List ℕ → List (List ℕ) → List (List ℕ)
places directory folders = directory ∷ map (join directory) folders

-- of each header at each place
abbrev pub precompiled_in : List (List ℕ) → List (List ℕ) → List (List ℕ)
precompiled_in headers places = flat_map (λ header. flat_map (precompiled_at header) places) headers

-- how many headers are looked at, each counted at each place: this limits the work
abbrev pub most : ℕ
most = 4096

abbrev pub are_few : List (List ℕ) → List (List ℕ) → Bool
are_few headers folders = nat_le (length headers * (length folders + 1)) most

-- the paths at which precompiled headers may be, unless there are too many
abbrev pub precompiled_for : List ℕ → List (List ℕ) → List (List ℕ) → Option (List (List ℕ))
precompiled_for directory headers folders =
    if are_few headers folders then Some (precompiled_in headers (places directory folders)) else None

abbrev pub paths_named : List ℕ → List (Seen Kind) → Option (List (List ℕ))
paths_named directory os = precompiled_for directory (headers_named os) (folders_named os)

-- ---- when it matters

-- whether it matters for the option if a precompiled header is there: the macro that is added for split debug information keeps the compiler from taking it, or it says so
abbrev pub is_concerned : Seen Kind → Bool
is_concerned (Raw w) = false
is_concerned (Unknown w) = bytes_eq w (codes "-Winvalid-pch")
is_concerned (Known f k v how) = ghosts.eq k kind.SplitDwarf

-- the options, where it matters for one
abbrev pub concerned : List (Seen Kind) → List (Seen Kind)
concerned os = if list_any is_concerned os then os else []

-- those of the given line of Gcc or Clang, where it is not refused
abbrev pub concerned_in : Reading → List (Seen Kind)
concerned_in (reading.Gnu r) = if is_some (result_ok r.outcome) then concerned r.outer.line.options else []
concerned_in (reading.Msvc r) = []
concerned_in (reading.Diab r) = []
concerned_in (reading.Tasking r) = []

-- the paths at which precompiled headers matter
abbrev pub precompiled_headers : Given → Reading → List (List ℕ)
precompiled_headers g r = unwrap_or (paths_named g.directory (concerned_in r)) []

-- whether there is one in the view; where a line names too many, one may be there
abbrev pub has_precompiled_header : Given → Reading → Bool
has_precompiled_header g r = option_map_or (list_any (λ path. exists path g.view)) (paths_named g.directory (concerned_in r)) true
