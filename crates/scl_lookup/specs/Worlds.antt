-- What a hit is worth.
use Rattle.std.specs.Prelude.{◌≡◌, ◌⊎◌, ℕ, List, Some}
use Rattle.std.specs.Option.{option_map}
use Rattle.scl_lookup.specs.Questions.{env, program, file, bytes, names, real, times, run, Standing, regular, folder, special, missing, Program, Machine}
use Rattle.scl_lookup.specs.Lookups.{value_on}
use Rattle.scl_lookup.specs.Keys.{Part, Reader, Row, rows_on, lookup_of, text_of, CanBeHashed}

-- a machine with its compilers at one moment
pub record World : Type 0 where
  -- its answers, with the bytes themselves where a caller gives their sum
  pub seen : Machine
  -- what a compilation of a key makes there
  pub outcome : List Part → List (List ℕ)

abbrev pub Digest : Type 0
Digest = List ℕ → List ℕ

abbrev pub program_with : Digest → Program → Program
program_with digest it = record { sum = digest it.sum; links = it.links }

abbrev pub standing_with : Digest → Standing → Standing
standing_with digest (regular content) = regular (digest content)
standing_with digest folder = folder
standing_with digest special = special
standing_with digest missing = missing

-- what a caller answers that sums bytes so
abbrev pub answered_by : Digest → World → Machine
answered_by digest w (env name) = w.seen (env name)
answered_by digest w (program name) = option_map (program_with digest) (w.seen (program name))
answered_by digest w (file path) = standing_with digest (w.seen (file path))
answered_by digest w (bytes path) = w.seen (bytes path)
answered_by digest w (names path) = w.seen (names path)
answered_by digest w (real path) = w.seen (real path)
answered_by digest w (times path) = w.seen (times path)
answered_by digest w (run language words) = w.seen (run language words)

-- the bytes of a file, or of a program with its libraries
abbrev pub IsFileOf : World → List ℕ → Type 0
IsFileOf w content = (path : List ℕ) × (w.seen (file path) ≡ regular content)

abbrev pub IsProgramOf : World → List ℕ → Type 0
IsProgramOf w content = (name : List ℕ) × ((it : Program) × ((w.seen (program name) ≡ Some it) × (it.sum ≡ content)))

abbrev pub IsSummed : World → List ℕ → Type 0
IsSummed w content = IsFileOf w content ⊎ IsProgramOf w content

-- No two byte strings that are summed on these machines have one sum.
abbrev pub SumsTell : Digest → World → World → Type 0
SumsTell digest v w = (a b : List ℕ) → IsSummed v a → IsSummed w b → digest a ≡ digest b → a ≡ b

-- Compilers are well-behaved in two worlds: where variables, bytes of files and programs, and what runs write are as a key says,
-- they make the same.
abbrev pub AreWellBehaved : Reader → World → World → Type 0
AreWellBehaved reader v w =
    (parts others : List Part) (rows : List Row) → rows_on reader v.seen parts ≡ Some rows → rows_on reader w.seen others ≡ Some rows → v.outcome parts ≡ w.outcome others

-- An entry that was kept for one key in the first world is found for another in the second: the names of their texts are one,
-- and so are the texts, if their names are.
pub record IsHit (reader : Reader) (digest name : Digest) (v w : World) (parts others : List Part) (kept sought : List Row) : Type 0 where
  pub was_kept : value_on (answered_by digest v) (lookup_of reader parts) ≡ Some kept
  pub is_sought : value_on (answered_by digest w) (lookup_of reader others) ≡ Some sought
  pub can_be_kept : CanBeHashed kept
  pub can_be_sought : CanBeHashed sought
  pub name_tells : name (text_of kept) ≡ name (text_of sought) → text_of kept ≡ text_of sought
  pub names_are : name (text_of kept) ≡ name (text_of sought)

-- A hit gives what a compilation would give.
abbrev pub HitsAreRight : Type 0
HitsAreRight =
    (reader : Reader) (digest name : Digest) (v w : World) → SumsTell digest v w → AreWellBehaved reader v w
    → (parts others : List Part) (kept sought : List Row) → IsHit reader digest name v w parts others kept sought → v.outcome parts ≡ w.outcome others
