-- Descriptions of two checkouts whose keys differ in their base directories alone.
use Rattle.std.specs.Prelude.{◌≡◌, ℕ, Bool, List, []}
use Rattle.scl_catalogue.specs.Lookup.{Lexicon}
use Rattle.scl_text.specs.Records.{Parsed}
use Rattle.scl_reader.specs.declared.compiler.Compiler.{Compiler}
use Rattle.scl_key.specs.Keys.{Key}
use Rattle.scl_delivered.specs.Delivered.{Delivered, delivered, object_by}
use Rattle.scl_delivered.specs.Rows.{last_rows_of, rows_of}
use Rattle.scl_requests.specs.SharedLaws.{Field, HasRowsAt, SayTheSame}

-- Two descriptions end alike: of their keys all rows stand at the end, and are the same there.
pub record EndAlike (d d' : Delivered) : Type 0 where
  pub first : rows_of d ≡ []
  pub second : rows_of d' ≡ []
  pub ends : last_rows_of d ≡ last_rows_of d'

-- descriptions whose keys, as they are without bases, differ in these alone end with one key
abbrev pub TextsEndAlike : Type 0
TextsEndAlike =
    (dirs dirs' : List (List ℕ)) (rows : List (List Field)) (macros : List Field)
    (lexicon lexicon' : Lexicon) (c c' : Compiler) (p p' : Parsed) (keeps keeps' : Bool) (key key' : Key)
    → HasRowsAt dirs rows macros (delivered lexicon c p [] keeps key) → HasRowsAt dirs' rows macros (delivered lexicon' c' p' [] keeps' key')
    → SayTheSame dirs dirs' (object_by lexicon c p key) (object_by lexicon' c' p' key')
    → EndAlike (delivered lexicon c p dirs keeps key) (delivered lexicon' c' p' dirs' keeps' key')
