-- The rows of a line that was read, given or inner.
use Rattle.std.specs.Prelude.{ℕ, List, [], ◌∷◌, ◌++◌, drop, length, take, Option, None, Some, codes, unwrap_or}
use Rattle.std.specs.Option.{option_map}
use Rattle.scl_args.specs.Options.{spelled_on}
use Rattle.scl_files.specs.Sources.{first_at}
use Rattle.scl_text.specs.Lines.{Dangled}
use Rattle.scl_text.specs.ReadLines.{LineRead}
use Rattle.scl_text.specs.Reasons.{argument_parse}
use Rattle.scl_text.specs.Records.{Verdict}
use Rattle.scl_values.specs.Seen.{Seen, Raw, Unknown, Known}
use Rattle.scl_values.specs.Spell.{spelled}
use Rattle.scl_values.specs.declared.argument.NormalizedDisposition.{NormalizedDisposition}
use Rattle.scl_rows.specs.Rows.{Told, printed_at}
use Rattle.scl_rows.specs.declared.destination.Destination.{Destination}
use Rattle.scl_rows.specs.declared.destination.Destination.TheVariants as destinations
use Rattle.scl_rows.specs.declared.origin.Origin.{Origin}

-- the flag of an option that has one
abbrev pub flag_at : {K : Type 0} → Seen K → Option (List ℕ)
flag_at (Raw w) = None
flag_at (Unknown w) = None
flag_at (Known f k v how) = Some f

-- what an option is called: by the name of its kind, if it has one
abbrev pub kind_at : {K : Type 0} → (K → List ℕ) → Seen K → List ℕ
kind_at name (Raw w) = codes "raw"
kind_at name (Unknown w) = codes "unknown"
kind_at name (Known f k v how) = name k

-- the value of an option that has one
abbrev pub value_at : {K : Type 0} → Seen K → Option (List ℕ)
value_at (Raw w) = None
value_at (Unknown w) = None
value_at (Known f k v None) = None
value_at (Known f k v (Some how)) = Some v

-- the names of the kinds of a line's options, where they go, on which side of its flag a value is then printed, and where the
-- line comes from
pub record Ways (K : Type 0) : Type 0 where
  pub name : K → List ℕ
  pub goes : Seen K → Destination
  pub side : List ℕ → NormalizedDisposition
  pub origin : Origin

-- a refused option goes to no list
abbrev pub destination_unless : Option Verdict → Destination → Destination
destination_unless None there = there
destination_unless (Some verdict) there = destinations.Refused

-- the row of an option that was cut from these words, with this index and this refusal
abbrev pub row_of : {K : Type 0} → Ways K → List (List ℕ) → Option ℕ → Option Verdict → Seen K → Told
row_of ways words at said o =
    let there = destination_unless said (ways.goes o) in
    record {
      given = words;
      flag = flag_at o;
      value = value_at o;
      kind = kind_at ways.name o;
      destination = there;
      origin = ways.origin;
      printed = printed_at there ways.origin (spelled_on ways.side o);
      refusal = said;
      at = at;
    }

abbrev pub first_said : List (Option Verdict) → Option Verdict
first_said [] = None
first_said (said ∷ others) = said

-- the row of an option that is the first of those ahead, which have these words, indices and refusals
abbrev pub first_row : {K : Type 0} → Ways K → List (List ℕ) → List (Option ℕ) → List (Option Verdict) → Seen K → Told
first_row ways words ats said o = row_of ways (take (length (spelled o)) words) (first_at ats) (first_said said) o

-- the rows of options that were cut from these words, with these indices and refusals
abbrev pub rows_judged : {K : Type 0} → Ways K → List (List ℕ) → List (Option ℕ) → List (Option Verdict) → List (Seen K) → List Told
rows_judged ways words ats said [] = []
rows_judged ways words ats said (o ∷ os) = first_row ways words ats said o ∷ rows_judged ways (drop (length (spelled o)) words) (drop 1 ats) (drop 1 said) os

-- the row of a last flag without its value
abbrev pub row_dangling : {K : Type 0} → (K → List ℕ) → Origin → Dangled K → Told
row_dangling name origin d = record {
  given = d.word ∷ [];
  flag = d.flag;
  value = None;
  kind = unwrap_or (option_map name d.kind) (codes "unknown");
  destination = destinations.Refused;
  origin = origin;
  printed = [];
  refusal = Some argument_parse;
  at = d.at;
}

-- of a dangling end, if there is one
abbrev pub row_end : {K : Type 0} → (K → List ℕ) → Origin → Option (Dangled K) → List Told
row_end name origin None = []
row_end name origin (Some d) = row_dangling name origin d ∷ []

-- the rows of a line: of its options, and of its end
abbrev pub line_rows : {K : Type 0} → Ways K → LineRead K → List Told
line_rows ways l = rows_judged ways l.words l.line.ats l.line.refusals l.line.options ++ row_end ways.name ways.origin l.line.dangling
