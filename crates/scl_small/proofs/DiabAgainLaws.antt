use Rattle.std.proofs.Common.{◌≡◌, ℕ, true, false, List, [], ◌∷◌, map, refl, subst, arith}
use Rattle.std.proofs.lemmas.Bool.{and_parts}
use Rattle.std.specs.List.{list_all}
use Rattle.std.specs.Prelude.{codes, ok_or}
use Rattle.scl_values.specs.Cuts.{cut}
use Rattle.scl_args.specs.Options.{is_of, last_flag, side_of_flag}
use Rattle.scl_values.specs.Row.{Row}
use Rattle.scl_values.specs.Seen.{Seen, Raw, Unknown, Known, shown}
use Rattle.scl_values.specs.Seen as plain
use Rattle.scl_values.specs.Tables.{owner_in, all_rows}
use Rattle.scl_args.specs.Checks.{PassChecks}
use Rattle.scl_args.specs.Reads.{Reads}
use Rattle.scl_args.specs.OwnWords.{apart_or_either, is_owned}
use Rattle.scl_args.proofs.FoundLaws.{last-flag, flag-again}
use Rattle.scl_args.proofs.OutcomeLaws.{bind-ok, ok_or-ok}
use Rattle.scl_text.specs.Records.{NotCompilation}
use Rattle.scl_files.specs.Expand.{expand}
use Rattle.scl_files.specs.Views.{File}
use Rattle.scl_files.specs.declared.expand.ExpansionKind.TheVariants as expansions
use Rattle.scl_small.specs.Places.{goes_to}
use Rattle.scl_text.specs.Compilers.{IfCommand}
use Rattle.scl_small.specs.Command.{command}
use Rattle.scl_small.specs.DiabAgain.{DiabReadsAgain}
use Rattle.scl_small.specs.ReadAgain.{every_kind, CommandsAreReadAgain, RecordsHaveObjects, LinesHaveNoEmpty}
use Rattle.scl_small.specs.OwnTables.{keep_words, compiles_bare, diab_words, keep_diab_words}
use Rattle.scl_small.specs.DiabTable.{rows}
use Rattle.scl_small.specs.DiabReading.{place, verdict, tested, reading, expanded_reading}
use Rattle.scl_small.specs.contracts.diab.data.KindPartialEq.TheImpl as kind_equal
use Rattle.scl_small.specs.contracts.place.PlacePartialEq.TheImpl.{ghosts}
use Rattle.scl_small.specs.declared.place.Place.TheVariants as places
use Rattle.scl_small.specs.declared.diab.data.Kind.{Kind}
use Rattle.scl_small.specs.declared.diab.data.Kind.TheVariants as kinds
use Rattle.scl_small.proofs.OwnTableLaws.{words-owned, words-pass, output-read}
use Rattle.scl_small.proofs.ReadAgainLaws.{is-record, has-object, was-read, no-empty, record-again, command-kept-again}

no_inputs : (k : Kind) → ghosts.eq (place k) places.Input ≡ false
no_inputs k = grind arith

only : (k : Kind) → ghosts.eq (place k) places.CompileFlag ≡ true → k ≡ kinds.DoCompilation
only k e = grind arith

by_kind : (o : Seen Kind) → goes_to place places.CompileFlag o ≡ is_of (λ k. ghosts.eq (place k) places.CompileFlag) o
by_kind (Raw w) = refl
by_kind (Unknown w) = refl
by_kind (Known f k v h) = refl

same-kind : (a b : Kind) → kind_equal.ghosts.eq a b ≡ true → a ≡ b
same-kind a b e = grind arith

-- ---- by any tables that satisfy the conditions of the builder's own words

module _ (tables : List (List (Row Kind))) (keep : keep_diab_words tables ≡ true) where
  parts : (keep_words kind_equal.ghosts.eq diab_words tables ≡ true) × (list_all compiles_bare (all_rows tables) ≡ true)
  parts = and_parts (keep_words kind_equal.ghosts.eq diab_words tables) (list_all compiles_bare (all_rows tables)) keep

  reads_output : (object : List ℕ) → Reads (owner_in tables) false (codes "-o" ∷ object ∷ []) (plain.value (codes "-o") kinds.Output object ∷ [])
  reads_output object = output-read kind_equal.ghosts.eq same-kind tables (codes "-o") kinds.Output object refl
      (and_parts (is_owned kind_equal.ghosts.eq tables (apart_or_either (codes "-o") kinds.Output)) true (words-owned kind_equal.ghosts.eq diab_words tables parts.0)).0

  pub commands_again : CommandsAreReadAgain place kinds.DoCompilation kinds.Output tables reading
  commands_again words p object e =
      let os = map shown (cut (owner_in tables) false words).options in
      let r = was-read tables verdict tested words p e in
      let b = bind-ok (ok_or (last_flag (goes_to place places.CompileFlag) os) NotCompilation) _ p r.1 in
      let f = last-flag tables false (goes_to place places.CompileFlag) words b.0 (ok_or-ok (last_flag (goes_to place places.CompileFlag) os) NotCompilation b.0 b.1) in
      let reads_flag = flag-again tables false (λ k. ghosts.eq (place k) places.CompileFlag) parts.1 kinds.DoCompilation only (goes_to place places.CompileFlag) by_kind f.0 f.1 in
      record-again place kinds.DoCompilation kinds.Output tables (words-pass kind_equal.ghosts.eq diab_words tables parts.0) no_inputs reads_output words p object b.0 r.0
      (is-record place os b.0 p b.2)
      (subst (λ x. Reads (owner_in tables) false (x ∷ []) (plain.flag x kinds.DoCompilation ∷ [])) f.2 reads_flag)

-- ---- by the written table

keeps : keep_diab_words (rows ∷ []) ≡ true
unfolding rows
keeps = refl

pub passes : PassChecks (rows ∷ []) every_kind side_of_flag
passes = words-pass kind_equal.ghosts.eq diab_words (rows ∷ []) (parts (rows ∷ []) keeps).0

pub table_commands_again : CommandsAreReadAgain place kinds.DoCompilation kinds.Output (rows ∷ []) reading
table_commands_again = commands_again (rows ∷ []) keeps

pub command_kept : (directory : List ℕ) (files : List File) (words : List (List ℕ)) → IfCommand command (DiabReadsAgain directory files words) (expanded_reading (owner_in (rows ∷ [])) directory files words)
command_kept directory files words = command-kept-again place kinds.DoCompilation kinds.Output (rows ∷ []) reading table_commands_again (expand expansions.Diab directory files words)

pub has_object : RecordsHaveObjects (rows ∷ []) reading
has_object words p e =
    let os = map shown (cut (owner_in (rows ∷ [])) false words).options in
    let r = was-read (rows ∷ []) verdict tested words p e in
    let b = bind-ok (ok_or (last_flag (goes_to place places.CompileFlag) os) NotCompilation) _ p r.1 in
    has-object place os b.0 p b.2

pub has_no_empty : LinesHaveNoEmpty (rows ∷ []) reading
has_no_empty = no-empty (rows ∷ []) verdict tested
