use Rattle.std.proofs.Common.{◌≡◌, ℕ, true, false, ◌&&◌, List, [], ◌∷◌, map, refl, arith}
use Rattle.std.proofs.lemmas.Bool.{and_parts}
use Rattle.std.specs.Prelude.{codes, ok_or}
use Rattle.scl_values.specs.Cuts.{cut}
use Rattle.scl_args.specs.Options.{last_flag, side_of_flag}
use Rattle.scl_values.specs.Row.{Row, row, bare}
use Rattle.scl_values.specs.Seen.{shown}
use Rattle.scl_values.specs.Seen as plain
use Rattle.scl_values.specs.Tables.{owner_in}
use Rattle.scl_args.specs.Checks.{PassChecks}
use Rattle.scl_args.specs.Reads.{Reads}
use Rattle.scl_args.proofs.OutcomeLaws.{bind-ok}
use Rattle.scl_args.specs.OwnWords.{apart_or_either, is_owned}
use Rattle.scl_args.proofs.OwnWordLaws.{one-of}
use Rattle.scl_args.proofs.ReadsLaws.{reads-flag}
use Rattle.scl_text.specs.Records.{NotCompilation}
use Rattle.scl_text.specs.Compilers.{IfCommand}
use Rattle.scl_small.specs.Command.{command}
use Rattle.scl_small.specs.TaskingAgain.{TaskingReadsAgain}
use Rattle.scl_small.specs.ReadAgain.{every_kind, CommandsAreReadAgain, RecordsHaveObjects, LinesHaveNoEmpty}
use Rattle.scl_small.specs.Places.{goes_to}
use Rattle.scl_small.specs.OwnTables.{compile_word, tasking_words, keep_tasking_words}
use Rattle.scl_small.specs.TaskingTable.{rows}
use Rattle.scl_small.specs.TaskingReading.{place, verdict, tested, reading}
use Rattle.scl_small.specs.contracts.tasking_vx.data.KindPartialEq.TheImpl as kind_equal
use Rattle.scl_small.specs.contracts.place.PlacePartialEq.TheImpl.{ghosts}
use Rattle.scl_small.specs.declared.place.Place.TheVariants as places
use Rattle.scl_small.specs.declared.tasking_vx.data.Kind.{Kind}
use Rattle.scl_small.specs.declared.tasking_vx.data.Kind.TheVariants as kinds
use Rattle.scl_small.proofs.OwnTableLaws.{words-owned, words-pass, output-read}
use Rattle.scl_small.proofs.ReadAgainLaws.{is-record, has-object, was-read, no-empty, record-again, command-kept-again}

no_inputs : (k : Kind) → ghosts.eq (place k) places.Input ≡ false
no_inputs k = grind arith

same-kind : (a b : Kind) → kind_equal.ghosts.eq a b ≡ true → a ≡ b
same-kind a b e = grind arith

-- ---- by any tables that satisfy the conditions of the builder's own words

module _ (tables : List (List (Row Kind))) (keep : keep_tasking_words tables ≡ true) where
  owned : (is_owned kind_equal.ghosts.eq tables compile_word ≡ true) × ((is_owned kind_equal.ghosts.eq tables (apart_or_either (codes "-o") kinds.Output) && true) ≡ true)
  owned = and_parts (is_owned kind_equal.ghosts.eq tables compile_word) (is_owned kind_equal.ghosts.eq tables (apart_or_either (codes "-o") kinds.Output) && true)
      (words-owned kind_equal.ghosts.eq tasking_words tables keep)

  reads_compile : Reads (owner_in tables) false (codes "-c" ∷ []) (plain.flag (codes "-c") kinds.DoCompilation ∷ [])
  reads_compile = reads-flag (owner_in tables) false (row (codes "-c") kinds.DoCompilation bare) refl
      (record { is = one-of kind_equal.ghosts.eq same-kind (owner_in tables (codes "-c")) (row (codes "-c") kinds.DoCompilation bare) owned.0; no_mark = refl })

  reads_output : (object : List ℕ) → Reads (owner_in tables) false (codes "-o" ∷ object ∷ []) (plain.value (codes "-o") kinds.Output object ∷ [])
  reads_output object = output-read kind_equal.ghosts.eq same-kind tables (codes "-o") kinds.Output object refl
      (and_parts (is_owned kind_equal.ghosts.eq tables (apart_or_either (codes "-o") kinds.Output)) true owned.1).0

  pub commands_again : CommandsAreReadAgain place kinds.DoCompilation kinds.Output tables reading
  commands_again words p object e =
      let os = map shown (cut (owner_in tables) false words).options in
      let r = was-read tables verdict tested words p e in
      let b = bind-ok (ok_or (last_flag (goes_to place places.CompileFlag) os) NotCompilation) _ p r.1 in
      record-again place kinds.DoCompilation kinds.Output tables (words-pass kind_equal.ghosts.eq tasking_words tables keep) no_inputs reads_output words p object (codes "-c") r.0
      (is-record place os (codes "-c") p b.2) reads_compile

-- ---- by the written table

keeps : keep_tasking_words (rows ∷ []) ≡ true
unfolding rows
keeps = refl

pub passes : PassChecks (rows ∷ []) every_kind side_of_flag
passes = words-pass kind_equal.ghosts.eq tasking_words (rows ∷ []) keeps

pub table_commands_again : CommandsAreReadAgain place kinds.DoCompilation kinds.Output (rows ∷ []) reading
table_commands_again = commands_again (rows ∷ []) keeps

pub command_kept : (words : List (List ℕ)) → IfCommand command (TaskingReadsAgain words) (reading (owner_in (rows ∷ [])) words)
command_kept = command-kept-again place kinds.DoCompilation kinds.Output (rows ∷ []) reading table_commands_again

pub has_object : RecordsHaveObjects (rows ∷ []) reading
has_object words p e =
    let os = map shown (cut (owner_in (rows ∷ [])) false words).options in
    let r = was-read (rows ∷ []) verdict tested words p e in
    let b = bind-ok (ok_or (last_flag (goes_to place places.CompileFlag) os) NotCompilation) _ p r.1 in
    has-object place os (codes "-c") p b.2

pub has_no_empty : LinesHaveNoEmpty (rows ∷ []) reading
has_no_empty = no-empty (rows ∷ []) verdict tested
