-- Tables of a caller's own by which the commands of Diab and TaskingVX are read again: the conditions on their rows, which
-- can be computed.
use Rattle.std.specs.Prelude.{Bool, not, ◌&&◌, ◌||◌, List, [], ◌∷◌, codes, IsTrue}
use Rattle.std.specs.List.{list_all}
use Rattle.scl_values.specs.Row.{Row, row, bare}
use Rattle.scl_values.specs.Tables.{all_rows}
use Rattle.scl_args.specs.Options.{side_of_flag}
use Rattle.scl_args.specs.Checks.{is_changing, is_joining, keeps_flags, joins_safely}
use Rattle.scl_args.specs.OwnWords.{OwnWord, apart_or_either, is_owned, is_bare}
use Rattle.scl_small.specs.ReadAgain.{every_kind, CommandsAreReadAgain}
use Rattle.scl_small.specs.DiabReading as diab
use Rattle.scl_small.specs.TaskingReading as tasking
use Rattle.scl_small.specs.contracts.diab.data.KindPartialEq.TheImpl as diab_equal
use Rattle.scl_small.specs.contracts.tasking_vx.data.KindPartialEq.TheImpl as tasking_equal
use Rattle.scl_small.specs.contracts.place.PlacePartialEq.TheImpl as place_equal
use Rattle.scl_small.specs.declared.diab.data.Kind.{Kind as DiabKind}
use Rattle.scl_small.specs.declared.diab.data.Kind.TheVariants as diab_kinds
use Rattle.scl_small.specs.declared.tasking_vx.data.Kind.{Kind as TaskingKind}
use Rattle.scl_small.specs.declared.tasking_vx.data.Kind.TheVariants as tasking_kinds
use Rattle.scl_small.specs.declared.place.Place.TheVariants as places

-- whether these own words have the owners that are intended, and no printed option is cut differently (both checks of tables)
abbrev pub keep_words : {K : Type 0} → (K → K → Bool) → List (OwnWord K) → List (List (Row K)) → Bool
keep_words is_kind own tables =
    list_all (is_owned is_kind tables) own
    && (keeps_flags (is_changing every_kind) (all_rows tables)
    && joins_safely (is_joining side_of_flag) (all_rows tables) (all_rows tables))

-- ---- Diab

-- a flag that requests a compilation takes no value
abbrev pub compiles_bare : Row DiabKind → Bool
compiles_bare row = not (place_equal.ghosts.eq (diab.place row.kind) places.CompileFlag) || is_bare row.shape

abbrev pub diab_words : List (OwnWord DiabKind)
diab_words = apart_or_either (codes "-o") diab_kinds.Output ∷ []

-- whether commands of Diab by the tables are read again
abbrev pub keep_diab_words : List (List (Row DiabKind)) → Bool
keep_diab_words tables = keep_words diab_equal.ghosts.eq diab_words tables && list_all compiles_bare (all_rows tables)

abbrev pub OwnDiabCommandsAreReadAgain : Type 0
OwnDiabCommandsAreReadAgain = (tables : List (List (Row DiabKind))) → IsTrue (keep_diab_words tables) →
    CommandsAreReadAgain diab.place diab_kinds.DoCompilation diab_kinds.Output tables diab.reading

-- ---- TaskingVX: its commands have the flag `-c`, whichever flag requested the compilation

abbrev pub compile_word : OwnWord TaskingKind
compile_word = record { word = codes "-c"; rows = row (codes "-c") tasking_kinds.DoCompilation bare ∷ [] }

abbrev pub tasking_words : List (OwnWord TaskingKind)
tasking_words = compile_word ∷ apart_or_either (codes "-o") tasking_kinds.Output ∷ []

-- whether commands of TaskingVX by the tables are read again
abbrev pub keep_tasking_words : List (List (Row TaskingKind)) → Bool
keep_tasking_words = keep_words tasking_equal.ghosts.eq tasking_words

abbrev pub OwnTaskingCommandsAreReadAgain : Type 0
OwnTaskingCommandsAreReadAgain = (tables : List (List (Row TaskingKind))) → IsTrue (keep_tasking_words tables) →
    CommandsAreReadAgain tasking.place tasking_kinds.DoCompilation tasking_kinds.Output tables tasking.reading
