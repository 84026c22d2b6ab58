-- What is reported of the options of a request, a row each.
use Rattle.std.specs.Prelude.{◌≡◌, ℕ, List, ◌++◌}
use Rattle.scl_rows.specs.GnuRows.{gnu_rows}
use Rattle.scl_kinds.specs.KindNames.{diab_kind_name, tasking_kind_name}
use Rattle.scl_rows.specs.MsvcRows.{msvc_rows}
use Rattle.scl_rows.specs.Rows.{Tells, Told, words_given}
use Rattle.scl_rows.specs.SmallRows.{small_rows}
use Rattle.scl_small.specs.DiabReading as diab
use Rattle.scl_small.specs.TaskingReading as tasking
use Rattle.scl_reader.specs.Answers.{reading_by}
use Rattle.scl_reader.specs.CommandLines.{Request}
use Rattle.scl_reader.specs.Reads.{read_of}
use Rattle.scl_reader.specs.declared.reading.Reading.{Reading}
use Rattle.scl_reader.specs.declared.reading.Reading.TheVariants.{Gnu, Msvc, Diab, Tasking}

-- those of a command line that was read
abbrev pub rows_in : Reading → List Told
rows_in (Gnu r) = gnu_rows r
rows_in (Msvc r) = msvc_rows r
rows_in (Diab r) = small_rows diab_kind_name diab.place r
rows_in (Tasking r) = small_rows tasking_kind_name tasking.place r

abbrev pub rows_by : Request → List Told
rows_by request = rows_in (read_of request)

-- ---- laws

-- where a row is refused, so is the request, as the first such row says; where it is read, the rows make the lists of its record
abbrev pub RowsTell : Type 0
RowsTell = (request : Request) → Tells (rows_by request) (reading_by request.compiler request)

-- the words of the lines that it is, the given one and the inner ones, response files put in place
abbrev pub words_in : Reading → List (List ℕ)
words_in (Gnu r) = r.outer.words ++ r.inner.words
words_in (Msvc r) = r.outer.words ++ r.xclang.words ++ r.clang.words
words_in (Diab r) = r.outer.words
words_in (Tasking r) = r.outer.words

-- the words that rows were cut from, in order, are those of the lines, each once, as they stood
abbrev pub RowsShareWords : Type 0
RowsShareWords = (request : Request) → words_given (rows_by request) ≡ words_in (read_of request)
