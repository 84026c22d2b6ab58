-- The dependency file that a command writes, where its record has no such output.
use Rattle.std.specs.Prelude.{ℕ, ◌||◌, List, codes, find, Option, None, Result, if◌then◌else◌, option_and_then}
use Rattle.std.specs.Option.{option_map}
use Rattle.std.specs.Result.{result_ok}
use Rattle.std.specs.Str.{bytes_eq}
use Rattle.scl_text.specs.Records.{Artifact, Parsed, Verdict}
use Rattle.scl_key.specs.Families.{is_clang, is_gcc}
use Rattle.scl_key.specs.Made.{made_beside}
use Rattle.scl_reader.specs.declared.compiler.Compiler.{Compiler}
use Rattle.scl_describe.specs.Settings.{Settings, wanted}

-- the path of the output `d` among these
abbrev pub dependency_path : List Artifact → Option (List ℕ)
dependency_path outputs = option_map (λ output. output.path) (find (λ output. bytes_eq output.name (codes "d")) outputs)

-- that of Gcc and Clang; no command of the others writes one
abbrev pub dependency_file : Compiler → Parsed → Option (List ℕ)
dependency_file compiler p = if is_gcc compiler || is_clang compiler then dependency_path (made_beside p) else None

-- of a command line that is read so; it comes with what the catalogue reports
abbrev pub writes_by : Settings → Compiler → Result Parsed Verdict → Option (List ℕ)
writes_by s compiler outcome = if (wanted s).tables || (wanted s).key then option_and_then (dependency_file compiler) (result_ok outcome) else None
