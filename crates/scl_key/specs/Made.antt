-- The files that come out: those of the record, and those that it does not name.
use Rattle.std.specs.Prelude.{ℕ, false, nat_eq, List, [], ◌++◌, take, drop, map, codes, Option, Some, None, is_some, if◌then◌else◌}
use Rattle.std.specs.List.{list_any, filter_map, starts_with, last_or}
use Rattle.std.specs.Option.{option_to_list}
use Rattle.scl_text.specs.Languages.{needs_c_preprocessing}
use Rattle.scl_text.specs.Outputs.{path_at}
use Rattle.scl_text.specs.Records.{Artifact, artifact, Parsed}
use Rattle.scl_key.specs.Effects.{behind, is_comma}

abbrev pub unless_comma : List ℕ → Option (List ℕ)
unless_comma text = if list_any is_comma text then None else Some text

-- the file of dependencies that a word passes to the preprocessor, and nothing else
abbrev pub handed_file : List ℕ → Option (List ℕ)
handed_file word =
    if starts_with nat_eq word (codes "-Wp,-MD,") then unless_comma (drop 8 word)
    else (if starts_with nat_eq word (codes "-Wp,-MMD,") then unless_comma (drop 9 word) else None)

-- the file of dependencies that a word names which is joined to its flag
abbrev pub joined_file : List ℕ → Option (List ℕ)
joined_file word = if starts_with nat_eq word (codes "-MF") then Some (drop 3 word) else None

-- the file that is named last, in a command: those joined to their flag stand among the common words, after the words about dependencies
abbrev pub named_file : (dependency common : List (List ℕ)) → List (List ℕ)
named_file dependency common = option_to_list (last_or None (behind (codes "-MF") false dependency ++ filter_map joined_file common))

-- none is written of a language that is not preprocessed
abbrev pub written_file : Parsed → List (List ℕ)
written_file p = if needs_c_preprocessing p.language then named_file p.dependency_args p.common_args else []

-- the files of dependencies
abbrev pub dependency_files : Parsed → List (List ℕ)
dependency_files p = written_file p ++ filter_map handed_file p.preprocessor_args ++ filter_map handed_file p.common_args ++ option_to_list p.depfile

abbrev pub made_as : List ℕ → List ℕ → Artifact
made_as name path = artifact name path false

-- the outputs of this name, unless the record has it
abbrev pub unless_had : List ℕ → List (List ℕ) → Parsed → List Artifact
unless_had name paths p = if is_some (path_at p.outputs name) then [] else map (made_as name) paths

-- the files of diagnostics
abbrev pub diagnostics_files : Parsed → List (List ℕ)
diagnostics_files p = behind (codes "--serialize-diagnostics") false p.preprocessor_args ++ behind (codes "--serialize-diagnostics") false p.common_args

-- the files that come out beside the outputs of the record
abbrev pub made_beside : Parsed → List Artifact
made_beside p = unless_had (codes "d") (take 1 (dependency_files p)) p ++ unless_had (codes "dia") (diagnostics_files p) p

-- all files that come out
abbrev pub made : Parsed → List Artifact
made p = p.outputs ++ made_beside p
