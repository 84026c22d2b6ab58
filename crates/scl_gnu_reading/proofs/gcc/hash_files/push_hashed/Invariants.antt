use Rattle.std.proofs.Common.{◌≡◌, ◌≤◌, ◌++◌, length, map, drop}
use Rattle.scl_values.specs.Seen.{seen}
use Rattle.scl_values.specs.Words.{words_of}
use Rattle.scl_gnu_reading.specs.Hashes.{hashed_as}
use Rattle.scl_gnu_reading.specs.Recordings.{hash_path}
use Rattle.scl_gnu_reading.proofs.gcc.hash_files.push_hashed.Given as goal

abbrev pub invariant-loop-option : goal.invariant-loop-option
invariant-loop-option g l =
    let see = seen g.T.ArgumentValue.kind_of g.T.IntoArg.word_of in
    let named = hashed_as g.T.NamesHashed.role in
    (words_of l.paths.items ++ map (hash_path l.cwd l.view) (named (map see (drop l.option-index l.option-items)))
    ≡ words_of l.initial.paths.items ++ map (hash_path l.cwd l.view) (named (map see l.option-items)))
    × (length (words_of l.initial.paths.items) ≤ length (words_of l.paths.items))
