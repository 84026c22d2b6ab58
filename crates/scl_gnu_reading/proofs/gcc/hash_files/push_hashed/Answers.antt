use Rattle.std.proofs.Common.{ap, sym, subst, map, arith}
use Rattle.std.proofs.lemmas.Grind.{common_steps}
use Rattle.scl_values.specs.Seen.{seen}
use Rattle.scl_values.specs.Words.{words_of}
use Rattle.scl_args.specs.Wrapped.{HasFirstOf}
use Rattle.scl_args.proofs.FirstLaws.{first-of, if-err, no-fewer}
use Rattle.scl_gnu_reading.specs.Hashes.{hashed_as}
use Rattle.scl_gnu_reading.specs.Recordings.{hash_path}
use Rattle.scl_gnu_reading.proofs.gcc.hash_files.push_hashed.Goals as goal

pub returns-in_err-push_path-clause-err : goal.returns-in_err-push_path-clause-err
returns-in_err-push_path-clause-err g c =
    let see = seen g.T.ArgumentValue.kind_of g.T.IntoArg.word_of in
    let all = map (hash_path c.args.cwd.now c.args.view.now) (hashed_as g.T.NamesHashed.role (map see c.as_slice-option-items.result.now)) in
    let standing = first-of (words_of c.args.paths.now.items) all _ _ c.loop-option.invariant.0 c.loop-option.invariant.1 in
    rw (← c.as_slice-option-items.ensures) (if-err _ (subst (λ ws. HasFirstOf (words_of c.args.paths.now.items) all ws) (sym (ap words_of c.in_err-push_path.ensures.err)) standing))

pub loop-option-preserved : goal.loop-option-preserved
loop-option-preserved g c = (grind (arith, common_steps), no-fewer _ _ _ _ c.loop-option.invariant.1 c.in_ok-push_path.ensures.ok)
