use Rattle.std.proofs.Common.{arith}
use Rattle.std.proofs.lemmas.Grind.{common_steps}
use Rattle.scl_args.proofs.FirstLaws.{put-first}
use Rattle.scl_args.proofs.wrapped.WrappedApartWrapper.push_word.Goals as goal

pub returns-in_err-from_slice-2-clause-err : goal.returns-in_err-from_slice-2-clause-err
returns-in_err-from_slice-2-clause-err c = put-first _ _ _ _ 1 (grind (arith, common_steps))

pub returns-in_err-push-2-clause-err : goal.returns-in_err-push-2-clause-err
returns-in_err-push-2-clause-err c = put-first _ _ _ _ 1 (grind (arith, common_steps))
