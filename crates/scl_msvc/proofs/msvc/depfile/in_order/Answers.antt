use Rattle.std.proofs.Common.{arith}
use Rattle.std.proofs.lemmas.Grind.{common_steps}
use Rattle.scl_msvc.proofs.DepfileLemmas.{sorted-words}
use Rattle.scl_msvc.proofs.msvc.depfile.in_order.Goals as goal

pub returns-clause-order : goal.returns-clause-order
returns-clause-order c = let sorted = sorted-words c.args.words.keys c.into_iter.ensures.into_iter_gives.4 in grind (arith, common_steps, sorted)
