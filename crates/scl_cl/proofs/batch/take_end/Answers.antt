use Rattle.std.proofs.Common.{arith, ◌≡◌, [], refl}
use Rattle.std.proofs.lemmas.Grind.{common_steps}
use Rattle.scl_cl.proofs.BatchLaws.{told-ends, ends-none, appends-none}
use Rattle.scl_cl.proofs.batch.take_end.Goals as goal

pub returns-then-is_empty : goal.returns-then-is_empty
returns-then-is_empty g c =
    let empty : c.args.request.items ≡ [] = grind (arith, common_steps) in
    ([], ends-none (g.S.Service.answers c.args.service.now) c.args.request.items empty, appends-none _, refl)

pub returns : goal.returns
returns g c = told-ends (g.S.Service.answers c.args.service.now) c.args.request.items _ _ _ _ _ (λ e. grind (arith, common_steps)) c.answer_one.ensures
