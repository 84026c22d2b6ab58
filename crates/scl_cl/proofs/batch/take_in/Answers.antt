use Rattle.std.proofs.Common.{rules, [], sym, subst, refl}
use Rattle.scl_cl.specs.BatchesGiven.{Steps}
use Rattle.scl_cl.proofs.BatchLaws.{told-takes, steps-on, appends-none}
use Rattle.scl_cl.proofs.batch.take_in.Goals as goal

pub returns-then-eq : goal.returns-then-eq
returns-then-eq g c =
    told-takes (g.S.Service.answers c.args.service.now) c.args.text.now c.args.request.now.items c.replace.result.items c.replace.new.dest.items _ _ _ _ _ (search rules) (search rules) (search rules)
    c.answer_one.ensures

pub returns : goal.returns
returns g c = (
  [],
  subst (λ now. Steps (g.S.Service.answers c.args.service.now) c.args.text.now c.args.request.now.items now []) (sym c.in_ok-push_line.ensures)
      (steps-on (g.S.Service.answers c.args.service.now) c.args.text.now c.args.request.now.items (search rules)),
  appends-none _,
  refl,
)
