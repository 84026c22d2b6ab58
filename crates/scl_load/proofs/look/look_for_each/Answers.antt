use Rattle.std.proofs.Common.{rules}
use Rattle.scl_load.proofs.LookLaws.{paths-more}
use Rattle.scl_load.proofs.look.look_for_each.Goals as goal

pub loop-path-preserved : goal.loop-path-preserved
loop-path-preserved g c =
    let found = rw (c.in-Ok.is, c.deref.ensures.value) at c.in_ok-found.ensures.found in
    paths-more (g.D.Disk.holds c.args.disk.now) c.args.sought c.args.paths.now c.loop-path.path-index c.path-item.result c.args.view.now c.loop-path.view c.look_for.new.view
    c.loop-path.any c.in-Ok.found _ c.loop-path-test.true c.path-item.is (search rules) c.loop-path.invariant found
