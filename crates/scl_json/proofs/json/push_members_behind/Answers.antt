use Rattle.scl_text.specs.Runs.{runs_of}
use Rattle.scl_json.specs.Objects.{entry_at, member_of}
use Rattle.scl_json.proofs.EachLaws.{behind-more}
use Rattle.scl_json.proofs.json.push_members_behind.Goals as goal

pub loop-name-preserved : goal.loop-name-preserved
loop-name-preserved c =
    behind-more (entry_at (runs_of c.args.rows.now)) member_of c.args.names.now c.args.json.now.items c.loop-name.json.items _ _ c.loop-name.name-index c.name-item.result c.deref.result.now
    c.loop-name-test.true c.name-item.is c.deref.ensures.value c.in_ok-push.ensures.items c.in_ok-push_member_at.ensures c.loop-name.invariant
