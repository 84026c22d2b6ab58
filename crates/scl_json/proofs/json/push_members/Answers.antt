use Rattle.std.proofs.Common.{rules}
use Rattle.scl_text.specs.Runs.{runs_of}
use Rattle.scl_json.specs.Objects.{entry_at, member_of}
use Rattle.scl_json.proofs.EachLaws.{first-joined}
use Rattle.scl_json.proofs.json.push_members.Goals as goal

pub returns-in_ok-push_members_behind : goal.returns-in_ok-push_members_behind
returns-in_ok-push_members_behind c =
    first-joined (entry_at (runs_of c.args.rows.now)) member_of c.args.names.now c.args.json.now.items _ _ c.in-Some.first.now c.in-Some.others.now c.deref.result.now
    (search rules) c.deref.ensures.value c.in_ok-push_member_at.ensures c.in_ok-push_members_behind.ensures
