use Rattle.std.proofs.Common.{◌≡◌, map, drop, find}
use Rattle.scl_json.specs.Members.{is_of, table}
use Rattle.scl_json.specs.MembersGiven.{given}
use Rattle.scl_json.proofs.members.member_of.Given as goal

abbrev pub invariant-loop-member : goal.invariant-loop-member
invariant-loop-member l = find (is_of l.row) (map given (drop l.member-index l.all)) ≡ find (is_of l.row) table
