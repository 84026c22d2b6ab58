-- The code's table, as the definitions have it.
use Rattle.std.specs.Prelude.{map}
use Rattle.scl_json.specs.Members.{Line, line}
use Rattle.scl_json.specs.declared.members.Member.{Member}

abbrev pub given : Member → Line
given member = line member.row.now member.name.now member.form (map (λ field. field.now) member.fields.now)
