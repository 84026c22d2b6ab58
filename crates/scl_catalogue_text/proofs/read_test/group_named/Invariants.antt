use Rattle.std.proofs.Common.{◌≡◌, map, drop}
use Rattle.scl_catalogue.specs.Views.{group_of}
use Rattle.scl_catalogue_text.specs.Reading.{group_named}
use Rattle.scl_catalogue_text.proofs.read_test.group_named.Given as goal

abbrev pub invariant-loop-group : goal.invariant-loop-group
invariant-loop-group l = group_named (map group_of (drop l.group-index l.groups)) l.name ≡ group_named (map group_of l.groups) l.name
