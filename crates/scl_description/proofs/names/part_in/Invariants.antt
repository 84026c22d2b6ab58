use Rattle.std.proofs.Common.{◌≡◌, drop}
use Rattle.scl_description.specs.Names.{part_in, rows_of}
use Rattle.scl_description.proofs.names.part_in.Given as goal

abbrev pub invariant-loop-text : goal.invariant-loop-text
invariant-loop-text l = part_in (rows_of (drop l.text-index l.rows)) l.name ≡ part_in (rows_of l.rows) l.name
