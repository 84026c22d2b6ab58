use Rattle.std.proofs.Common.{take}
use Rattle.scl_description.specs.Rows.{entry_rows}
use Rattle.scl_description.specs.Takers.{Adds}
use Rattle.scl_describe.specs.OptionLines.{options_given}
use Rattle.scl_describe.proofs.option_lines.tell_options.Given as goal

abbrev pub invariant-loop-option : goal.invariant-loop-option
invariant-loop-option g l = Adds g.R.TakesRows.has l.initial.rows l.rows (entry_rows (options_given (take l.option-index l.options)))
