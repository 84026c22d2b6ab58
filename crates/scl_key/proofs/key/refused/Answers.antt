use Rattle.std.proofs.Common.{cond, sym, ap, ◌∙◌}
use Rattle.scl_key.specs.Keys.{assembler_reading, reading}
use Rattle.scl_key.proofs.key.refused.Goals as goal

pub returns-then-is_assembler : goal.returns-then-is_assembler
returns-then-is_assembler c = ap (λ b. cond b assembler_reading reading) (sym c.if-is_assembler.true ∙ c.is_assembler.ensures)

pub returns-else-is_assembler : goal.returns-else-is_assembler
returns-else-is_assembler c = ap (λ b. cond b assembler_reading reading) (sym c.if-is_assembler.false ∙ c.is_assembler.ensures)
