use Rattle.nvcc_example.proofs.read.Goals as goal

pub returns : goal.returns
returns c = rw c.in_ok-tables.ensures.rows at c.parse_arguments.ensures
