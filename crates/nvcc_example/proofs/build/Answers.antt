use Rattle.nvcc_example.proofs.NvccLaws.{build-kept}
use Rattle.nvcc_example.proofs.build.Goals as goal

pub returns : goal.returns
returns c = build-kept _ _ _ _ _ _ c.generate_compile_commands.ensures.command
