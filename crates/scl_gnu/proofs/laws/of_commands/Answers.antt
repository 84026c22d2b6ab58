use Rattle.scl_gnu.proofs.ClangAgainLaws as clang
use Rattle.scl_gnu.proofs.GccAgainLaws as gcc
use Rattle.scl_gnu.proofs.laws.of_commands.Goals as goal

pub returns-clause-gcc_commands_are_faithful : goal.returns-clause-gcc_commands_are_faithful
returns-clause-gcc_commands_are_faithful c = gcc.command_kept

pub returns-clause-clang_commands_are_faithful : goal.returns-clause-clang_commands_are_faithful
returns-clause-clang_commands_are_faithful c = clang.command_kept
