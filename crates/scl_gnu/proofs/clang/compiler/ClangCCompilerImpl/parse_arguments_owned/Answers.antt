use Rattle.scl_text.proofs.CompilerLaws.{parsed-kept}
use Rattle.scl_text.specs.Commands.{command_by}
use Rattle.scl_text.specs.Languages.{clang_text}
use Rattle.scl_gnu.specs.Building.{command_words}
use Rattle.scl_gnu.specs.ReadAgain.{ClangReadsAgain}
use Rattle.scl_gnu.proofs.ClangAgainLaws.{command_kept}
use Rattle.scl_gnu.proofs.clang.compiler.ClangCCompilerImpl.parse_arguments_owned.Goals as goal

pub returns-clause-outcome : goal.returns-clause-outcome
returns-clause-outcome c = rw c.in_ok-trees.ensures.tables at c.parse_arguments_owned.ensures

pub returns-clause-read_again : goal.returns-clause-read_again
returns-clause-read_again c =
    parsed-kept (command_by (λ p. command_words (clang_text p.language) p)) (ClangReadsAgain c.args.cwd.now c.args.view.now _) _
    (command_kept c.args.self.now.clangplusplus c.args.cwd.now c.args.view.now _) _ (returns-clause-outcome c)
