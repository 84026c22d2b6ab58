use Rattle.std.proofs.Common.{rules, [], ◌∷◌}
use Rattle.scl_text.proofs.CompilerLaws.{built-kept}
use Rattle.scl_text.specs.Commands.{command_by}
use Rattle.scl_text.specs.Languages.{gcc_text}
use Rattle.scl_text.specs.declared.records.CCompilerKind.TheVariants as compilers
use Rattle.scl_gnu.specs.Building.{command_words}
use Rattle.scl_gnu_reading.specs.GccRows.{gcc_rows}
use Rattle.scl_gnu.specs.ReadAgain.{GccReadsAgain}
use Rattle.scl_gnu_reading.specs.Readings.{reading}
use Rattle.scl_gnu.proofs.GccAgainLaws.{command_kept}
use Rattle.scl_gnu.proofs.gcc.compiler.GccCCompilerImpl.generate_compile_commands_owned.Goals as goal

pub returns-clause-command : goal.returns-clause-command
returns-clause-command c = search rules

pub returns-clause-read_again : goal.returns-clause-read_again
returns-clause-read_again c =
    built-kept (command_by (λ p. command_words (gcc_text p.language) p)) (λ words directory pairs view. GccReadsAgain directory view words)
    (λ words directory pairs view. reading compilers.Gcc c.args.self.now.gplusplus (gcc_rows ∷ []) directory view words)
    (λ words directory pairs view. command_kept c.args.self.now.gplusplus directory view words) _ _ _ _ _ _ (returns-clause-command c)
