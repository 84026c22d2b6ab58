use Rattle.scl_text.proofs.CompilerLaws.{built-kept}
use Rattle.scl_msvc.specs.Building.{command}
use Rattle.scl_msvc.specs.Promises.{MsvcReadsAgain}
use Rattle.scl_msvc.specs.Environment.{surrounded_reading}
use Rattle.scl_msvc.proofs.PromiseLaws.{command_kept}
use Rattle.scl_msvc.proofs.msvc.compiler.MsvcCCompilerImpl.generate_compile_commands_owned.Goals as goal

pub returns-clause-read_again : goal.returns-clause-read_again
returns-clause-read_again c =
    let is_clang = c.args.self.now.is_clang in
    built-kept command (λ words directory pairs view. MsvcReadsAgain is_clang directory pairs view words)
    (λ words directory pairs view. surrounded_reading is_clang directory pairs view words)
    (λ words directory pairs view. command_kept is_clang directory pairs view words) _ _ _ _ _ _ c.generate_compile_commands_owned.ensures.command
