use Rattle.scl_text.proofs.CompilerLaws.{parsed-kept}
use Rattle.scl_text.specs.Commands.{pairs_of}
use Rattle.scl_msvc.specs.Building.{command}
use Rattle.scl_msvc.specs.Promises.{MsvcReadsAgain}
use Rattle.scl_msvc.proofs.PromiseLaws.{command_kept}
use Rattle.scl_msvc.proofs.msvc.compiler.MsvcCCompilerImpl.parse_arguments_owned.Goals as goal

pub returns-clause-read_again : goal.returns-clause-read_again
returns-clause-read_again c =
    let is_clang = c.args.self.now.is_clang in
    parsed-kept command (MsvcReadsAgain is_clang c.args.cwd.now (pairs_of c.args.env_vars.now) c.args.view.now _) _
    (command_kept is_clang c.args.cwd.now (pairs_of c.args.env_vars.now) c.args.view.now _) _ c.parse_surrounded.ensures
