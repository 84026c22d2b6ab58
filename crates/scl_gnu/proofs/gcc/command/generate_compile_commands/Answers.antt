use Rattle.std.proofs.Common.{IfOk, subst}
use Rattle.std.specs.Option.{option_map}
use Rattle.std.specs.declared.option.Option.TheVariants.{the_data}
use Rattle.scl_text.specs.Commands.{pairs_of}
use Rattle.scl_text.specs.Compilers.{IsBuiltCommand}
use Rattle.scl_text.specs.Records.{Parsed}
use Rattle.scl_text.specs.declared.records.Cacheable.TheVariants as cacheables
use Rattle.scl_gnu.specs.Building.{command}
use Rattle.scl_gnu.specs.contracts.gcc.command.generate_compile_commands.F-Fn as language
use Rattle.scl_gnu.proofs.gcc.command.generate_compile_commands.Goals as goal

pub returns-clause-command : goal.returns-clause-command
returns-clause-command g c =
    subst (λ (q : Parsed). IfOk c.generate_compile_commands_owned.result (λ built. (x : the_data g.row.T.Denot)
    × (language.words g.row.T g.row.F g.F.Fn).post c.args.language_to_arg q.language x
    × IsBuiltCommand built.0 built.1 (command (option_map g.T.AsStr.text x) q) c.args.executable.now (pairs_of c.args.env_vars.now) c.args.cwd.now cacheables.Yes))
    c.in_ok-parsed.ensures.copy c.generate_compile_commands_owned.ensures.command
