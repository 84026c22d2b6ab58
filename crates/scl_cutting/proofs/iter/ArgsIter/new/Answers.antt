use Rattle.scl_values.specs.Tables.{owner_in}
use Rattle.scl_cutting.specs.Iter.{cutter}
use Rattle.scl_cutting.proofs.IterLemmas.{run_shown}
use Rattle.scl_cutting.proofs.iter.ArgsIter.new.Goals as goal

pub returns-clause-runs : goal.returns-clause-runs
returns-clause-runs g c items d =
    run_shown g.I.Iterator.next_gives g.T.ArgumentValue.make_gives (λ s. cutter s.arguments (owner_in (g.S.SearchableArgInfo.tables s.arg_info)) s.double_dashes s.only_raw s.ended) _ items d
