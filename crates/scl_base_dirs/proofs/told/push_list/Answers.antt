use Rattle.scl_values.specs.Words.{words_of}
use Rattle.scl_base_dirs.proofs.ToldLemmas.{list_step, list_end}
use Rattle.scl_base_dirs.proofs.told.push_list.Goals as goal

pub loop-path-preserved : goal.loop-path-preserved
loop-path-preserved c =
    list_step (words_of c.args.dirs.now) c.args.separator c.loop-path.rest.now c.in-Some.path.now c.in-Some.behind.now c.loop-path.told.items c.push_path.new.told.items c.push.new.self.items _
    c.in-Some.ensures c.in_ok-push_path.ensures c.in_ok-push.ensures.items c.loop-path.invariant

pub returns : goal.returns
returns c =
    list_end (words_of c.args.dirs.now) c.args.separator c.loop-path.rest.now c.loop-path.told.items c.push_path-2.new.told.items _ c.in_default.ensures c.in_ok-push_path-2.ensures c.loop-path.invariant
