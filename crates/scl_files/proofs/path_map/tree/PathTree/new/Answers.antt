use Rattle.scl_files.proofs.PathTreeLemmas.{is_tree-new}
use Rattle.scl_files.proofs.path_map.tree.PathTree.new.Goals as goal

pub returns : goal.returns
returns c = is_tree-new (record { alloc = c.args.alloc; numbers = c.new.result; children = c.new-2.result }) c.new.ensures.empty c.new-2.ensures.empty
