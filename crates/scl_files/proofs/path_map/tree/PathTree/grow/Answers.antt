use Rattle.std.proofs.Common.{◌≡◌, ◌+◌, ◌≤◌, None, refl, sym}
use Rattle.std.specs.BTreeMap.{get, btree_map_len}
use Rattle.scl_files.specs.PathTrees.{step_cmp}
use Rattle.scl_files.proofs.PathTreeLemmas.{is_tree-unchanged, is_tree-child, keeps-child, keeps-all, child-within}
use Rattle.scl_files.proofs.path_map.tree.PathTree.grow.Goals as goal

pub returns-in-Some-clause-within : goal.returns-in-Some-clause-within
returns-in-Some-clause-within c = child-within c.number.new.self c.args.node c.in_ok-number.number c.in-Some.child.now c.number.ensures.tree (sym c.in-Some.ensures.value)

pub returns-in_err-insert-clause-tree : goal.returns-in_err-insert-clause-tree
returns-in_err-insert-clause-tree c = is_tree-unchanged c.number.new.self c.number.new.self.numbers c.insert.new.self refl c.in_err-insert.ensures.err c.number.ensures.tree

pub returns-clause-tree : goal.returns-clause-tree
returns-clause-tree c =
    let absent : get step_cmp c.number.new.self.children (c.args.node, c.in_ok-number.number) ≡ None = sym c.in_default.ensures.value in
    let grown : btree_map_len c.insert.new.self ≡ btree_map_len c.number.new.self.children + 1 = rw (c.in_ok-insert.ensures.old, absent) at c.in_ok-insert.ensures.len in
    let within : c.args.node ≤ btree_map_len c.number.new.self.children = rw c.number.ensures.children (c.requires.1) in
    is_tree-child c.number.new.self c.args.name.now c.args.node c.in_ok-number.number c.insert.new.self (rw c.len-child.ensures.len at c.in_ok-insert.ensures.updates) c.number.ensures.tree c.in_ok-number.ensures.number within grown

pub returns-clause-keeps : goal.returns-clause-keeps
returns-clause-keeps c =
    let absent : get step_cmp c.number.new.self.children (c.args.node, c.in_ok-number.number) ≡ None = sym c.in_default.ensures.value in
    keeps-all c.args.self.now c.number.new.self (record c.number.new.self { children = c.insert.new.self }) c.number.ensures.keeps
    (keeps-child c.number.new.self c.args.name.now c.args.node c.in_ok-number.number c.insert.new.self (rw c.len-child.ensures.len at c.in_ok-insert.ensures.updates) absent)
