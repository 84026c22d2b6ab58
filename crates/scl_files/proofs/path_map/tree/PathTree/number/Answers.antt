use Rattle.std.proofs.Common.{◌≡◌, ◌+◌, None, refl, sym}
use Rattle.std.specs.BTreeMap.{btree_map_len}
use Rattle.scl_files.specs.PathTrees.{name_number}
use Rattle.scl_files.proofs.PathTreeLemmas.{is_tree-unchanged, is_tree-name, keeps-name}
use Rattle.scl_files.proofs.path_map.tree.PathTree.number.Goals as goal

pub returns-in_err-insert-clause-tree : goal.returns-in_err-insert-clause-tree
returns-in_err-insert-clause-tree c = is_tree-unchanged c.args.self.now c.insert.new.self c.args.self.now.children c.in_err-insert.ensures.err refl c.requires

pub returns-clause-tree : goal.returns-clause-tree
returns-clause-tree c =
    let absent : name_number c.in_ok-name.name.items c.args.self.now ≡ None = rw c.in_ok-name.ensures.items (sym c.in_default.ensures.value) in
    let grown : btree_map_len c.insert.new.self ≡ btree_map_len c.args.self.now.numbers + 1 = rw (c.in_ok-insert.ensures.old, absent) at c.in_ok-insert.ensures.len in
    is_tree-name c.args.self.now c.in_ok-name.name c.insert.new.self (rw c.len-number.ensures.len at c.in_ok-insert.ensures.updates) c.requires grown

pub returns-clause-keeps : goal.returns-clause-keeps
returns-clause-keeps c =
    let absent : name_number c.in_ok-name.name.items c.args.self.now ≡ None = rw c.in_ok-name.ensures.items (sym c.in_default.ensures.value) in
    keeps-name c.args.self.now c.in_ok-name.name c.insert.new.self (rw c.len-number.ensures.len at c.in_ok-insert.ensures.updates) absent
