-- A tree of names.
use Rattle.std.proofs.Common.{rules, ◌≡◌, ℕ, ◌<◌, ◌≤◌, ◌+◌, ◌==◌, true, false, cond, Bool, List, [], ◌∷◌, ◌++◌, append_assoc, Option, None, Some, refl, eq-eqb, sym, ap, ◌∙◌, arith}
use Rattle.std.proofs.lemmas.Bool.{eqb-true, false≢true}
use Rattle.std.proofs.lemmas.Cmp.{eq_by_cmp_equiv, nat_list_cmp_total}
use Rattle.std.proofs.lemmas.Map.Lookups.{exact_unsigned, exact_pairs}
use Rattle.std.proofs.lemmas.Map.Text.{is_eq-slice_cmp}
use Rattle.std.specs.Prelude.{Vec}
use Rattle.std.specs.Option.{option_and_then}
use Rattle.std.specs.Ordering.{nat_cmp, is_eq, eq_by_cmp}
use Rattle.std.specs.Str.{bytes_eq}
use Rattle.std.specs.Cmp.Lexicographic.{slice_cmp}
use Rattle.std.specs.Map.{lookup, IsKeyTest, AreApart, KeepsOthers}
use Rattle.std.specs.BTreeMap.{BTreeMap, get, is_at, btree_map_len, IsEmpty, IsUnchanged, UpdatesBy}
use Rattle.std.specs.declared.alloc.Global.{Global}
use Rattle.std.specs.declared.cmp.Ordering.{Ordering}
use Rattle.std.specs.declared.cmp.Ordering.TheVariants.{Less, Equal, Greater}
use lib.Pointwise.{bytes_decides}
use Rattle.scl_files.specs.Paths.{same_path}
use Rattle.scl_files.specs.PathTrees.{name_number, step_cmp, child, led, parts_of, node_at, Keeps, IsTree}
use Rattle.scl_files.specs.declared.path_map.tree.PathTree.{PathTree}
use Rattle.scl_files.proofs.SamePath.{parts-same, same_path-parts}

-- ---- where names lead

pub led_nowhere : (tree : PathTree) (names : List (List ℕ)) → led tree None names ≡ None
led_nowhere tree [] = refl
led_nowhere tree (name ∷ names) = led_nowhere tree names

pub led-kept : (old new : PathTree) (names : List (List ℕ)) (at : Option ℕ) (to : ℕ) → Keeps old new → led old at names ≡ Some to → led new at names ≡ Some to
led-kept old new [] at to keeps e = e
led-kept old new (name ∷ names) None to keeps e = absurd (let none = led_nowhere old names in cc)
led-kept old new (name ∷ names) (Some node) to keeps e =
    elim (child old name node) as (λ o. child old name node ≡ o → led old o names ≡ Some to → led new (child new name node) names ≡ Some to) [
      | None ↦ λ _ g. absurd (let none = led_nowhere old names in cc)
      | Some next ↦ λ here g. rw (keeps name node next here) (led-kept old new names (Some next) to keeps g)
    ] refl e

pub node-kept : (old new : PathTree) (path : List ℕ) (node : ℕ) → Keeps old new → node_at path old ≡ Some node → node_at path new ≡ Some node
node-kept old new path node keeps e = led-kept old new (parts_of path) (Some 0) node keeps e

-- a name leads from each node of the old tree to the same node
pub led_on : (old new : PathTree) (name : List ℕ) (node to : ℕ) (names : List (List ℕ)) → child old name node ≡ Some to → Keeps old new → led new (Some node) (name ∷ names) ≡ led new (Some to) names
led_on old new name node to names e keeps = ap (λ at. led new at names) (keeps name node to e)

pub keeps-all : (a b c : PathTree) → Keeps a b → Keeps b c → Keeps a c
keeps-all a b c f g name node to e = g name node to (f name node to e)

-- ---- one list of parts leads to a node

module _ (tree : PathTree) (is : IsTree tree) where
  child-parts : (name : List ℕ) (node to : ℕ) → child tree name node ≡ Some to → is.parts to ≡ is.parts node ++ name ∷ []
  child-parts name node to e =
      elim (name_number name tree) as (λ o. name_number name tree ≡ o → option_and_then (λ number. get step_cmp tree.children (node, number)) o ≡ Some to → is.parts to ≡ is.parts node ++ name ∷ []) [
        | None ↦ λ _ g. absurd (cc)
        | Some number ↦ λ here g. (is.parted node number to g).0 ∙ rw ((is.named name number here).0) refl
      ] refl e

  led-parts : (names : List (List ℕ)) (node to : ℕ) → led tree (Some node) names ≡ Some to → is.parts to ≡ is.parts node ++ names
  led-parts [] node to e = let same : node ≡ to = cc in rw same (search rules)
  led-parts (name ∷ names) node to e =
      elim (child tree name node) as (λ o. child tree name node ≡ o → led tree o names ≡ Some to → is.parts to ≡ is.parts node ++ name ∷ names) [
        | None ↦ λ _ g. absurd (let none = led_nowhere tree names in cc)
        | Some next ↦ λ here g. led-parts names next to g ∙ rw (child-parts name node next here) (append_assoc (is.parts node) (name ∷ []) names)
      ] refl e

  node-parts : (path : List ℕ) (node : ℕ) → node_at path tree ≡ Some node → is.parts node ≡ parts_of path
  node-parts path node e = led-parts (parts_of path) 0 node e ∙ rw is.root refl

-- paths with the same node are the same
pub same-by-node : (tree : PathTree) (a b : List ℕ) (m n : ℕ) → IsTree tree → node_at a tree ≡ Some m → node_at b tree ≡ Some n → same_path a b ≡ (m == n)
same-by-node tree a b m n is leads also =
    elim (m == n) as (λ r. (m == n) ≡ r → same_path a b ≡ r) [
      | true ↦ λ e. let same : m ≡ n = eqb-true m n e in
          same_path-parts a b (sym (node-parts tree is a m leads) ∙ ap (λ k. is.parts k) same ∙ node-parts tree is b n also)
      | false ↦ λ e. elim (same_path a b) as (λ r. same_path a b ≡ r → r ≡ false) [
        | true ↦ λ h. let parts = parts-same a b h in let both : Some m ≡ Some n = sym leads ∙ rw parts also in let same : m ≡ n = cc in absurd (false≢true (sym e ∙ eq-eqb m n same))
        | false ↦ λ _. refl
      ] refl
    ] refl

-- paths are not the same if one has a node and the other has none
pub apart-by-node : (tree : PathTree) (a b : List ℕ) (m : ℕ) → node_at a tree ≡ Some m → node_at b tree ≡ None → same_path a b ≡ false
apart-by-node tree a b m leads none =
    elim (same_path a b) as (λ r. same_path a b ≡ r → r ≡ false) [
      | true ↦ λ h. let parts = parts-same a b h in let both : Some m ≡ None = sym leads ∙ rw parts none in absurd (cc)
      | false ↦ λ _. refl
    ] refl

-- ---- no nodes

pub is_tree-new : (tree : PathTree) → IsEmpty tree.numbers → IsEmpty tree.children → IsTree tree
is_tree-new tree no_numbers no_children =
    let named : (x : List ℕ) (number : ℕ) → name_number x tree ≡ Some number → ([] ≡ x) × (number < btree_map_len tree.numbers)
    = λ x number e. absurd (let none = rw no_numbers at e in cc) in
    let parted : (node number to : ℕ) → get step_cmp tree.children (node, number) ≡ Some to
    → ([] ≡ [] ++ [] ∷ []) × (node ≤ btree_map_len tree.children) × (number < btree_map_len tree.numbers) × (to ≤ btree_map_len tree.children)
    = λ node number to e. absurd (let none = rw no_children at e in cc) in
    record { name = λ _. []; parts = λ _. []; root = refl; named = named; parted = parted }

-- ---- the same entries

pub is_tree-unchanged : (tree : PathTree) (numbers : BTreeMap (Vec ℕ Global) ℕ) (children : BTreeMap (ℕ × ℕ) ℕ) → IsUnchanged tree.numbers numbers → IsUnchanged tree.children children → IsTree tree
    → IsTree (record { alloc = tree.alloc; numbers = numbers; children = children })
is_tree-unchanged tree numbers children e f is =
    let named : (x : List ℕ) (number : ℕ) → name_number x (record { alloc = tree.alloc; numbers = numbers; children = children }) ≡ Some number → (is.name number ≡ x) × (number < btree_map_len numbers)
    = λ x number g. rw e (is.named x number (rw e at g)) in
    let parted : (node number to : ℕ) → get step_cmp children (node, number) ≡ Some to
    → (is.parts to ≡ is.parts node ++ is.name number ∷ []) × (node ≤ btree_map_len children) × (number < btree_map_len numbers) × (to ≤ btree_map_len children)
    = λ node number to g. rw (e, f) (is.parted node number to (rw f at g)) in
    record { name = is.name; parts = is.parts; root = is.root; named = named; parted = parted }

pub child-within : (tree : PathTree) (node number to : ℕ) → IsTree tree → get step_cmp tree.children (node, number) ≡ Some to → to ≤ btree_map_len tree.children
child-within tree node number to is e = (is.parted node number to e).3

-- ---- values below a number

below : {X : Type 0} (f : ℕ → X) (v : X) (k n : ℕ) → k < n → cond (k == n) v (f k) ≡ f k
below f v k n h = elim (k == n) as (λ b. (k == n) ≡ b → cond b v (f k) ≡ f k) [ true ↦ λ e. let same = eqb-true k n e in absurd (omega arith) | false ↦ λ _. refl ] refl

here : {X : Type 0} (v w : X) (n : ℕ) → cond (n == n) v w ≡ v
here v w n = rw (eq-eqb n n refl) refl

-- ---- a name more

others : {K X : Type 0} (eq : K → K → Bool) (test : K → Bool) (old new : List (K × X)) → KeepsOthers eq test old new → (other : K → Bool) → IsKeyTest eq other → AreApart test other → lookup other new ≡ lookup other old
unfolding KeepsOthers
others eq test old new h = h

abbrev pub key_cmp : Vec ℕ Global → Vec ℕ Global → Ordering
key_cmp a b = slice_cmp nat_cmp a.items b.items

apart_in_order : (a b key : List ℕ) → bytes_eq a b ≡ false → is_eq (slice_cmp nat_cmp a key) ≡ true → is_eq (slice_cmp nat_cmp b key) ≡ false
apart_in_order a b key apart at =
    elim (is_eq (slice_cmp nat_cmp b key)) as (λ r. is_eq (slice_cmp nat_cmp b key) ≡ r → r ≡ false) [
      | true ↦ λ e.
          let first : a ≡ key = (bytes_decides a key).0 (sym (is_eq-slice_cmp a key) ∙ at) in
          let second : b ≡ key = (bytes_decides b key).0 (sym (is_eq-slice_cmp b key) ∙ e) in
          absurd (false≢true (sym apart ∙ (bytes_decides a b).1 (first ∙ sym second)))
      | false ↦ λ _. refl
    ] refl

module _ (tree : PathTree) (key : Vec ℕ Global) (numbers : BTreeMap (Vec ℕ Global) ℕ) (updates : UpdatesBy key_cmp (key_cmp key) tree.numbers numbers (Some (btree_map_len tree.numbers))) where
  abbrev pub with_name : PathTree
  with_name = record tree { numbers = numbers }

  pub number-here : name_number key.items with_name ≡ Some (btree_map_len tree.numbers)
  number-here = updates.1

  number-other : (x : List ℕ) → bytes_eq key.items x ≡ false → name_number x with_name ≡ name_number x tree
  number-other x e =
      others (eq_by_cmp key_cmp) (is_at (key_cmp key)) tree.numbers.entries numbers.entries updates.3 (λ k. is_eq (slice_cmp nat_cmp x k.items))
      (λ a b. (eq_by_cmp_equiv nat_list_cmp_total).congr x a.items b.items) (λ k. apart_in_order key.items x k.items e)

  pub keeps-name : name_number key.items tree ≡ None → Keeps tree with_name
  keeps-name absent name node to e =
      elim (bytes_eq key.items name) as (λ b. bytes_eq key.items name ≡ b → child with_name name node ≡ Some to) [
        | true ↦ λ same. let it = (bytes_decides key.items name).0 same in let none : name_number name tree ≡ None = rw (← it) absent in absurd (let nowhere = rw none at e in cc)
        | false ↦ λ apart. rw (number-other name apart) e
      ] refl

  pub is_tree-name : IsTree tree → btree_map_len numbers ≡ btree_map_len tree.numbers + 1 → IsTree with_name
  is_tree-name is grown =
      let name : ℕ → List ℕ = λ number. cond (number == btree_map_len tree.numbers) key.items (is.name number) in
      let named : (x : List ℕ) (number : ℕ) → name_number x with_name ≡ Some number → (name number ≡ x) × (number < btree_map_len numbers)
      = λ x number e. elim (bytes_eq key.items x) as (λ b. bytes_eq key.items x ≡ b → (name number ≡ x) × (number < btree_map_len numbers)) [
        | true ↦ λ same.
            let it : key.items ≡ x = (bytes_decides key.items x).0 same in
            let found : name_number x with_name ≡ Some (btree_map_len tree.numbers) = rw (← it) number-here in
            let last : number ≡ btree_map_len tree.numbers = cc in
            (rw last (here key.items (is.name (btree_map_len tree.numbers)) (btree_map_len tree.numbers) ∙ it), omega (arith, last, grown))
        | false ↦ λ apart.
            let old = is.named x number (sym (number-other x apart) ∙ e) in
            (below is.name key.items number (btree_map_len tree.numbers) old.1 ∙ old.0, omega (arith, old.1, grown))
      ] refl in
      let parted : (node number to : ℕ) → get step_cmp tree.children (node, number) ≡ Some to
      → (is.parts to ≡ is.parts node ++ name number ∷ []) × (node ≤ btree_map_len tree.children) × (number < btree_map_len numbers) × (to ≤ btree_map_len tree.children)
      = λ node number to e.
      let old = is.parted node number to e in
      (old.0 ∙ rw (below is.name key.items number (btree_map_len tree.numbers) old.2) refl, old.1, omega (arith, old.2, grown), old.3) in
      record { name = name; parts = is.parts; root = is.root; named = named; parted = parted }

-- ---- one node more

tied : (o : Ordering) → is_eq o ≡ true → o ≡ Equal
tied Less e = absurd (false≢true e)
tied Equal e = refl
tied Greater e = absurd (false≢true e)

one_step : (a b : ℕ × ℕ) → is_at (step_cmp a) b ≡ true → a ≡ b
one_step a b e = exact_pairs nat_cmp nat_cmp exact_unsigned exact_unsigned a b (tied (step_cmp a b) e)

module _ (tree : PathTree) (name : List ℕ) (node number : ℕ) (children : BTreeMap (ℕ × ℕ) ℕ) (updates : UpdatesBy step_cmp (step_cmp (node, number)) tree.children children (Some (btree_map_len tree.children + 1))) where
  abbrev pub with_child : PathTree
  with_child = record tree { children = children }

  pub child-here : name_number name tree ≡ Some number → child with_child name node ≡ Some (btree_map_len tree.children + 1)
  child-here named = rw named updates.1

  pub keeps-child : get step_cmp tree.children (node, number) ≡ None → Keeps tree with_child
  keeps-child absent x from to e =
      elim (name_number x tree) as (λ o. option_and_then (λ k. get step_cmp tree.children (from, k)) o ≡ Some to → option_and_then (λ k. get step_cmp children (from, k)) o ≡ Some to) [
        | None ↦ λ g. absurd (cc)
        | Some k ↦ λ g. updates.0 (from, k) ∙ elim (is_at (step_cmp (node, number)) (from, k)) as (λ b. is_at (step_cmp (node, number)) (from, k) ≡ b
            → cond b (Some (btree_map_len tree.children + 1)) (get step_cmp tree.children (from, k)) ≡ Some to) [
              | true ↦ λ h. let same = one_step (node, number) (from, k) h in let none = rw same at absent in absurd (cc)
              | false ↦ λ _. g
            ] refl
      ] e

  pub is_tree-child : (is : IsTree tree) → name_number name tree ≡ Some number → node ≤ btree_map_len tree.children → btree_map_len children ≡ btree_map_len tree.children + 1 → IsTree with_child
  is_tree-child is known within grown =
      let last = btree_map_len tree.children + 1 in
      let made = is.parts node ++ is.name number ∷ [] in
      let parts : ℕ → List (List ℕ) = λ k. cond (k == last) made (is.parts k) in
      let old_parts : (k : ℕ) → k ≤ btree_map_len tree.children → parts k ≡ is.parts k = λ k h. below is.parts made k last (omega (arith, h)) in
      let parted : (from k to : ℕ) → get step_cmp children (from, k) ≡ Some to
      → (parts to ≡ parts from ++ is.name k ∷ []) × (from ≤ btree_map_len children) × (k < btree_map_len tree.numbers) × (to ≤ btree_map_len children)
      = λ from k to e. elim (is_at (step_cmp (node, number)) (from, k)) as (λ b. is_at (step_cmp (node, number)) (from, k) ≡ b → cond b (Some last) (get step_cmp tree.children (from, k)) ≡ Some to
      → (parts to ≡ parts from ++ is.name k ∷ []) × (from ≤ btree_map_len children) × (k < btree_map_len tree.numbers) × (to ≤ btree_map_len children)) [
        | true ↦ λ h g.
            let same = one_step (node, number) (from, k) h in
            let from_it : node ≡ from = ap (λ p. p.0) same in
            let k_it : number ≡ k = ap (λ p. p.1) same in
            let to_it : last ≡ to = cc in
            (rw (← to_it, ← from_it, ← k_it, old_parts node within) (here made (is.parts last) last), omega (arith, within, grown, from_it), rw (← k_it) ((is.named name number known).1), omega (arith, grown, to_it))
        | false ↦ λ h g.
            let old = is.parted from k to g in
            (old_parts to old.3 ∙ old.0 ∙ rw (old_parts from old.1) refl, omega (arith, old.1, grown), old.2, omega (arith, old.3, grown))
      ] refl (sym (updates.0 (from, k)) ∙ e) in
      record { name = is.name; parts = parts; root = old_parts 0 (omega arith) ∙ is.root; named = is.named; parted = parted }
