-- Nodes that pass the tests lead to the rows.
use Rattle.std.proofs.Common.{◌≡◌, ◌≢◌, ℕ, zero, suc, ◌+◌, ◌-◌, ◌<◌, ◌≤◌, Bool, true, false, cond, nat_lt, ◌==◌, ◌&&◌, List, [], length, map, slice_index, slice_index_or, inl, inr, refl, sym, ap, subst, ◌∙◌, arith}
use Rattle.std.proofs.lemmas.Bool.{and_parts}
use Rattle.std.proofs.lemmas.Bool.Decides.{nat_tests}
use Rattle.std.proofs.lemmas.List.{get_or-map, get_or_default, length-map}
use Rattle.scl_tables.specs.declared.nodes.Node.{Node}
use Rattle.scl_values.specs.Row.{Row}
use Rattle.scl_tables.specs.Trees.{Group, group_of, no_node, RiseIn, IsBelow, AreChildren, IsNode, IsTree, Lies, Leads, Lead}
use Rattle.scl_tables.specs.Checked.{all_from, node_at, goes_on, is_child, follows, have_rows, are_children, owns_row, is_node, is_root, is_tree}

less : (a b : ℕ) → nat_lt a b ≡ true → a < b
less a b h = grind (arith, nat_tests)

equal : (a b : ℕ) → (a == b) ≡ true → a ≡ b
equal a b h = grind (arith, nat_tests)

all_in : (p : ℕ → Bool) (n from k : ℕ) → all_from p n from ≡ true → from ≤ k → k < from + n → p k ≡ true
all_in p zero from k h l u = absurd (omega arith)
all_in p (suc n) from k h l u =
    let ab = and_parts (p from) (all_from p n (suc from)) h in
    elim (from == k) as (λ b. (from == k) ≡ b → p k ≡ true) [
      | true ↦ λ e. let same : from ≡ k = equal from k e in let P : ℕ → Type 0 = λ i. p i ≡ true in subst P same ab.0
      | false ↦ λ e. let apart : from ≢ k = grind (arith, nat_tests) in all_in p n (suc from) k ab.1 (omega (arith, apart)) (omega arith)
    ] refl

-- the node among these that has a row
record Place (nodes : List Node) (low last k : ℕ) : Type 0 where
  at : ℕ
  from : low ≤ at
  to : at ≤ last
  first : (node_at nodes at).first_row ≤ k
  end : k < (node_at nodes at).end_row

module _ (nodes : List Node) where
  locate : (n low last k : ℕ) → low + n ≡ last → ((i : ℕ) → low ≤ i → i < last → (node_at nodes i).end_row ≡ (node_at nodes (suc i)).first_row)
      → (node_at nodes low).first_row ≤ k → k < (node_at nodes last).end_row → Place nodes low last k
  locate zero low last k is next f e =
      let same : low ≡ last = omega (arith, is) in
      let P : ℕ → Type 0 = λ i. (node_at nodes i).first_row ≤ k in
      record { at = last; from = omega (arith, same); to = omega arith; first = subst P same f; end = e }
  locate (suc n) low last k is next f e =
      elim (nat_lt k (node_at nodes low).end_row) as (λ b. nat_lt k (node_at nodes low).end_row ≡ b → Place nodes low last k) [
        | true ↦ λ t. record { at = low; from = omega arith; to = omega (arith, is); first = f; end = less _ _ t }
        | false ↦ λ t.
            let far : (node_at nodes low).end_row ≤ k = grind (arith, nat_tests) in
            let step = next low (omega arith) (omega (arith, is)) in
            let more = locate n (suc low) last k (omega (arith, is)) (λ i p q. next i (omega (arith, p)) q) (omega (arith, far, step)) e in
            record { at = more.at; from = (let l = more.from in omega (arith, l)); to = more.to; first = more.first; end = more.end }
      ] refl

  bytes_rise : (low last : ℕ) → ((i : ℕ) → low ≤ i → i < last → (node_at nodes i).byte < (node_at nodes (suc i)).byte)
      → (i j : ℕ) → low ≤ i → i < j → j ≤ last → (node_at nodes i).byte < (node_at nodes j).byte
  bytes_rise low last next i zero p q r = absurd (omega arith)
  bytes_rise low last next i (suc j) p q r =
      let step = next j (omega arith) (omega arith) in
      elim (i == j) as (λ b. (i == j) ≡ b → (node_at nodes i).byte < (node_at nodes (suc j)).byte) [
        | true ↦ λ e. let same : i ≡ j = equal i j e in let P : ℕ → Type 0 = λ m. (node_at nodes m).byte < (node_at nodes (suc j)).byte in subst P (sym same) step
        | false ↦ λ e. let apart : i ≢ j = grind (arith, nat_tests) in let before = bytes_rise low last next i j p (omega (arith, apart)) (omega arith) in omega (arith, before, step)
      ] refl

module _ {K : Type 0} (rows : List (Row K)) (nodes : List Node) where
  abbrev flags : List (List ℕ)
  flags = map (λ row. row.flag) rows

  count : length flags ≡ length rows
  count = let f : Row K → List ℕ = λ row. row.flag in length-map rows f

  flag_is : (k : ℕ) (other : Row K) → k < length rows → slice_index_or flags k [] ≡ (slice_index_or rows k other).flag
  flag_is k other l = let f : Row K → List ℕ = λ row. row.flag in get_or-map f rows k other [] l

  group_is : (i : ℕ) (other : Group) → i < length nodes → slice_index_or (map group_of nodes) i other ≡ group_of (node_at nodes i)
  group_is i other l = get_or-map group_of nodes i no_node other l

  module _ (depth low high from end : ℕ) (inside : end ≤ length rows) (ok : are_children flags nodes depth low high from end ≡ true) where
    bounds : (high + from ≤ low + end) × (high ≤ length nodes)
    bounds =
        let a = and_parts (nat_lt (high + from) (suc (low + end)) && nat_lt high (suc (length nodes))) (have_rows nodes low high from end && all_from (λ i. is_child flags depth (node_at nodes i)) (high - low) low) ok in
        let b = and_parts (nat_lt (high + from) (suc (low + end))) (nat_lt high (suc (length nodes))) a.0 in
        let c = less (high + from) (suc (low + end)) b.0 in
        let d = less high (suc (length nodes)) b.1 in
        (omega (arith, c), omega (arith, d))

    parts : (have_rows nodes low high from end ≡ true) × (all_from (λ i. is_child flags depth (node_at nodes i)) (high - low) low ≡ true)
    parts =
        let a = and_parts (nat_lt (high + from) (suc (low + end)) && nat_lt high (suc (length nodes))) (have_rows nodes low high from end && all_from (λ i. is_child flags depth (node_at nodes i)) (high - low) low) ok in
        and_parts (have_rows nodes low high from end) (all_from (λ i. is_child flags depth (node_at nodes i)) (high - low) low) a.1

    child_ok : (i : ℕ) → low ≤ i → i < high → (depth < (node_at nodes i).depth)
        × (all_from (λ k. goes_on depth (node_at nodes i).byte (slice_index_or flags k [])) ((node_at nodes i).end_row - (node_at nodes i).first_row) (node_at nodes i).first_row ≡ true)
    child_ok i p q =
        let ok = all_in (λ i. is_child flags depth (node_at nodes i)) (high - low) low i parts.1 p (omega (arith, p, q)) in
        let ab = and_parts (nat_lt depth (node_at nodes i).depth) (all_from (λ k. goes_on depth (node_at nodes i).byte (slice_index_or flags k [])) ((node_at nodes i).end_row - (node_at nodes i).first_row) (node_at nodes i).first_row) ok in
        (less depth (node_at nodes i).depth ab.0, ab.1)

    ends : low < high → ((node_at nodes low).first_row ≡ from) × ((node_at nodes (high - 1)).end_row ≡ end)
        × (all_from (λ i. follows (node_at nodes i) (node_at nodes (suc i))) (high - suc low) low ≡ true)
    ends l =
        let test : nat_lt low high ≡ true = grind (arith, nat_tests) in
        let first : Bool = (node_at nodes low).first_row == from in
        let last : Bool = (node_at nodes (high - 1)).end_row == end in
        let follow : Bool = all_from (λ i. follows (node_at nodes i) (node_at nodes (suc i))) (high - suc low) low in
        let P : Bool → Type 0 = λ b. cond b (first && (last && follow)) (from == end) ≡ true in
        let all : (first && (last && follow)) ≡ true = subst P test parts.0 in
        let ab = and_parts first (last && follow) all in
        let cd = and_parts last follow ab.1 in
        (equal (node_at nodes low).first_row from ab.0, equal (node_at nodes (high - 1)).end_row end cd.0, cd.1)

    next_ok : low < high → (i : ℕ) → low ≤ i → i < high - 1 → ((node_at nodes i).byte < (node_at nodes (suc i)).byte) × ((node_at nodes i).end_row ≡ (node_at nodes (suc i)).first_row)
    next_ok l i p q =
        let ok = all_in (λ i. follows (node_at nodes i) (node_at nodes (suc i))) (high - suc low) low i (ends l).2 p (omega (arith, p, q)) in
        let ab = and_parts (nat_lt (node_at nodes i).byte (node_at nodes (suc i)).byte) ((node_at nodes i).end_row == (node_at nodes (suc i)).first_row) ok in
        (less (node_at nodes i).byte (node_at nodes (suc i)).byte ab.0, equal (node_at nodes i).end_row (node_at nodes (suc i)).first_row ab.1)

    some_child : (k : ℕ) → from ≤ k → k < end → low < high
    some_child k p q =
        elim (nat_lt low high) as (λ b. nat_lt low high ≡ b → low < high) [
          | true ↦ λ t. less low high t
          | false ↦ λ t.
              let first : Bool = (node_at nodes low).first_row == from in
              let last : Bool = (node_at nodes (high - 1)).end_row == end in
              let follow : Bool = all_from (λ i. follows (node_at nodes i) (node_at nodes (suc i))) (high - suc low) low in
              let P : Bool → Type 0 = λ b. cond b (first && (last && follow)) (from == end) ≡ true in
              let same = equal from end (subst P t parts.0) in
              absurd (omega (arith, same, p, q))
        ] refl

    below : (k : ℕ) → from ≤ k → k < end → IsBelow rows (map group_of nodes) depth low high k
    below k p q =
        let l = some_child k p q in
        let e = ends l in
        let place = locate nodes (high - 1 - low) low (high - 1) k (omega (arith, l)) (λ i a b. (next_ok l i a b).1) (let first = e.0 in omega (arith, first, p)) (let last = e.1 in omega (arith, last, q)) in
        let at = place.at in
        let low_at : low ≤ at = place.from in
        let at_high : at < high = (let to = place.to in omega (arith, to, l)) in
        let most = bounds.1 in
        let there : at < length nodes = omega (arith, at_high, most) in
        let row_there : k < length rows = omega (arith, q, inside) in
        let first = place.first in
        let last = place.end in
        let ok = all_in (λ k. goes_on depth (node_at nodes at).byte (slice_index_or flags k [])) ((node_at nodes at).end_row - (node_at nodes at).first_row) (node_at nodes at).first_row k (child_ok at low_at at_high).1 first (omega (arith, first, last)) in
        let ab = and_parts (nat_lt depth (length (slice_index_or flags k []))) (slice_index (slice_index_or flags k []) depth == (node_at nodes at).byte) ok in
        let long = less depth (length (slice_index_or flags k [])) ab.0 in
        let byte = equal (slice_index (slice_index_or flags k []) depth) (node_at nodes at).byte ab.1 in
        record {
          child = at;
          from = low_at;
          to = at_high;
          first = λ other. let P : Group → Type 0 = λ group. group.first ≤ k in subst P (sym (group_is at other there)) first;
          end = λ other. let P : Group → Type 0 = λ group. k < group.end in subst P (sym (group_is at other there)) last;
          longer = λ other. let P : List ℕ → Type 0 = λ flag. depth < length flag in subst P (flag_is k other row_there) long;
          byte = λ other none.
              let P : List ℕ → Type 0 = λ flag. slice_index flag depth ≡ (node_at nodes at).byte in
              subst P (flag_is k other row_there) byte ∙ sym (ap (λ group. group.byte) (group_is at none there));
        }

    children : AreChildren rows (map group_of nodes) depth low high from end
    children = let most = bounds.1 in let same = length-map nodes group_of in record {
      few = bounds.0;
      within = omega (arith, most, same);
      deeper = λ i other p q. let P : Group → Type 0 = λ group. depth < group.depth in subst P (sym (group_is i other (omega (arith, q, most)))) (child_ok i p q).0;
      rise = λ i j other p q r.
          let l : low < high = omega (arith, p, q, r) in
          let up = bytes_rise nodes low (high - 1) (λ m a b. (next_ok l m a b).0) i j p q (omega (arith, r)) in
          let P : Group → Type 0 = λ group. group.byte < (node_at nodes j).byte in
          let Q : Group → Type 0 = λ group. (slice_index_or (map group_of nodes) i other).byte < group.byte in
          subst Q (sym (group_is j other (omega (arith, r, most)))) (subst P (sym (group_is i other (omega (arith, q, r, most)))) up);
      all_below = below;
    }

  node_is : (node : Node) → is_node flags nodes node ≡ true → Lies rows node × IsNode rows (map group_of nodes) node
  node_is node ok =
      let own_children : Bool = are_children flags nodes node.depth node.first_child node.end_child (node.first_row + 1) node.end_row in
      let all_children : Bool = are_children flags nodes node.depth node.first_child node.end_child node.first_row node.end_row in
      let ab = and_parts (nat_lt node.first_row (suc node.end_row) && nat_lt node.end_row (suc (length flags))) (cond node.has_row (owns_row flags node && own_children) all_children) ok in
      let cd = and_parts (nat_lt node.first_row (suc node.end_row)) (nat_lt node.end_row (suc (length flags))) ab.0 in
      let c = less node.first_row (suc node.end_row) cd.0 in
      let d = less node.end_row (suc (length flags)) cd.1 in
      let order : node.first_row ≤ node.end_row = omega (arith, c) in
      let within : node.end_row ≤ length rows = omega (arith, d, count) in
      elim node.has_row as (λ b. node.has_row ≡ b → cond b (owns_row flags node && own_children) all_children ≡ true → Lies rows node × IsNode rows (map group_of nodes) node) [
        | true ↦ λ has h.
            let own = and_parts (owns_row flags node) own_children h in
            let flag : List ℕ = slice_index_or flags node.first_row [] in
            let short : Bool = cond (nat_lt node.first_child node.end_child) (nat_lt (length flag) (suc node.depth)) true in
            let ef = and_parts (nat_lt node.first_row node.end_row) (nat_lt node.depth (suc (length flag)) && short) own.0 in
            let gh = and_parts (nat_lt node.depth (suc (length flag))) short ef.1 in
            let some = less node.first_row node.end_row ef.0 in
            let there : node.first_row < length rows = omega (arith, some, within) in
            let deep = less node.depth (suc (length flag)) gh.0 in
            let long : node.depth ≤ length flag = omega (arith, deep) in (
              record { order = order; within = within; long = λ _ other. let P : List ℕ → Type 0 = λ flag. node.depth ≤ length flag in subst P (flag_is node.first_row other there) long },
              record {
                own = λ _. some;
                short = λ _ child other.
                    let test : nat_lt node.first_child node.end_child ≡ true = grind (arith, nat_tests) in
                    let P : Bool → Type 0 = λ b. cond b (nat_lt (length flag) (suc node.depth)) true ≡ true in
                    let l = less (length flag) (suc node.depth) (subst P test gh.1) in
                    let at_most : length flag ≤ node.depth = omega (arith, l) in
                    let Q : List ℕ → Type 0 = λ flag. length flag ≤ node.depth in
                    subst Q (flag_is node.first_row other there) at_most;
                others = inl (has, children node.depth node.first_child node.end_child (node.first_row + 1) node.end_row within own.1);
              },
            )
        | false ↦ λ has h. (
          record { order = order; within = within; long = λ own. absurd (let no : true ≡ false = sym own ∙ has in cc) },
          record {
            own = λ own. absurd (let no : true ≡ false = sym own ∙ has in cc);
            short = λ own. absurd (let no : true ≡ false = sym own ∙ has in cc);
            others = inr (children node.depth node.first_child node.end_child node.first_row node.end_row within h);
          },
        )
      ] refl ab.1

  node_there : (i : ℕ) (other : Node) → i < length nodes → node_at nodes i ≡ slice_index_or nodes i other
  node_there i other l = get_or_default nodes i no_node other l

  pub leads : is_tree rows nodes ≡ true → Leads rows nodes
  leads ok =
      let ab = and_parts (nat_lt 0 (length nodes) && is_root flags (node_at nodes 0)) (all_from (λ i. is_node flags nodes (node_at nodes i)) (length nodes) 0) ok in
      let cd = and_parts (nat_lt 0 (length nodes)) (is_root flags (node_at nodes 0)) ab.0 in
      let ef = and_parts ((node_at nodes 0).first_row == 0) ((node_at nodes 0).end_row == length flags) cd.1 in
      let some = less 0 (length nodes) cd.0 in
      let first = equal (node_at nodes 0).first_row 0 ef.0 in
      let end = equal (node_at nodes 0).end_row (length flags) ef.1 in
      let good : (i : ℕ) → i < length nodes → Lies rows (node_at nodes i) × IsNode rows (map group_of nodes) (node_at nodes i) =
      λ i l. node_is (node_at nodes i) (all_in (λ i. is_node flags nodes (node_at nodes i)) (length nodes) 0 i ab.1 (omega arith) (omega (arith, l))) in
      record {
        some = some;
        first = λ other. ap (λ node. node.first_row) (sym (node_there 0 other some)) ∙ first;
        end = λ other. ap (λ node. node.end_row) (sym (node_there 0 other some)) ∙ end ∙ count;
        lies = λ i other l. subst (Lies rows) (node_there i other l) (good i l).0;
        is_node = λ i other l. subst (IsNode rows (map group_of nodes)) (node_there i other l) (good i l).1;
      }

-- ---- what is used elsewhere

pub tree_leads : {K : Type 0} (rows : List (Row K)) (nodes : List Node) → is_tree rows nodes ≡ true → Lead rows nodes
tree_leads rows nodes ok = inr (leads rows nodes ok)

pub made_leads : {K : Type 0} (rows : List (Row K)) (nodes : List Node) → IsTree rows nodes → Leads rows nodes
made_leads rows nodes tree =
    let same : (i : ℕ) (other : Node) → i < length nodes → RiseIn rows (group_of (slice_index_or nodes i other)) = λ i other l.
    subst (RiseIn rows) (get_or-map group_of nodes i other (group_of other) l) (tree.rise i (group_of other) l) in
    record {
      some = tree.some;
      first = λ other. ap (λ group. group.first) (tree.root other);
      end = λ other. ap (λ group. group.end) (tree.root other);
      lies = λ i other l. let rises = same i other l in record {
        order = rises.order;
        within = rises.within;
        long = λ own row. rises.long (slice_index_or nodes i other).first_row row (omega arith) ((tree.is_node i other l).own own);
      };
      is_node = tree.is_node;
    }
