-- Prefix trees over the rows of a table.
use Rattle.std.proofs.Common.{◌≡◌, ◌≢◌, ℕ, zero, suc, ◌+◌, ◌-◌, ◌/◌, ◌<◌, ◌≤◌, Bool, true, false, nat_lt, ◌==◌, List, [], ◌∷◌, ◌++◌, length, map, drop, slice_index, slice_index_or, refl, sym, ap, subst, ◌∙◌, inl, inr, ◌⊎◌, set, arith, length-append}
use Rattle.std.proofs.lemmas.Bool.Decides.{nat_tests}
use Rattle.std.proofs.lemmas.List.{get_or_append_left, get_or-set_same, get_or-set_other, length-map, length-set}
use Rattle.std.proofs.Math.Seq.{get_or-append_seam, map-set_same}
use Rattle.std.specs.Ordering.{nat_cmp, ordering_then, MatchOrdering}
use Rattle.std.specs.declared.cmp.Ordering.{Ordering}
use Rattle.std.specs.declared.cmp.Ordering.TheVariants.{Less, Equal, Greater}
use Rattle.std.proofs.lemmas.List.{get_or-map, get_or_default}
use Rattle.scl_values.specs.declared.argument.ArgRow.{ArgRow}
use Rattle.scl_tables.specs.declared.nodes.Node.{Node}
use Rattle.scl_values.specs.Row.{Row, row_of}
use Rattle.scl_values.specs.Tables.{is_table}
use Rattle.scl_tables.specs.Trees.{Group, group_of, whole, RiseBehind, RiseIn, IsBelow, AreChildren, IsBare, IsNode, Grows, ChildrenRise, no_node}
use Rattle.scl_tables.specs.Probes.{bits}
use Rattle.scl_tables.proofs.BitsLemmas.{bits_half}
use Rattle.scl_tables.proofs.OrderLemmas.{cmp, head, rising}

-- what holds from one index up to another, and at that one, holds up to the next
pub one_more : (P : ℕ → Type 0) (first end : ℕ) → ((k : ℕ) → first ≤ k → k < end → P k) → P end → (k : ℕ) → first ≤ k → k < end + 1 → P k
one_more P first end h p k l u =
    elim (k == end) as (λ b. (k == end) ≡ b → P k) [
      | true ↦ λ e. let same : end ≡ k = grind (arith, nat_tests) in subst P same p
      | false ↦ λ e. h k l (grind (arith, nat_tests))
    ] refl

-- a flag at an index, from the row that was read there
pub longer_there : {K : Type 0} (rows : List (ArgRow K)) (index depth : ℕ) (row : ArgRow K) → index < length rows → row ≡ slice_index_or rows index row
    → ((other : Row K) → depth < length (slice_index_or (map row_of rows) index other).flag) → depth < length (row_of row).flag
longer_there {K = K} rows index depth row l is h =
    let P : Row K → Type 0 = λ r. depth < length r.flag in
    subst P (get_or-map row_of rows index row (row_of row) l ∙ sym (ap row_of is)) (h (row_of row))

-- ---- flags that rise after their first bytes

pub later_longer : (a b : List ℕ) (d : ℕ) → d ≤ length a → cmp (drop d a) (drop d b) ≡ Less → d < length b
later_longer [] [] zero l h = absurd (cc)
later_longer (x ∷ a) [] zero l h = absurd (cc)
later_longer [] (y ∷ b) zero l h = omega arith
later_longer (x ∷ a) (y ∷ b) zero l h = omega arith
later_longer [] b (suc d) l h = absurd (omega arith)
later_longer (x ∷ a) [] (suc d) l h = absurd (no (drop d a) h)
  where
    no : (xs : List ℕ) → cmp xs [] ≡ Less → ⊥
    no [] h = absurd (cc)
    no (x ∷ xs) h = absurd (cc)
later_longer (x ∷ a) (y ∷ b) (suc d) l h = let less : d < length b = later_longer a b d (omega arith) h in omega (arith, less)

pub later_byte : (a b : List ℕ) (d : ℕ) → d < length a → d < length b → cmp (drop d a) (drop d b) ≡ Less
    → (slice_index a d ≤ slice_index b d) × (slice_index a d ≡ slice_index b d → cmp (drop (suc d) a) (drop (suc d) b) ≡ Less)
later_byte [] b d l m h = absurd (omega arith)
later_byte (x ∷ a) [] d l m h = absurd (omega arith)
later_byte (x ∷ a) (y ∷ b) zero l m h =
    elim (nat_cmp x y) as (λ o. MatchOrdering o (x < y) (x ≡ y) (y < x) → ordering_then o (cmp a b) ≡ Less → (x ≤ y) × (x ≡ y → cmp a b ≡ Less)) [
      | Less ↦ λ n _. (omega arith, λ e. absurd (omega (arith, e)))
      | Equal ↦ λ n q. (omega arith, λ _. q)
      | Greater ↦ λ n q. absurd (cc)
    ] (head x y) h
later_byte (x ∷ a) (y ∷ b) (suc d) l m h = later_byte a b d (omega arith) (omega arith) h

module _ {K : Type 0} (rows : List (Row K)) (depth first end : ℕ) (rises : RiseBehind rows depth first end) where
  pub longer_after : (j k : ℕ) (other : Row K) → first ≤ j → j < k → k < end → depth < length (slice_index_or rows k other).flag
  longer_after j k other f l e = later_longer (slice_index_or rows j other).flag (slice_index_or rows k other).flag depth (rises.long j other f (omega arith)) (rises.rise j k other f l e)

  -- all rows are longer if the first is
  pub longer_all : ((other : Row K) → depth < length (slice_index_or rows first other).flag) → (k : ℕ) (other : Row K) → first ≤ k → k < end → depth < length (slice_index_or rows k other).flag
  longer_all h k other f e =
      elim (first == k) as (λ b. (first == k) ≡ b → depth < length (slice_index_or rows k other).flag) [
        | true ↦ λ q. let same : first ≡ k = grind (arith, nat_tests) in let P : ℕ → Type 0 = λ i. depth < length (slice_index_or rows i other).flag in subst P same (h other)
        | false ↦ λ q. longer_after first k other (omega arith) (grind (arith, nat_tests)) e
      ] refl

  pub bytes_rise : (j k : ℕ) (other : Row K) → first ≤ j → j < k → k < end → depth < length (slice_index_or rows j other).flag
      → slice_index (slice_index_or rows j other).flag depth ≤ slice_index (slice_index_or rows k other).flag depth
  bytes_rise j k other f l e long = (later_byte (slice_index_or rows j other).flag (slice_index_or rows k other).flag depth long (longer_after j k other f l e) (rises.rise j k other f l e)).0

  -- the rows of a child rise after one more byte
  pub child_rises : (s t byte : ℕ) → first ≤ s → s ≤ t → t ≤ end → ((k : ℕ) (other : Row K) → s ≤ k → k < t → depth < length (slice_index_or rows k other).flag)
      → ((k : ℕ) (other : Row K) → s ≤ k → k < t → slice_index (slice_index_or rows k other).flag depth ≡ byte) → RiseBehind rows (depth + 1) s t
  child_rises s t byte f o e long same = record {
    order = o;
    within = omega (arith, rises.within, e);
    long = λ k other p q. let l = long k other p q in omega (arith, l);
    rise = λ j k other p q r.
        let more : suc depth ≡ depth + 1 = omega arith in
        let P : ℕ → Type 0 = λ n. cmp (drop n (slice_index_or rows j other).flag) (drop n (slice_index_or rows k other).flag) ≡ Less in
        let at_j = long j other p (omega arith) in
        let at_k = long k other (omega arith) r in
        subst P more ((later_byte (slice_index_or rows j other).flag (slice_index_or rows k other).flag depth at_j at_k (rises.rise j k other (omega arith) q (omega arith))).1 (same j other p (omega arith) ∙ sym (same k other (omega arith) r)));
  }

  -- all rows have the byte next that the first and the last have
  pub shared_more : (byte : ℕ) → first < end → ((other : Row K) → depth < length (slice_index_or rows first other).flag)
      → ((other : Row K) → slice_index (slice_index_or rows first other).flag depth ≡ byte) → ((other : Row K) → slice_index (slice_index_or rows (end - 1) other).flag depth ≡ byte)
      → RiseBehind rows (depth + 1) first end
  shared_more byte some long at_first at_last = child_rises first end byte (omega arith) (omega (arith, some)) (omega arith) (longer_all long) same
    where
      from_first : (k : ℕ) (other : Row K) → first ≤ k → k < end → byte ≤ slice_index (slice_index_or rows k other).flag depth
      from_first k other p q =
          elim (first == k) as (λ b. (first == k) ≡ b → byte ≤ slice_index (slice_index_or rows k other).flag depth) [
            | true ↦ λ e. let eq : first ≡ k = grind (arith, nat_tests) in let P : ℕ → Type 0 = λ i. byte ≤ slice_index (slice_index_or rows i other).flag depth in subst P eq (let here = at_first other in omega (arith, here))
            | false ↦ λ e. let rise = bytes_rise first k other (omega arith) (grind (arith, nat_tests)) q (long other) in let here = at_first other in omega (arith, rise, here)
          ] refl

      to_last : (k : ℕ) (other : Row K) → first ≤ k → k < end → slice_index (slice_index_or rows k other).flag depth ≤ byte
      to_last k other p q =
          elim (k == end - 1) as (λ b. (k == end - 1) ≡ b → slice_index (slice_index_or rows k other).flag depth ≤ byte) [
            | true ↦ λ e. let eq : end - 1 ≡ k = grind (arith, nat_tests) in let P : ℕ → Type 0 = λ i. slice_index (slice_index_or rows i other).flag depth ≤ byte in subst P eq (let here = at_last other in omega (arith, here))
            | false ↦ λ e.
                let ne : k ≢ end - 1 = grind (arith, nat_tests) in
                let rise = bytes_rise k (end - 1) other p (omega (arith, q, ne)) (omega (arith, q)) (longer_all long k other p q) in
                let here = at_last other in omega (arith, rise, here)
          ] refl

      same : (k : ℕ) (other : Row K) → first ≤ k → k < end → slice_index (slice_index_or rows k other).flag depth ≡ byte
      same k other p q = let low = from_first k other p q in let high = to_last k other p q in omega (arith, low, high)

  -- rows after the last with a byte have greater ones
  pub greater_behind : (s t byte : ℕ) → first ≤ s → s < t → ((other : Row K) → slice_index (slice_index_or rows s other).flag depth ≡ byte) → ((other : Row K) → depth < length (slice_index_or rows s other).flag)
      → ((other : Row K) → t < end → slice_index (slice_index_or rows t other).flag depth ≢ byte)
      → (k : ℕ) (other : Row K) → t ≤ k → k < end → byte < slice_index (slice_index_or rows k other).flag depth
  greater_behind s t byte f l same long ne k other p q =
      let at_t = bytes_rise s t other f l (omega arith) (long other) in
      let here = same other in
      let not = ne other (omega arith) in
      let less : byte < slice_index (slice_index_or rows t other).flag depth = omega (arith, at_t, here, not) in
      elim (t == k) as (λ b. (t == k) ≡ b → byte < slice_index (slice_index_or rows k other).flag depth) [
        | true ↦ λ e. let eq : t ≡ k = grind (arith, nat_tests) in let P : ℕ → Type 0 = λ i. byte < slice_index (slice_index_or rows i other).flag depth in subst P eq less
        | false ↦ λ e.
            let later : t < k = grind (arith, nat_tests) in
            let more = bytes_rise t k other (omega arith) later q (longer_after s t other f l (omega arith)) in
            omega (arith, less, more)
      ] refl

-- ---- children

abbrev Keeps : List Group → List Group → Type 0
Keeps old new = (i : ℕ) (other : Group) → i < length old → slice_index_or new i other ≡ slice_index_or old i other

module _ {K : Type 0} (rows : List (Row K)) (old new : List Group) (keeps : Keeps old new) where
  pub below_keeps : (depth low high higher k : ℕ) → high ≤ length old → high ≤ higher → IsBelow rows old depth low high k → IsBelow rows new depth low higher k
  below_keeps depth low high higher k w m b = record {
    child = b.child;
    from = b.from;
    to = omega (arith, b.to);
    first = λ other. rw (keeps b.child other (omega (arith, b.to))) (b.first other);
    end = λ other. rw (keeps b.child other (omega (arith, b.to))) (b.end other);
    longer = b.longer;
    byte = λ other none. rw (keeps b.child none (omega (arith, b.to))) (b.byte other none);
  }

  pub children_keep : (depth low high first end : ℕ) → length old ≤ length new → AreChildren rows old depth low high first end → AreChildren rows new depth low high first end
  children_keep depth low high first end m c = record {
    few = c.few;
    within = omega (arith, c.within, m);
    deeper = λ i other p q. rw (keeps i other (omega (arith, c.within))) (c.deeper i other p q);
    rise = λ i j other p q r. rw (keeps i other (omega (arith, c.within)), keeps j other (omega (arith, c.within))) (c.rise i j other p q r);
    all_below = λ k p q. below_keeps depth low high high k c.within (omega arith) (c.all_below k p q);
  }

pub pushed_keeps : (groups : List Group) (group : Group) → Keeps groups (groups ++ group ∷ [])
pushed_keeps groups group i other l = get_or_append_left groups (group ∷ []) other i l

-- one more child, whose rows are the next ones
module _ {K : Type 0} (rows : List (Row K)) (groups : List Group) (group : Group) (depth low first at : ℕ) (low_in : low ≤ length groups)
    (children : AreChildren rows groups depth low (length groups) first at) (deeper : depth < group.depth) (from : group.first ≡ at) (some : at < group.end)
    (longer : (k : ℕ) (other : Row K) → at ≤ k → k < group.end → depth < length (slice_index_or rows k other).flag)
    (same : (k : ℕ) (other : Row K) → at ≤ k → k < group.end → slice_index (slice_index_or rows k other).flag depth ≡ group.byte)
    (greater : (i : ℕ) (other : Group) → low ≤ i → i < length groups → (slice_index_or groups i other).byte < group.byte) where
  here : (other : Group) → slice_index_or (groups ++ group ∷ []) (length groups) other ≡ group
  here other = get_or-append_seam groups group [] other

  abbrev more : List Group
  more = groups ++ group ∷ []

  pub one_more_child : AreChildren rows (groups ++ group ∷ []) depth low (length groups + 1) first group.end
  one_more_child = record {
    few = omega (arith, children.few, some);
    within = omega (arith, length-append groups (group ∷ []));
    deeper = λ i other p q. one_more (λ i. depth < (slice_index_or more i other).depth) low (length groups)
        (λ i p q. rw (pushed_keeps groups group i other q) (children.deeper i other p q)) (rw (here other) deeper) i p q;
    rise = λ i j other p q r. one_more (λ j. i < j → (slice_index_or more i other).byte < (slice_index_or more j other).byte) low (length groups)
        (λ j p' r q. rw (pushed_keeps groups group i other (omega arith), pushed_keeps groups group j other r) (children.rise i j other p q r))
        (λ q. rw (pushed_keeps groups group i other q, here other) (greater i other p q)) j (omega arith) r q;
    all_below = λ k p q. elim (nat_lt k at) as (λ b. nat_lt k at ≡ b → IsBelow rows more depth low (length groups + 1) k) [
      | true ↦ λ e. below_keeps rows groups more (pushed_keeps groups group) depth low (length groups) (length groups + 1) k (omega arith) (omega arith) (children.all_below k p (grind (arith, nat_tests)))
      | false ↦ λ e. let far : at ≤ k = grind (arith, nat_tests) in record {
        child = length groups;
        from = low_in;
        to = omega arith;
        first = λ other. rw (here other) (omega (arith, from, far));
        end = λ other. rw (here other) q;
        longer = λ other. longer k other far q;
        byte = λ other none. rw (here none) (same k other far q);
      }
    ] refl;
  }

-- ---- a node's children, one after the other

-- the children for rows from the first up to the next that has none yet
pub record Growing {K : Type 0} (rows : List (Row K)) (old new : List Node) (depth first next end : ℕ) : Type 0 where
  pub grows : Grows rows old new
  pub from : first ≤ next
  pub to : next ≤ end
  pub children : AreChildren rows (map group_of new) depth (length old) (length new) first next
  pub ahead : (i : ℕ) (none : Group) (k : ℕ) (other : Row K) → length old ≤ i → i < length new → next ≤ k → k < end
      → (slice_index_or (map group_of new) i none).byte < slice_index (slice_index_or rows k other).flag depth

some_row : {K : Type 0} (rows : List (Row K)) → 0 < length rows → Row K
some_row [] l = absurd (omega arith)
some_row (row ∷ rows) l = row

groups_pushed : (nodes : List Node) (node : Node) → map group_of (nodes ++ node ∷ []) ≡ map group_of nodes ++ group_of node ∷ []
groups_pushed [] node = refl
groups_pushed (x ∷ nodes) node = ap (λ rest. group_of x ∷ rest) (groups_pushed nodes node)

module _ {K : Type 0} (rows : List (Row K)) (old new : List Node) (depth from first next end : ℕ) (rises : RiseBehind rows depth from end) (inside : from ≤ first)
    (longer : (k : ℕ) (other : Row K) → first ≤ k → k < end → depth < length (slice_index_or rows k other).flag) (growing : Growing rows old new depth first next end)
    (child : Node) (bare : IsBare child) (child_rows : RiseIn rows (group_of child)) (deeper : depth < child.depth) (starts : child.first_row ≡ next) (some : next < child.end_row) (ends : child.end_row ≤ end)
    (same : (k : ℕ) (other : Row K) → next ≤ k → k < child.end_row → slice_index (slice_index_or rows k other).flag depth ≡ child.byte)
    (changes : (other : Row K) → child.end_row < end → slice_index (slice_index_or rows child.end_row other).flag depth ≢ child.byte) where
  abbrev pushed : List Node
  pushed = new ++ child ∷ []

  abbrev groups : List Group
  groups = map group_of new

  count : length groups ≡ length new
  count = length-map new group_of

  count_more : length pushed ≡ length new + 1
  count_more = omega (arith, length-append new (child ∷ []))

  row : Row K
  row = some_row rows (omega (arith, rises.within, some, ends))

  rise_more : (i : ℕ) (other : Group) → length old ≤ i → i < length pushed → RiseIn rows (slice_index_or (map group_of pushed) i other)
  rise_more i other l m =
      rw (groups_pushed new child) (one_more (λ i. RiseIn rows (slice_index_or (groups ++ group_of child ∷ []) i other)) (length old) (length groups)
      (λ i p q. rw (pushed_keeps groups (group_of child) i other q) (growing.grows.rise i other p (omega (arith, q, count))))
      (rw (get_or-append_seam groups (group_of child) [] other) child_rows) i l (omega (arith, m, count, count_more)))

  bare_more : (i : ℕ) (other : Node) → length old ≤ i → i < length pushed → IsBare (slice_index_or pushed i other)
  bare_more i other l m =
      one_more (λ i. IsBare (slice_index_or pushed i other)) (length old) (length new)
      (λ i p q. rw (get_or_append_left new (child ∷ []) other i q) (growing.grows.bare i other p q))
      (rw (get_or-append_seam new child [] other) bare) i l (omega (arith, m, count_more))

  greater : (k : ℕ) (other : Row K) → child.end_row ≤ k → k < end → child.byte < slice_index (slice_index_or rows k other).flag depth
  greater = greater_behind rows depth from end rises next child.end_row child.byte (omega (arith, inside, growing.from)) some
      (λ other. same next other (omega arith) some) (λ other. longer next other growing.from (omega (arith, some, ends))) changes

  pub one_more_grown : Growing rows old (new ++ child ∷ []) depth first child.end_row end
  one_more_grown = record {
    grows = record {
      longer = omega (arith, growing.grows.longer, count_more);
      keeps = λ i other l. get_or_append_left new (child ∷ []) other i (omega (arith, l, growing.grows.longer)) ∙ growing.grows.keeps i other l;
      rise = rise_more;
      bare = bare_more;
    };
    from = omega (arith, growing.from, some);
    to = ends;
    children =
        let P : ℕ → ℕ → List Group → Type 0 = λ e high gs. AreChildren rows gs depth (length old) high first e in
        let before : AreChildren rows groups depth (length old) (length groups) first next = subst (λ high. P next high groups) (sym count) growing.children in
        let added : AreChildren rows (groups ++ group_of child ∷ []) depth (length old) (length groups + 1) first child.end_row =
        one_more_child rows groups (group_of child) depth (length old) first next (omega (arith, count, growing.grows.longer)) before deeper starts some
        (λ k other p q. longer k other (omega (arith, growing.from, p)) (omega (arith, q, ends))) same
        (λ i other p q. subst (λ byte. (slice_index_or groups i other).byte < byte) (same next row (omega arith) some) (growing.ahead i other next row p (omega (arith, q, count)) (omega arith) (omega (arith, some, ends)))) in
        let high : length groups + 1 ≡ length pushed = omega (arith, count, count_more) in
        subst (λ gs. P child.end_row (length pushed) gs) (sym (groups_pushed new child)) (subst (λ high. P child.end_row high (groups ++ group_of child ∷ [])) high added);
    ahead = λ i none k other l m p q.
        rw (groups_pushed new child) (one_more (λ i. (slice_index_or (groups ++ group_of child ∷ []) i none).byte < slice_index (slice_index_or rows k other).flag depth) (length old) (length groups)
        (λ i l m. rw (pushed_keeps groups (group_of child) i none m) (growing.ahead i none k other l (omega (arith, m, count)) (omega (arith, some, p)) q))
        (rw (get_or-append_seam groups (group_of child) [] none) (greater k other p q)) i l (omega (arith, m, count, count_more)));
  }

-- whether the first row is the node's own, and where the rows of the children begin
abbrev pub Starts : Bool → ℕ → ℕ → Type 0
Starts has_row from first = ((has_row ≡ true) × (first ≡ from + 1)) ⊎ ((has_row ≡ false) × (first ≡ from))

pub starts_inside : (has_row : Bool) (from first : ℕ) → Starts has_row from first → from ≤ first
starts_inside has_row from first (inl s) = omega (arith, s.1)
starts_inside has_row from first (inr s) = omega (arith, s.1)

pub longer_from : {K : Type 0} (rows : List (Row K)) (depth from first end : ℕ) (has_row : Bool) → RiseBehind rows depth from end → Starts has_row from first
    → (has_row ≡ false → from < end → (other : Row K) → length (slice_index_or rows from other).flag ≢ depth)
    → (k : ℕ) (other : Row K) → first ≤ k → k < end → depth < length (slice_index_or rows k other).flag
longer_from rows depth from first end has_row rises (inl s) h k other p q = longer_after rows depth from end rises from k other (omega arith) (omega (arith, s.1, p)) q
longer_from rows depth from first end has_row rises (inr s) h k other p q =
    let inside : from < end = omega (arith, s.1, p, q) in
    longer_all rows depth from end rises (λ other. let ne = h s.0 inside other in let l = rises.long from other (omega arith) inside in omega (arith, ne, l)) k other (omega (arith, s.1, p)) q

pub grown_node : {K : Type 0} (rows : List (Row K)) (old new : List Node) (first next : ℕ) (node : Node) → Growing rows old new node.depth first next node.end_row → node.end_row ≤ next
    → Starts node.has_row node.first_row first → (node.has_row ≡ true → node.first_row < node.end_row)
    → (node.has_row ≡ true → node.first_row + 1 < node.end_row → (other : Row K) → length (slice_index_or rows node.first_row other).flag ≡ node.depth)
    → node.first_child ≡ length old → node.end_child ≡ length new → IsNode rows (map group_of new) node
grown_node rows old new first next node growing e starts own ends low high =
    let P : ℕ → ℕ → ℕ → ℕ → Type 0 = λ l h f t. AreChildren rows (map group_of new) node.depth l h f t in
    let last : next ≡ node.end_row = omega (arith, growing.to, e) in
    let all : P node.first_child node.end_child first node.end_row = subst (λ l. P l node.end_child first node.end_row) (sym low) (subst (λ h. P (length old) h first node.end_row) (sym high) (subst (P (length old) (length new) first) last growing.children)) in
    record {
      own = own;
      short = λ h some other. let l = ends h (many first starts all.few h some) other in omega (arith, l);
      others = which starts all;
    }
  where
    many : (first : ℕ) → Starts node.has_row node.first_row first → node.end_child + first ≤ node.first_child + node.end_row → node.has_row ≡ true → node.first_child < node.end_child → node.first_row + 1 < node.end_row
    many first (inl s) few h some = omega (arith, s.1, few, some)
    many first (inr s) few h some = absurd (let no : true ≡ false = sym h ∙ s.0 in cc)

    which : Starts node.has_row node.first_row first → AreChildren rows (map group_of new) node.depth node.first_child node.end_child first node.end_row
        → ((node.has_row ≡ true) × AreChildren rows (map group_of new) node.depth node.first_child node.end_child (node.first_row + 1) node.end_row)
        ⊎ AreChildren rows (map group_of new) node.depth node.first_child node.end_child node.first_row node.end_row
    which (inl s) all = inl (s.0, subst (λ f. AreChildren rows (map group_of new) node.depth node.first_child node.end_child f node.end_row) s.1 all)
    which (inr s) all = inr (subst (λ f. AreChildren rows (map group_of new) node.depth node.first_child node.end_child f node.end_row) s.1 all)

-- ---- the nodes so far, up to one that has no children yet

pub record Built {K : Type 0} (rows : List (Row K)) (nodes : List Node) (index : ℕ) : Type 0 where
  pub some : 0 < length nodes
  pub root : (other : Node) → group_of (slice_index_or nodes 0 other) ≡ whole rows
  pub rise : (i : ℕ) (other : Group) → i < length nodes → RiseIn rows (slice_index_or (map group_of nodes) i other)
  pub is_node : (i : ℕ) (other : Node) → 0 ≤ i → i < index → IsNode rows (map group_of nodes) (slice_index_or nodes i other)
  pub bare : (i : ℕ) (other : Node) → index ≤ i → i < length nodes → IsBare (slice_index_or nodes i other)

pub root_built : {K : Type 0} (rows : List (Row K)) (root : Node) → is_table rows ≡ true → group_of root ≡ whole rows → IsBare root → Built rows (root ∷ []) 0
root_built {K = K} rows root table is bare = record {
  some = omega arith;
  root = λ other. is;
  rise = λ i other l. let first : i ≡ 0 = omega arith in let P : ℕ → Type 0 = λ i. RiseIn rows (slice_index_or (map group_of (root ∷ [])) i other) in
      subst P (sym first) (subst (RiseIn rows) (sym is) (record { order = omega arith; within = omega arith; long = λ k o f e. omega arith; rise = λ j k o f l e. rising rows table j k o l e }));
  is_node = λ i other p q. absurd (omega (arith, q));
  bare = λ i other p q. let first : i ≡ 0 = omega (arith, q) in let P : ℕ → Type 0 = λ i. IsBare (slice_index_or (root ∷ []) i other) in subst P (sym first) bare;
}

-- a single row is its node's own
bare_is_node : {K : Type 0} (rows : List (Row K)) (groups : List Group) (node : Node) → IsBare node → node.has_row ≡ true → IsNode rows groups node
bare_is_node rows groups node bare own = record {
  own = λ _. omega (arith, bare.single own);
  short = λ _ some. absurd (omega (arith, some, bare.childless));
  others = inl (
    own,
    record {
      few = omega (arith, bare.single own, bare.childless);
      within = omega (arith, bare.childless);
      deeper = λ i other p q. absurd (omega (arith, q, bare.childless));
      rise = λ i j other p q r. absurd (omega (arith, r, bare.childless));
      all_below = λ k p q. absurd (omega (arith, p, q, bare.single own));
    },
  );
}

pub leaf_built : {K : Type 0} (rows : List (Row K)) (nodes : List Node) (index : ℕ) (node : Node) → Built rows nodes index → index < length nodes → node ≡ slice_index_or nodes index node → node.has_row ≡ true → Built rows nodes (index + 1)
leaf_built rows nodes index node built l is own = record {
  some = built.some;
  root = built.root;
  rise = built.rise;
  is_node = λ i other p q. one_more (λ i. IsNode rows (map group_of nodes) (slice_index_or nodes i other)) 0 index (λ i p q. built.is_node i other p q)
      (subst (IsNode rows (map group_of nodes)) (is ∙ get_or_default nodes index node other l) (bare_is_node rows (map group_of nodes) node (subst IsBare (sym is) (built.bare index node (omega arith) l)) own)) i p q;
  bare = λ i other p q. built.bare i other (omega (arith, p)) q;
}

module _ {K : Type 0} (rows : List (Row K)) (old new : List Node) (grows : Grows rows old new) where
  groups_keep : Keeps (map group_of old) (map group_of new)
  groups_keep i other l =
      let here : i < length old = omega (arith, l, length-map old group_of) in
      get_or-map group_of new i no_node other (omega (arith, here, grows.longer)) ∙ ap group_of (grows.keeps i no_node here) ∙ sym (get_or-map group_of old i no_node other here)

  node_keeps : (node : Node) → IsNode rows (map group_of old) node → IsNode rows (map group_of new) node
  node_keeps node is = record { own = is.own; short = is.short; others = keep is.others }
    where
      more : length (map group_of old) ≤ length (map group_of new)
      more = omega (arith, grows.longer, length-map old group_of, length-map new group_of)

      keep : ((node.has_row ≡ true) × AreChildren rows (map group_of old) node.depth node.first_child node.end_child (node.first_row + 1) node.end_row) ⊎ AreChildren rows (map group_of old) node.depth node.first_child node.end_child node.first_row node.end_row
          → ((node.has_row ≡ true) × AreChildren rows (map group_of new) node.depth node.first_child node.end_child (node.first_row + 1) node.end_row) ⊎ AreChildren rows (map group_of new) node.depth node.first_child node.end_child node.first_row node.end_row
      keep (inl c) = inl (c.0, children_keep rows (map group_of old) (map group_of new) groups_keep node.depth node.first_child node.end_child (node.first_row + 1) node.end_row more c.1)
      keep (inr c) = inr (children_keep rows (map group_of old) (map group_of new) groups_keep node.depth node.first_child node.end_child node.first_row node.end_row more c)

  pub one_more_built : (index : ℕ) (node : Node) → Built rows old index → index < length old → (read : Node) → read ≡ slice_index_or old index read → group_of node ≡ group_of read → IsNode rows (map group_of new) node → Built rows (set new index node) (index + 1)
  one_more_built index node built l read found same is =
      let inside : index < length new = omega (arith, l, grows.longer) in
      let groups : map group_of (set new index node) ≡ map group_of new = map-set_same group_of new index node read (same ∙ ap group_of (found ∙ sym (grows.keeps index read l))) in
      let count : length (set new index node) ≡ length new = length-set new index node in record {
        some = omega (arith, inside, count);
        root = λ other. first_set groups other ∙ ap group_of (grows.keeps 0 other built.some) ∙ built.root other;
        rise = λ i other m. rw groups (elim (nat_lt i (length old)) as (λ b. nat_lt i (length old) ≡ b → RiseIn rows (slice_index_or (map group_of new) i other)) [
          | true ↦ λ e. let before : i < length old = grind (arith, nat_tests) in rw (groups_keep i other (omega (arith, before, length-map old group_of))) (built.rise i other before)
          | false ↦ λ e. let behind : length old ≤ i = grind (arith, nat_tests) in grows.rise i other behind (omega (arith, m, count))
        ] refl);
        is_node = λ i other p q. rw groups (one_more (λ i. IsNode rows (map group_of new) (slice_index_or (set new index node) i other)) 0 index
            (λ i p q. let ne : i ≢ index = omega (arith, q) in
            rw (get_or-set_other new index i node other ne, grows.keeps i other (omega (arith, q, l))) (node_keeps (slice_index_or old i other) (built.is_node i other p q)))
            (rw (get_or-set_same new index node other inside) is) i p q);
        bare = λ i other p q.
            let ne : i ≢ index = omega (arith, p) in
            rw (get_or-set_other new index i node other ne) (elim (nat_lt i (length old)) as (λ b. nat_lt i (length old) ≡ b → IsBare (slice_index_or new i other)) [
              | true ↦ λ e. let before : i < length old = grind (arith, nat_tests) in rw (grows.keeps i other before) (built.bare i other (omega (arith, p)) before)
              | false ↦ λ e. let behind : length old ≤ i = grind (arith, nat_tests) in grows.bare i other behind (omega (arith, q, count))
            ] refl);
      }
    where
      first_set : map group_of (set new index node) ≡ map group_of new → (other : Node) → group_of (slice_index_or (set new index node) 0 other) ≡ group_of (slice_index_or new 0 other)
      first_set groups other =
          let count : length (set new index node) ≡ length new = length-set new index node in
          sym (get_or-map group_of (set new index node) 0 other (group_of other) (omega (arith, count, l, grows.longer))) ∙ ap (λ gs. slice_index_or gs 0 (group_of other)) groups ∙ get_or-map group_of new 0 other (group_of other) (omega (arith, l, grows.longer))

pub same_group : (node : Node) (byte depth first end : ℕ) → node.byte ≡ byte → node.depth ≡ depth → node.first_row ≡ first → node.end_row ≡ end → group_of node ≡ record { byte = byte; depth = depth; first = first; end = end }
same_group node byte depth first end b d f e = rw (b, d, f, e) refl

-- the rows of a node that was read at an index
pub node_rises : {K : Type 0} (rows : List (Row K)) (nodes : List Node) (index : ℕ) (node : Node) → ((i : ℕ) (other : Group) → i < length nodes → RiseIn rows (slice_index_or (map group_of nodes) i other))
    → index < length nodes → node ≡ slice_index_or nodes index node → RiseIn rows (group_of node)
node_rises rows nodes index node rise l is = subst (RiseIn rows) (get_or-map group_of nodes index node (group_of node) l ∙ sym (ap group_of is)) (rise index (group_of node) l)

-- ---- binary search among the children

pub order_is : (x y : ℕ) (o : Ordering) → o ≡ nat_cmp x y → MatchOrdering o (x < y) (x ≡ y) (y < x)
order_is x y o e = subst (λ o. MatchOrdering o (x < y) (x ≡ y) (y < x)) (sym e) (head x y)

-- one look, after which at most half are left
pub halved : (left all before after most : ℕ) → 0 < all → before + bits all ≤ most → after ≤ before + 1 → left ≤ all / 2 → after + bits left ≤ most
halved left all before after most some b a l = let half = bits_half all left some l in omega (arith, half, b, a)

module _ (nodes : List Node) (parent : Node) (rise : ChildrenRise nodes parent) (byte m : ℕ) (from : parent.first_child ≤ m) (to : m < parent.end_child) where
  pub less_to : ((other : Node) → (slice_index_or nodes m other).byte < byte) → (i : ℕ) (other : Node) → parent.first_child ≤ i → i < m + 1 → (slice_index_or nodes i other).byte < byte
  less_to h i other = one_more (λ i. (slice_index_or nodes i other).byte < byte) parent.first_child m (λ i p q. let l = rise i m other p q to in let here = h other in omega (arith, l, here)) (h other) i

  pub greater_from : ((other : Node) → byte < (slice_index_or nodes m other).byte) → (i : ℕ) (other : Node) → m ≤ i → i < parent.end_child → byte < (slice_index_or nodes i other).byte
  greater_from h i other p q =
      elim (m == i) as (λ b. (m == i) ≡ b → byte < (slice_index_or nodes i other).byte) [
        | true ↦ λ e. let same : m ≡ i = grind (arith, nat_tests) in let P : ℕ → Type 0 = λ i. byte < (slice_index_or nodes i other).byte in subst P same (h other)
        | false ↦ λ e. let l = rise m i other from (grind (arith, nat_tests)) q in let here = h other in omega (arith, l, here)
      ] refl
