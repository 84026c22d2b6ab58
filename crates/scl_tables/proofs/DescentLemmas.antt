-- The way of a word's bytes through a prefix tree.
use Rattle.std.proofs.Common.{◌≡◌, ◌≢◌, ℕ, zero, suc, ◌+◌, ◌*◌, ◌-◌, ◌<◌, ◌≤◌, Bool, true, false, nat_lt, nat_eq, ◌==◌, List, [], ◌∷◌, length, map, slice_index, slice_index_or, Option, None, Some, MatchOption, refl, sym, ap, subst, ◌∙◌, inl, inr, ◌⊎◌, arith}
use Rattle.std.proofs.lemmas.Bool.Decides.{nat_tests}
use Rattle.std.proofs.Math.Nat.{mul-le-mul_left}
use Rattle.std.proofs.lemmas.List.{get_or-map, length-map}
use Rattle.std.specs.List.{starts_with}
use Rattle.scl_tables.specs.declared.nodes.Node.{Node}
use denote.Ref.{Bor}
use Rattle.scl_values.specs.declared.argument.ArgRow.{ArgRow}
use Rattle.scl_values.specs.Row.{Row, row_of, row_at, fits}
use Rattle.scl_values.specs.Tables.{owner}
use Rattle.scl_tables.specs.Probes.{bits}
use Rattle.scl_tables.specs.Trees.{Group, group_of, no_node, Lies, Leads, IsBelow, IsNode, OwnFits, NoneFits, NoChild, IsChild, ChildrenRise}
use Rattle.scl_tables.proofs.OrderLemmas.{owner_some, none_fits}
use Rattle.scl_tables.proofs.PrefixLemmas.{both, starts-length, fits-starts}
use Rattle.scl_tables.proofs.BitsLemmas.{bits_half}

-- ---- a flag that begins a word has the word's bytes

same_byte : (word flag : List ℕ) (n : ℕ) → starts_with nat_eq word flag ≡ true → n < length flag → slice_index flag n ≡ slice_index word n
same_byte word [] n h l = absurd (omega arith)
same_byte [] (x ∷ flag) n h l = absurd (cc)
same_byte (y ∷ word) (x ∷ flag) zero h l = let parts = both (nat_eq x y) (starts_with nat_eq word flag) h in let first : nat_eq x y ≡ true = parts.0 in grind (arith, nat_tests)
same_byte (y ∷ word) (x ∷ flag) (suc n) h l = let parts = both (nat_eq x y) (starts_with nat_eq word flag) h in same_byte word flag n parts.1 (omega arith)

abbrev pub InRange : Node → ℕ → Type 0
InRange node k = (node.first_row ≤ k) × (k < node.end_row)

abbrev pub Below : {K : Type 0} → List (Row K) → List Node → Node → ℕ → Type 0
Below rows nodes node k = IsBelow rows (map group_of nodes) node.depth node.first_child node.end_child k

-- the row that was found fits, and no other row that fits is as long, except those that are left
pub record Found {K : Type 0} (rows : List (Row K)) (word : List ℕ) (left : ℕ → Type 0) (row : Row K) : Type 0 where
  pub place : ℕ
  pub inside : place < length rows
  pub is : (other : Row K) → slice_index_or rows place other ≡ row
  pub fit : fits row word ≡ true
  pub rest : (k : ℕ) (other : Row K) → k < length rows → k ≢ place → fits (slice_index_or rows k other) word ≡ true → (length (slice_index_or rows k other).flag < length row.flag) ⊎ left k

-- before and after a node's own row is tried: what is left is among the node's rows, or below one of its children and longer
abbrev pub Before : {K : Type 0} → List (Row K) → List ℕ → Node → Option (Row K) → Type 0
Before {K} rows word node found = MatchOption found
    ((k : ℕ) (other : Row K) → k < length rows → fits (slice_index_or rows k other) word ≡ true → InRange node k)
    (λ row. (length row.flag < node.depth) × Found rows word (InRange node) row)

abbrev pub Behind : {K : Type 0} → List (Row K) → List Node → List ℕ → Node → Option (Row K) → Type 0
Behind {K} rows nodes word node found = MatchOption found
    ((k : ℕ) (other : Row K) → k < length rows → fits (slice_index_or rows k other) word ≡ true → Below rows nodes node k)
    (λ row. (node.first_child < node.end_child → length row.flag ≤ node.depth) × Found rows word (Below rows nodes node) row)

-- ---- what a node says of its children

module _ {K : Type 0} (rows : List (Row K)) (nodes : List Node) (node : Node) (is : IsNode rows (map group_of nodes) node) where
  count : length (map group_of nodes) ≡ length nodes
  count = length-map nodes group_of

  pub within : node.end_child ≤ length nodes
  within = elim is.others as (λ _. node.end_child ≤ length nodes) [ inl c ↦ omega (arith, c.1.within, count) | inr c ↦ omega (arith, c.within, count) ]

  pub few : Lies rows node → node.end_child - node.first_child ≤ length rows
  few rises = elim is.others as (λ _. node.end_child - node.first_child ≤ length rows) [ inl c ↦ omega (arith, c.1.few, rises.within, rises.order) | inr c ↦ omega (arith, c.few, rises.within, rises.order) ]

  deeper : (i : ℕ) (other : Group) → node.first_child ≤ i → i < node.end_child → node.depth < (slice_index_or (map group_of nodes) i other).depth
  deeper i other p q = elim is.others as (λ _. node.depth < (slice_index_or (map group_of nodes) i other).depth) [ inl c ↦ c.1.deeper i other p q | inr c ↦ c.deeper i other p q ]

  rise : (i j : ℕ) (other : Group) → node.first_child ≤ i → i < j → j < node.end_child → (slice_index_or (map group_of nodes) i other).byte < (slice_index_or (map group_of nodes) j other).byte
  rise i j other p q r = elim is.others as (λ _. (slice_index_or (map group_of nodes) i other).byte < (slice_index_or (map group_of nodes) j other).byte) [ inl c ↦ c.1.rise i j other p q r | inr c ↦ c.rise i j other p q r ]

  group_at : (i : ℕ) (other : Node) → i < node.end_child → slice_index_or (map group_of nodes) i (group_of other) ≡ group_of (slice_index_or nodes i other)
  group_at i other l = get_or-map group_of nodes i other (group_of other) (omega (arith, l, within))

  pub children_rise : ChildrenRise nodes node
  children_rise i j other p q r =
      let P : Group → Group → Type 0 = λ a b. a.byte < b.byte in
      subst (λ a. P a (group_of (slice_index_or nodes j other))) (group_at i other (omega (arith, q, r))) (subst (P (slice_index_or (map group_of nodes) i (group_of other))) (group_at j other r) (rise i j (group_of other) p q r))

  -- a node's row is its own, or below one of its children
  placed : (k : ℕ) → InRange node k → ((node.has_row ≡ true) × (k ≡ node.first_row)) ⊎ Below rows nodes node k
  placed k range = elim is.others as (λ _. ((node.has_row ≡ true) × (k ≡ node.first_row)) ⊎ Below rows nodes node k) [
    | inl c ↦ elim (k == node.first_row) as (λ b. (k == node.first_row) ≡ b → ((node.has_row ≡ true) × (k ≡ node.first_row)) ⊎ Below rows nodes node k) [
      | true ↦ λ e. inl (c.0, (grind (arith, nat_tests)))
      | false ↦ λ e. let ne : k ≢ node.first_row = grind (arith, nat_tests) in inr (c.1.all_below k (omega (arith, range.0, ne)) range.1)
    ] refl
    | inr c ↦ inr (c.all_below k range.0 range.1)
  ]

  -- ---- a node's own row is tried

  module _ (word : List ℕ) (rises : Lies rows node) where
    still_below : NoneFits rows node word → (k : ℕ) (other : Row K) → fits (slice_index_or rows k other) word ≡ true → InRange node k → Below rows nodes node k
    still_below none k other f range = elim (placed k range) as (λ _. Below rows nodes node k) [
      | inl own ↦ absurd (let P : ℕ → Type 0 = λ i. fits (slice_index_or rows i other) word ≡ true in let no : true ≡ false = sym (subst P own.1 f) ∙ none own.0 other in cc)
      | inr below ↦ below
    ]

    pub none_tried : NoneFits rows node word → (found : Option (Row K)) → Before rows word node found → Behind rows nodes word node found
    none_tried none None before = λ k other l f. still_below none k other f (before k other l f)
    none_tried none (Some row) before = (
      λ _. omega (arith, before.0),
      record {
        place = before.1.place;
        inside = before.1.inside;
        is = before.1.is;
        fit = before.1.fit;
        rest = λ k other l ne f. elim (before.1.rest k other l ne f) as (λ _. (length (slice_index_or rows k other).flag < length row.flag) ⊎ Below rows nodes node k) [
          | inl less ↦ inl less
          | inr range ↦ inr (still_below none k other f range)
        ];
      },
    )

    module _ (row : Row K) (own : OwnFits rows node word row) where
      deep : node.depth ≤ length row.flag
      deep = rw (← own.is row) (rises.long own.own row)

      others_below : (k : ℕ) → k ≢ node.first_row → InRange node k → Below rows nodes node k
      others_below k ne range = elim (placed k range) as (λ _. Below rows nodes node k) [ inl p ↦ absurd (ne p.1) | inr below ↦ below ]

      pub own_tried : (found : Option (Row K)) → Before rows word node found → Behind rows nodes word node (Some row)
      own_tried found before = (
        λ some. rw (← own.is row) (is.short own.own some row),
        record {
          place = node.first_row;
          inside = omega (arith, is.own own.own, rises.within);
          is = own.is;
          fit = own.fit;
          rest = rest found before;
        },
      )
        where
          rest : (found : Option (Row K)) → Before rows word node found → (k : ℕ) (other : Row K) → k < length rows → k ≢ node.first_row → fits (slice_index_or rows k other) word ≡ true
              → (length (slice_index_or rows k other).flag < length row.flag) ⊎ Below rows nodes node k
          rest None before k other l ne f = inr (others_below k ne (before k other l f))
          rest (Some old) before k other l ne f =
              elim (k == before.1.place) as (λ b. (k == before.1.place) ≡ b → (length (slice_index_or rows k other).flag < length row.flag) ⊎ Below rows nodes node k) [
                | true ↦ λ e.
                    let same : before.1.place ≡ k = grind (arith, nat_tests) in
                    let P : ℕ → Type 0 = λ i. slice_index_or rows i other ≡ old in
                    let there : slice_index_or rows k other ≡ old = subst P same (before.1.is other) in
                    inl (rw there (omega (arith, before.0, deep)))
                | false ↦ λ e.
                    let apart : k ≢ before.1.place = grind (arith, nat_tests) in
                    elim (before.1.rest k other l apart f) as (λ _. (length (slice_index_or rows k other).flag < length row.flag) ⊎ Below rows nodes node k) [
                      | inl less ↦ inl (omega (arith, less, before.0, deep))
                      | inr range ↦ inr (others_below k ne range)
                    ]
              ] refl

  -- ---- on to a child, or the end

  next_byte : (word : List ℕ) (k : ℕ) (other : Row K) (none : Group) → fits (slice_index_or rows k other) word ≡ true → (below : Below rows nodes node k) → slice_index word node.depth ≡ (slice_index_or (map group_of nodes) below.child none).byte
  next_byte word k other none f below = sym (same_byte word (slice_index_or rows k other).flag node.depth (fits-starts (slice_index_or rows k other) word f) (below.longer other)) ∙ below.byte other none

  module _ (word : List ℕ) (byte : ℕ) (there : slice_index word node.depth ≡ byte) where
    pub no_child_left : NoChild nodes node byte → (k : ℕ) (other : Row K) → fits (slice_index_or rows k other) word ≡ true → Below rows nodes node k → ⊥
    no_child_left none k other f below =
        none below.child no_node below.from below.to (sym (ap (λ group. group.byte) (group_at below.child no_node below.to)) ∙ sym (next_byte word k other (group_of no_node) f below) ∙ there)

    module _ (child : Node) (chosen : IsChild nodes node byte child) where
      child_group : (other : Node) → slice_index_or (map group_of nodes) chosen.place (group_of other) ≡ group_of child
      child_group other = group_at chosen.place other chosen.to ∙ ap group_of (chosen.is other)

      in_child : (k : ℕ) (other : Row K) → fits (slice_index_or rows k other) word ≡ true → Below rows nodes node k → InRange child k
      in_child k other f below =
          let none : Group = group_of no_node in
          let here : (slice_index_or (map group_of nodes) below.child none).byte ≡ byte = sym (next_byte word k other none f below) ∙ there in
          let at : (slice_index_or (map group_of nodes) chosen.place none).byte ≡ byte = ap (λ group. group.byte) (child_group no_node) ∙ chosen.same in
          let same : below.child ≡ chosen.place =
          elim (nat_lt below.child chosen.place) as (λ b. nat_lt below.child chosen.place ≡ b → below.child ≡ chosen.place) [
            | true ↦ λ e. let l = rise below.child chosen.place none below.from (grind (arith, nat_tests)) chosen.to in absurd (omega (arith, l, here, at))
            | false ↦ λ e. elim (nat_lt chosen.place below.child) as (λ b. nat_lt chosen.place below.child ≡ b → below.child ≡ chosen.place) [
              | true ↦ λ h. let l = rise chosen.place below.child none chosen.from (grind (arith, nat_tests)) below.to in absurd (omega (arith, l, here, at))
              | false ↦ λ h. grind (arith, nat_tests)
            ] refl
          ] refl in
          let P : ℕ → Type 0 = λ i. ((slice_index_or (map group_of nodes) i none).first ≤ k) × (k < (slice_index_or (map group_of nodes) i none).end) in
          let Q : Group → Type 0 = λ group. (group.first ≤ k) × (k < group.end) in
          subst Q (child_group no_node) (subst P same (below.first none, below.end none))

      pub child_deeper : node.depth < child.depth
      child_deeper = let P : Group → Type 0 = λ group. node.depth < group.depth in subst P (child_group no_node) (deeper chosen.place (group_of no_node) chosen.from chosen.to)

      pub on_to_child : (found : Option (Row K)) → Behind rows nodes word node found → Before rows word child found
      on_to_child None behind = λ k other l f. in_child k other f (behind k other l f)
      on_to_child (Some row) behind = (
        (let short = behind.0 (omega (arith, chosen.from, chosen.to)) in omega (arith, short, child_deeper)),
        record {
          place = behind.1.place;
          inside = behind.1.inside;
          is = behind.1.is;
          fit = behind.1.fit;
          rest = λ k other l ne f. elim (behind.1.rest k other l ne f) as (λ _. (length (slice_index_or rows k other).flag < length row.flag) ⊎ InRange child k) [
            | inl less ↦ inl less
            | inr below ↦ inr (in_child k other f below)
          ];
        },
      )

  pub word_ended : (word : List ℕ) → length word ≤ node.depth → (k : ℕ) (other : Row K) → fits (slice_index_or rows k other) word ≡ true → Below rows nodes node k → ⊥
  word_ended word l k other f below =
      let longer = below.longer other in
      let within = starts-length word (slice_index_or rows k other).flag (fits-starts (slice_index_or rows k other) word f) in
      absurd (omega (arith, l, longer, within))

  pub found_owner : (word : List ℕ) (found : Option (Row K)) → Behind rows nodes word node found
      → ((k : ℕ) (other : Row K) → fits (slice_index_or rows k other) word ≡ true → Below rows nodes node k → ⊥) → found ≡ owner rows word
  found_owner word None behind none = sym (none_fits rows word (λ k other l f. none k other f (behind k other l f)))
  found_owner word (Some row) behind none = sym (owner_some rows word behind.1.place row behind.1.inside behind.1.is behind.1.fit
      (λ k other l ne f. elim (behind.1.rest k other l ne f) as (λ _. length (slice_index_or rows k other).flag < length row.flag) [ inl less ↦ less | inr below ↦ absurd (none k other f below) ]))

-- ---- the whole way

-- the row that was tried last, if it fits, else what was found before
abbrev pub longer_of : {K : Type 0} → Option (Bor (ArgRow K)) → Option (Row K) → Option (Row K)
longer_of None found = found
longer_of (Some row) found = Some (row_of row.now)

pub first_of : {K : Type 0} (own : Option (Bor (ArgRow K))) → row_at own ≡ longer_of own None
first_of None = refl
first_of (Some row) = refl

module _ {K : Type 0} (rows : List (Row K)) (nodes : List Node) (tree : Leads rows nodes) (word : List ℕ) where
  pub node_there : (i : ℕ) (node : Node) → i < length nodes → ((other : Node) → slice_index_or nodes i other ≡ node) → IsNode rows (map group_of nodes) node × Lies rows node
  node_there i node l at = (subst (IsNode rows (map group_of nodes)) (at node) (tree.is_node i node l), subst (Lies rows) (at node) (tree.lies i node l))

  pub root_before : (root : Node) → ((other : Node) → slice_index_or nodes 0 other ≡ root) → Before rows word root None
  root_before root at =
      let first : root.first_row ≡ 0 = ap (λ node. node.first_row) (sym (at root)) ∙ tree.first root in
      let end : root.end_row ≡ length rows = ap (λ node. node.end_row) (sym (at root)) ∙ tree.end root in
      λ k other l f. (omega (arith, first), omega (arith, l, end))

  pub tried : (node : Node) → IsNode rows (map group_of nodes) node → Lies rows node → (found : Option (Row K)) → Before rows word node found
      → (own : Option (Bor (ArgRow K))) → MatchOption own (NoneFits rows node word) (λ row. OwnFits rows node word (row_of row.now)) → (now : Option (Row K)) → now ≡ longer_of own found → Behind rows nodes word node now
  tried node is rises found before None none now e = subst (Behind rows nodes word node) (sym e) (none_tried rows nodes node is word rises none found before)
  tried node is rises found before (Some row) own now e = subst (Behind rows nodes word node) (sym e) (own_tried rows nodes node is word rises (row_of row.now) own found before)

-- ---- counts

pub root_count : (steps : ℕ) (has_row : Bool) (before looked tried rows : ℕ) → looked ≤ before + 1 → tried ≤ looked + 1 → (has_row ≡ false → tried ≡ looked) → (has_row ≡ true → 0 < rows) → tried ≤ before + (steps + 1) * (bits rows + 1)
root_count steps true before looked tried rows l t free some = let half = bits_half rows 0 (some refl) (omega arith) in let once = mul-le-mul_left (bits rows + 1) (let one : 1 ≤ steps + 1 = omega arith in one) in omega (arith, l, t, half, once)
root_count steps false before looked tried rows l t free some = let same = free refl in let once = mul-le-mul_left (bits rows + 1) (let one : 1 ≤ steps + 1 = omega arith in one) in omega (arith, l, same, once)
