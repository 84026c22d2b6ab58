-- The entries of a map of paths.
use Rattle.std.proofs.Common.{◌≡◌, ℕ, zero, suc, ◌<◌, ◌≤◌, ◌==◌, ◌≢◌, ◌+◌, ◌-◌, take, nat_lt, set, length-set, inl, inr, true, false, cond, List, [], ◌∷◌, ◌++◌, length, length-append, None, Some, refl, eq-eqb, sym, ap, ◌∙◌, arith}
use Rattle.std.proofs.lemmas.Bool.{eqb-true, ltb-true, false≢true, cases_lt}
use Rattle.std.proofs.lemmas.Option.{slice_get_within}
use Rattle.std.specs.List.{slice_get}
use Rattle.std.specs.Ordering.{nat_cmp, is_eq}
use Rattle.std.specs.declared.cmp.Ordering.TheVariants.{Less, Equal, Greater}
use Rattle.std.specs.BTreeMap.{BTreeMap, get, IsUnchanged}
use Rattle.scl_files.specs.Paths.{same_path}
use Rattle.scl_files.specs.PathMaps.{value_at, replaced_at, put_at}
use Rattle.scl_files.specs.PathTrees.{node_at, IsTree, Keeps}
use Rattle.scl_files.specs.PathEntries.{onto, shown_up_to, shown, this_at, place_at, this_or, newest_up_to, IsLinked}
use Rattle.scl_files.specs.declared.path_map.entry.Entry.{Entry}
use Rattle.scl_files.specs.declared.path_map.tree.PathTree.{PathTree}
use Rattle.scl_files.proofs.PathTreeLemmas.{node-kept, same-by-node, apart-by-node}

-- ---- one entry more

get-before : {X : Type 0} (xs : List X) (y : X) (k : ℕ) → k < length xs → slice_get (xs ++ y ∷ []) k ≡ slice_get xs k
get-before [] y k h = absurd (omega arith)
get-before (x ∷ xs) y zero h = refl
get-before (x ∷ xs) y (suc k) h = get-before xs y k (omega arith)

get-last : {X : Type 0} (xs : List X) (y : X) → slice_get (xs ++ y ∷ []) (length xs) ≡ Some y
get-last [] y = refl
get-last (x ∷ xs) y = get-last xs y

take-before : {X : Type 0} (xs : List X) (y : X) → take (length xs) (xs ++ y ∷ []) ≡ xs
take-before [] y = refl
take-before (x ∷ xs) y = rw (take-before xs y) refl

pub popped : {X : Type 0} (xs others after : List X) (y : X) (n : ℕ) → others ≡ xs ++ y ∷ [] → n ≡ length xs + 1 → after ≡ take (n - 1) others → after ≡ xs
popped xs others after y n e h f =
    let one : n - 1 ≡ length xs = omega (arith, h) in
    f ∙ rw (e, one) (take-before xs y)

module _ {T : Type 0} (entries : List (Entry T)) (entry : Entry T) where
  shown-before : (n : ℕ) → n ≤ length entries → shown_up_to (entries ++ entry ∷ []) n ≡ shown_up_to entries n
  shown-before zero h = refl
  shown-before (suc n) h = rw (get-before entries entry n (omega arith), shown-before n (omega arith)) refl

  newest-before : (node n : ℕ) → n ≤ length entries → newest_up_to node (entries ++ entry ∷ []) n ≡ newest_up_to node entries n
  newest-before node zero h = refl
  newest-before node (suc n) h = rw (get-before entries entry n (omega arith), newest-before node n (omega arith)) refl

  length-push : length (entries ++ entry ∷ []) ≡ suc (length entries)
  length-push = omega (arith, length-append entries (entry ∷ []))

  pub shown-push : shown (entries ++ entry ∷ []) ≡ record { 0 = entry.path.items; 1 = entry.value } ∷ shown entries
  shown-push = rw (length-push, get-last entries entry, shown-before (length entries) (omega arith)) refl

  pub newest-push : (node : ℕ) → newest_up_to node (entries ++ entry ∷ []) (length (entries ++ entry ∷ [])) ≡ cond (entry.node == node) (Some (length entries)) (newest_up_to node entries (length entries))
  newest-push node = rw (length-push, get-last entries entry, newest-before node (length entries) (omega arith)) refl

is_eq-nat_cmp : (a b : ℕ) → is_eq (nat_cmp a b) ≡ (a == b)
is_eq-nat_cmp a b =
    elim (nat_lt a b) as (λ r. nat_lt a b ≡ r → is_eq (cond r Less (cond (a == b) Equal Greater)) ≡ (a == b)) [
      | true ↦ λ e. let lt = ltb-true a b e in
          elim (a == b) as (λ r. (a == b) ≡ r → false ≡ r) [ true ↦ λ h. let same = eqb-true a b h in absurd (omega arith) | false ↦ λ _. refl ] refl
      | false ↦ λ _. elim (a == b) as (λ r. is_eq (cond r Equal Greater) ≡ r) [ true ↦ refl | false ↦ refl ]
    ] refl

module _ {T : Type 0} (entries : List (Entry T)) (entry : Entry T) (tree : PathTree) (newest after : BTreeMap ℕ ℕ) where
  older-before : (k : ℕ) (other : Entry T) → IsLinked entries tree newest → k < length entries → slice_get (entries ++ entry ∷ []) k ≡ Some other → other.older ≡ newest_up_to other.node (entries ++ entry ∷ []) k
  older-before k other linked lt h = linked.older k other (sym (get-before entries entry k lt) ∙ h) ∙ sym (newest-before entries entry other.node k (omega arith))

  older-last : (k : ℕ) (other : Entry T) → entry.older ≡ newest_up_to entry.node entries (length entries) → k ≡ length entries → slice_get (entries ++ entry ∷ []) k ≡ Some other → other.older ≡ newest_up_to other.node (entries ++ entry ∷ []) k
  older-last k other leads e h =
      let same : entry ≡ other = let l = get-last entries entry in let g = rw e at h in cc in
      rw (← same, e) (leads ∙ sym (newest-before entries entry entry.node (length entries) (omega arith)))

  reached-push : IsLinked entries tree newest → node_at entry.path.items tree ≡ Some entry.node → (k : ℕ) (other : Entry T) → slice_get (entries ++ entry ∷ []) k ≡ Some other → node_at other.path.items tree ≡ Some other.node
  reached-push linked reached k other h =
      let lt = slice_get_within (entries ++ entry ∷ []) k other h in
      elim (cases_lt k (length entries)) as (λ _. node_at other.path.items tree ≡ Some other.node) [
        | inl below ↦ linked.reached k other (sym (get-before entries entry k below) ∙ h)
        | inr above ↦
            let last : k ≡ length entries = omega (arith, lt, length-push entries entry) in
            let same : entry ≡ other = let l = get-last entries entry in let g = rw last at h in cc in
            rw (← same) reached
      ]

  pub linked-push : IsLinked entries tree newest → node_at entry.path.items tree ≡ Some entry.node → entry.older ≡ newest_up_to entry.node entries (length entries)
      → ((node : ℕ) → get nat_cmp after node ≡ cond (is_eq (nat_cmp entry.node node)) (Some (length entries)) (get nat_cmp newest node)) → IsLinked (entries ++ entry ∷ []) tree after
  linked-push linked reached leads put =
      let older : (k : ℕ) (other : Entry T) → slice_get (entries ++ entry ∷ []) k ≡ Some other → other.older ≡ newest_up_to other.node (entries ++ entry ∷ []) k
      = λ k other h.
      let lt = slice_get_within (entries ++ entry ∷ []) k other h in
      elim (cases_lt k (length entries)) as (λ _. other.older ≡ newest_up_to other.node (entries ++ entry ∷ []) k) [
        | inl below ↦ older-before k other linked below h
        | inr above ↦ older-last k other leads (omega (arith, lt, length-push entries entry)) h
      ] in
      let first : (node : ℕ) → get nat_cmp after node ≡ newest_up_to node (entries ++ entry ∷ []) (length (entries ++ entry ∷ []))
      = λ node. put node ∙ rw (is_eq-nat_cmp entry.node node, linked.first node) (sym (newest-push entries entry node)) in
      record { is_tree = linked.is_tree; reached = reached-push linked reached; older = older; first = first }

-- ---- more nodes

pub linked_grown : {T : Type 0} (entries : List (Entry T)) (tree grown : PathTree) (newest after : BTreeMap ℕ ℕ) → IsLinked entries tree newest → IsTree grown → Keeps tree grown → IsUnchanged newest after → IsLinked entries grown after
linked_grown {T} entries tree grown newest after linked is keeps same =
    let reached : (k : ℕ) (entry : Entry T) → slice_get entries k ≡ Some entry → node_at entry.path.items grown ≡ Some entry.node
    = λ k entry e. node-kept tree grown entry.path.items entry.node keeps (linked.reached k entry e) in
    let first : (node : ℕ) → get nat_cmp after node ≡ newest_up_to node entries (length entries) = λ node. rw same (linked.first node) in
    record { is_tree = is; reached = reached; older = linked.older; first = first }

-- ---- one entry fewer

module _ {T : Type 0} (entries : List (Entry T)) (entry : Entry T) (tree : PathTree) (newest after : BTreeMap ℕ ℕ) where
  pub newest-last : IsLinked (entries ++ entry ∷ []) tree newest → get nat_cmp newest entry.node ≡ Some (length entries)
  newest-last linked =
      linked.first entry.node ∙ newest-push entries entry entry.node
      ∙ rw (eq-eqb entry.node entry.node refl) refl

  first-pop : (node : ℕ) → IsLinked (entries ++ entry ∷ []) tree newest
      → cond (entry.node == node) entry.older (get nat_cmp newest node) ≡ newest_up_to node entries (length entries)
  first-pop node linked =
      let newer = linked.first node ∙ newest-push entries entry node in
      let last = linked.older (length entries) entry (get-last entries entry) ∙ newest-before entries entry entry.node (length entries) (omega arith) in
      elim (entry.node == node) as (λ b. (entry.node == node) ≡ b → get nat_cmp newest node ≡ cond b (Some (length entries)) (newest_up_to node entries (length entries))
      → cond b entry.older (get nat_cmp newest node) ≡ newest_up_to node entries (length entries)) [
        | true ↦ λ e _. last ∙ ap (λ m. newest_up_to m entries (length entries)) (eqb-true entry.node node e)
        | false ↦ λ _ g. g
      ] refl newer

  pub linked-pop : IsLinked (entries ++ entry ∷ []) tree newest
      → ((node : ℕ) → get nat_cmp after node ≡ cond (is_eq (nat_cmp entry.node node)) entry.older (get nat_cmp newest node)) → IsLinked entries tree after
  linked-pop linked taken =
      let older : (k : ℕ) (other : Entry T) → slice_get entries k ≡ Some other → other.older ≡ newest_up_to other.node entries k
      = λ k other h.
      let lt = slice_get_within entries k other h in
      linked.older k other (get-before entries entry k lt ∙ h) ∙ newest-before entries entry other.node k (omega arith) in
      let first : (node : ℕ) → get nat_cmp after node ≡ newest_up_to node entries (length entries)
      = λ node. taken node ∙ rw (is_eq-nat_cmp entry.node node) (first-pop node linked) in
      let reached : (k : ℕ) (other : Entry T) → slice_get entries k ≡ Some other → node_at other.path.items tree ≡ Some other.node
      = λ k other h. linked.reached k other (get-before entries entry k (slice_get_within entries k other h) ∙ h) in
      record { is_tree = linked.is_tree; reached = reached; older = older; first = first }

-- ---- a look-up

module _ {T : Type 0} (path : List ℕ) (entries : List (Entry T)) (tree : PathTree) (newest : BTreeMap ℕ ℕ) (linked : IsLinked entries tree newest) where
  pub place-nowhere : (n : ℕ) → node_at path tree ≡ None → place_at path entries n ≡ None
  place-nowhere zero none = refl
  place-nowhere (suc n) none =
      elim (slice_get entries n) as (λ o. slice_get entries n ≡ o → this_at path n o (place_at path entries n) ≡ None) [
        | None ↦ λ _. place-nowhere n none
        | Some entry ↦ λ e. rw (apart-by-node tree entry.path.items path entry.node (linked.reached n entry e) none) (place-nowhere n none)
      ] refl

  pub place-by-node : (node n : ℕ) → node_at path tree ≡ Some node → place_at path entries n ≡ newest_up_to node entries n
  place-by-node node zero leads = refl
  place-by-node node (suc n) leads =
      elim (slice_get entries n) as (λ o. slice_get entries n ≡ o → this_at path n o (place_at path entries n) ≡ this_or node n o (newest_up_to node entries n)) [
        | None ↦ λ _. place-by-node node n leads
        | Some entry ↦ λ e. rw (same-by-node tree entry.path.items path entry.node node linked.is_tree (linked.reached n entry e) leads, place-by-node node n leads) refl
      ] refl

-- ---- the entry at an index

module _ {T : Type 0} (path : List ℕ) (entries : List (Entry T)) where
  -- an index is one of the first n
  pub place-below : (n at : ℕ) → n ≤ length entries → place_at path entries n ≡ Some at → at < n
  place-below zero at h e = absurd (cc)
  place-below (suc n) at h e =
      elim (slice_get entries n) as (λ o. this_at path n o (place_at path entries n) ≡ Some at → at < suc n) [
        | None ↦ λ g. omega (arith, place-below n at (omega arith) g)
        | Some entry ↦ elim (same_path entry.path.items path) as (λ b. cond b (Some n) (place_at path entries n) ≡ Some at → at < suc n) [
          | true ↦ λ g. let same : n ≡ at = cc in omega arith
          | false ↦ λ g. omega (arith, place-below n at (omega arith) g)
        ]
      ] e

  pub value-nowhere : (n : ℕ) → place_at path entries n ≡ None → value_at path (shown_up_to entries n) ≡ None
  value-nowhere zero e = refl
  value-nowhere (suc n) e =
      elim (slice_get entries n) as (λ o. this_at path n o (place_at path entries n) ≡ None → value_at path (onto o (shown_up_to entries n)) ≡ None) [
        | None ↦ λ g. value-nowhere n g
        | Some entry ↦ elim (same_path entry.path.items path) as (λ b. cond b (Some n) (place_at path entries n) ≡ None → cond b (Some entry.value) (value_at path (shown_up_to entries n)) ≡ None) [
          | true ↦ λ g. absurd (cc)
          | false ↦ λ g. value-nowhere n g
        ]
      ] e

  pub value-placed : (n at : ℕ) (entry : Entry T) → place_at path entries n ≡ Some at → slice_get entries at ≡ Some entry → value_at path (shown_up_to entries n) ≡ Some entry.value
  value-placed zero at entry e is = absurd (cc)
  value-placed (suc n) at entry e is =
      elim (slice_get entries n) as (λ o. slice_get entries n ≡ o → this_at path n o (place_at path entries n) ≡ Some at → value_at path (onto o (shown_up_to entries n)) ≡ Some entry.value) [
        | None ↦ λ _ g. value-placed n at entry g is
        | Some other ↦ λ here. elim (same_path other.path.items path) as (λ b. cond b (Some n) (place_at path entries n) ≡ Some at → cond b (Some other.value) (value_at path (shown_up_to entries n)) ≡ Some entry.value) [
          | true ↦ λ g. let same : n ≡ at = cc in let those = rw (← same) at is in let e : other ≡ entry = cc in rw e refl
          | false ↦ λ g. value-placed n at entry g is
        ]
      ] refl e

-- ---- another value at a place

abbrev with_value : {T : Type 0} → Entry T → T → Entry T
with_value entry value = record { path = entry.path; value = value; node = entry.node; older = entry.older }

get-set_same : {X : Type 0} (xs : List X) (at : ℕ) (y : X) → at < length xs → slice_get (set xs at y) at ≡ Some y
get-set_same [] at y h = absurd (omega arith)
get-set_same (x ∷ xs) zero y h = refl
get-set_same (x ∷ xs) (suc at) y h = get-set_same xs at y (omega arith)

get-set_other : {X : Type 0} (xs : List X) (at k : ℕ) (y : X) → k ≢ at → slice_get (set xs at y) k ≡ slice_get xs k
get-set_other [] at k y h = refl
get-set_other (x ∷ xs) zero zero y h = absurd (h refl)
get-set_other (x ∷ xs) zero (suc k) y h = refl
get-set_other (x ∷ xs) (suc at) zero y h = refl
get-set_other (x ∷ xs) (suc at) (suc k) y h = get-set_other xs at k y (λ e. h (ap suc e))

module _ {T : Type 0} (entries : List (Entry T)) (at : ℕ) (entry : Entry T) (value : T) where
  abbrev pub after : List (Entry T)
  after = set entries at (with_value entry value)

  get-after_same : slice_get entries at ≡ Some entry → slice_get after at ≡ Some (with_value entry value)
  get-after_same is = get-set_same entries at (with_value entry value) (slice_get_within entries at entry is)

  get-after_other : (k : ℕ) → k ≢ at → slice_get after k ≡ slice_get entries k
  get-after_other k h = get-set_other entries at k (with_value entry value) h

  length-after : length after ≡ length entries
  length-after = length-set entries at (with_value entry value)

  apart : (n : ℕ) → (n == at) ≡ false → n ≢ at
  apart n h e = false≢true (sym h ∙ eq-eqb n at e)

  shown-before_set : (n : ℕ) → n ≤ at → shown_up_to after n ≡ shown_up_to entries n
  shown-before_set zero h = refl
  shown-before_set (suc n) h = rw (get-after_other n (λ e. omega (arith, e)), shown-before_set n (omega arith)) refl

  newest-set : (node n : ℕ) → slice_get entries at ≡ Some entry → newest_up_to node after n ≡ newest_up_to node entries n
  newest-set node zero is = refl
  newest-set node (suc n) is =
      elim (n == at) as (λ b. (n == at) ≡ b → newest_up_to node after (suc n) ≡ newest_up_to node entries (suc n)) [
        | true ↦ λ e. rw (newest-set node n is, eqb-true n at e, get-after_same is, is) refl
        | false ↦ λ e. rw (get-after_other n (apart n e), newest-set node n is) refl
      ] refl

  pub shown-set : (path : List ℕ) (n : ℕ) → n ≤ length entries → slice_get entries at ≡ Some entry → place_at path entries n ≡ Some at → shown_up_to after n ≡ replaced_at path value (shown_up_to entries n)
  shown-set path zero h is e = absurd (cc)
  shown-set path (suc n) h is e =
      elim (slice_get entries n) as (λ o. slice_get entries n ≡ o → this_at path n o (place_at path entries n) ≡ Some at → onto (slice_get after n) (shown_up_to after n) ≡ replaced_at path value (onto o (shown_up_to entries n))) [
        | None ↦ λ here g.
            let other : n ≢ at = λ same. let both = rw (← same) at is in cc in
            rw (get-after_other n other, here) (shown-set path n (omega arith) is g)
        | Some found ↦ λ here. elim (same_path found.path.items path) as (λ b. cond b (Some n) (place_at path entries n) ≡ Some at
            → onto (slice_get after n) (shown_up_to after n) ≡ cond b ((found.path.items, value) ∷ shown_up_to entries n) ((found.path.items, found.value) ∷ replaced_at path value (shown_up_to entries n))) [
              | true ↦ λ g.
                  let same : n ≡ at = cc in
                  let it : found ≡ entry = let both = rw (← same) at is in cc in
                  rw (it, same, get-after_same is, shown-before_set at (omega arith)) refl
              | false ↦ λ g.
                  let below = place-below path entries n at (omega arith) g in
                  rw (get-after_other n (λ same. omega (arith, below, same)), here, shown-set path n (omega arith) is g) refl
            ]
      ] refl e

  pub linked-set : (tree : PathTree) (newest : BTreeMap ℕ ℕ) → slice_get entries at ≡ Some entry → IsLinked entries tree newest → IsLinked after tree newest
  linked-set tree newest is linked =
      let older : (k : ℕ) (other : Entry T) → slice_get after k ≡ Some other → other.older ≡ newest_up_to other.node after k
      = λ k other h. rw (newest-set other.node k is) (elim (k == at) as (λ b. (k == at) ≡ b → other.older ≡ newest_up_to other.node entries k) [
        | true ↦ λ e.
            let same : k ≡ at = eqb-true k at e in
            let it : with_value entry value ≡ other = let here = get-after_same is in let there = rw same at h in cc in
            rw (← it, same) (linked.older at entry is)
        | false ↦ λ e. linked.older k other (sym (get-after_other k (apart k e)) ∙ h)
      ] refl) in
      let first : (node : ℕ) → get nat_cmp newest node ≡ newest_up_to node after (length after)
      = λ node. rw (newest-set node (length after) is, length-after) (linked.first node) in
      let reached : (k : ℕ) (other : Entry T) → slice_get after k ≡ Some other → node_at other.path.items tree ≡ Some other.node
      = λ k other h. elim (k == at) as (λ b. (k == at) ≡ b → node_at other.path.items tree ≡ Some other.node) [
        | true ↦ λ e.
            let same : k ≡ at = eqb-true k at e in
            let it : with_value entry value ≡ other = let here = get-after_same is in let there = rw same at h in cc in
            rw (← it) (linked.reached at entry is)
        | false ↦ λ e. linked.reached k other (sym (get-after_other k (apart k e)) ∙ h)
      ] refl in
      record { is_tree = linked.is_tree; reached = reached; older = older; first = first }

  pub put-placed : (path : List ℕ) → place_at path entries (length entries) ≡ Some at → slice_get entries at ≡ Some entry → shown after ≡ put_at path value (shown entries)
  put-placed path e is = rw (length-after, value-placed path entries (length entries) at entry e is) (shown-set path (length entries) (omega arith) is e)

pub put-nowhere : {T : Type 0} (path : List ℕ) (entries : List (Entry T)) (value : T) → place_at path entries (length entries) ≡ None → put_at path value (shown entries) ≡ (path, value) ∷ shown entries
put-nowhere path entries value e = rw (value-nowhere path entries (length entries) e) refl
