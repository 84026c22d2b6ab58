-- Splitting a path at its slashes.
use Rattle.std.proofs.Common.{◌≡◌, ℕ, suc, ◌+◌, ◌<◌, ◌≤◌, ltb, true, false, cond, not, length-drop, List, [], ◌∷◌, ◌++◌, length, take, drop, map, position, Option, None, Some, refl, sym, ap, ◌∙◌, arith, ◌⊎◌, inl, inr}
use Rattle.std.proofs.lemmas.Bool.{ltb-true, eqb-true, false≢true, cases_lt}
use Rattle.std.proofs.lemmas.Grind.{common_steps}
use Rattle.std.proofs.lemmas.Iterator.{YieldsList, items_from_drains}
use Rattle.std.specs.Iterator.{Drains}
use Rattle.std.specs.Option.{option_map}
use Rattle.std.specs.List.{slice_split, onto_first, before_first, after_first, position_or_len, last_or}
use Rattle.std.proofs.lemmas.List.Splits.{slice_split_first}
use Rattle.std.proofs.lemmas.List.{append_assoc, length-take, take_min, drop-drop, take_all, length-take-le}
use Rattle.std.proofs.Math.Seq.{drop-length, take-add}
use Rattle.std.specs.Prelude.{min}
use Rattle.scl_files.specs.Paths.{is_slash, is_name, places_from, placed}

some_position : (path : List ℕ) (i : ℕ) → position is_slash path ≡ Some i → (position_or_len is_slash path ≡ i) × (i < length path)
some_position path i h =
    elim (ltb (position_or_len is_slash path) (length path)) as (λ b. ltb (position_or_len is_slash path) (length path) ≡ b → cond b (Some (position_or_len is_slash path)) None ≡ Some i → (position_or_len is_slash path ≡ i) × (i < length path)) [
      | true ↦ λ e g. let same : position_or_len is_slash path ≡ i = cc in (same, rw (← same) (ltb-true _ _ e))
      | false ↦ λ e g. absurd (false≢true (cc))
    ] refl h

no_position : (path : List ℕ) → position is_slash path ≡ None → length path ≤ position_or_len is_slash path
no_position path h =
    elim (ltb (position_or_len is_slash path) (length path)) as (λ b. ltb (position_or_len is_slash path) (length path) ≡ b → cond b (Some (position_or_len is_slash path)) None ≡ None → length path ≤ position_or_len is_slash path) [
      | true ↦ λ e g. absurd (false≢true (cc))
      | false ↦ λ e g. grind arith
    ] refl h

pub before-some : (path : List ℕ) (i : ℕ) → position is_slash path ≡ Some i → before_first is_slash path ≡ take i path
before-some path i h = rw ((some_position path i h).0) refl

pub before-none : (path : List ℕ) → position is_slash path ≡ None → before_first is_slash path ≡ path
before-none path h = let l = no_position path h in grind (arith, common_steps)

pub some-inside : (path : List ℕ) (i : ℕ) → position is_slash path ≡ Some i → i < length path
some-inside path i h = (some_position path i h).1

pub ruleset part_rules = (before-some, before-none, some-inside)

slash_free : (path : List ℕ) → length path ≤ position_or_len is_slash path → slice_split is_slash path ≡ path ∷ []
slash_free [] h = refl
slash_free (x ∷ xs) h =
    elim (is_slash x) as (λ b. suc (length xs) ≤ cond (not b) (1 + position_or_len is_slash xs) 0 → cond b ([] ∷ slice_split is_slash xs) (onto_first x (slice_split is_slash xs)) ≡ (x ∷ xs) ∷ []) [
      | true ↦ λ g. absurd (omega arith)
      | false ↦ λ g. rw (slash_free xs (omega arith)) refl
    ] h

-- a path through its first slash
through_slash : (path : List ℕ) → position_or_len is_slash path < length path → take (position_or_len is_slash path + 1) path ≡ before_first is_slash path ++ 47 ∷ []
through_slash [] h = absurd (omega arith)
through_slash (x ∷ xs) h =
    elim (is_slash x) as (λ b. is_slash x ≡ b → cond (not b) (1 + position_or_len is_slash xs) 0 < suc (length xs) → take (cond (not b) (1 + position_or_len is_slash xs) 0 + 1) (x ∷ xs) ≡ take (cond (not b) (1 + position_or_len is_slash xs) 0) (x ∷ xs) ++ 47 ∷ []) [
      | true ↦ λ e g. ap (λ y. y ∷ []) (eqb-true x 47 e)
      | false ↦ λ e g.
          let more : (1 + position_or_len is_slash xs) + 1 ≡ suc (position_or_len is_slash xs + 1) = omega arith in
          let one_more : 1 + position_or_len is_slash xs ≡ suc (position_or_len is_slash xs) = omega arith in
          rw (more, one_more) (ap (λ ys. x ∷ ys) (through_slash xs (omega arith)))
    ] refl h

-- at the end of a path there is no name
pub places_from-end : (path : List ℕ) (at : ℕ) → at ≡ length path → places_from path at ≡ []
unfolding places_from
places_from-end path at e = rw (e, drop-length) refl

-- a part that a slash ends
from_slash : (path : List ℕ) (at next : ℕ) → position_or_len is_slash (drop at path) < length (drop at path) → next ≡ at + (position_or_len is_slash (drop at path) + 1)
    → places_from path at ≡ cond (is_name (before_first is_slash (drop at path))) (placed (take at path) (before_first is_slash (drop at path)) ∷ places_from path next) (places_from path next)
unfolding places_from
from_slash path at next l n =
    let through : take at path ++ before_first is_slash (drop at path) ++ 47 ∷ [] ≡ take next path =
    append_assoc (take at path) (before_first is_slash (drop at path)) (47 ∷ []) ∙ ap (λ ys. take at path ++ ys) (sym (through_slash (drop at path) l))
    ∙ sym (take-add at (position_or_len is_slash (drop at path) + 1) path) ∙ ap (λ m. take m path) (sym n) in
    let after : after_first is_slash (drop at path) ≡ drop next path = drop-drop (position_or_len is_slash (drop at path) + 1) at path ∙ ap (λ m. drop m path) (sym n) in
    rw (slice_split_first is_slash (drop at path) 0 l, through, after) refl

-- a last part
from_end : (path : List ℕ) (at next : ℕ) → length (drop at path) ≤ position_or_len is_slash (drop at path) → next ≡ length path
    → places_from path at ≡ cond (is_name (drop at path)) (placed (take at path) (drop at path) ∷ places_from path next) (places_from path next)
unfolding places_from
from_end path at next l n = rw (slash_free (drop at path) l, n, drop-length) refl

-- a path from a position on: its first part, if that is a name, and then what follows
from_part : (path part : List ℕ) (at next : ℕ) → at < length path → part ≡ before_first is_slash (drop at path) → next ≡ min (length path) (at + length part + 1)
    → (position_or_len is_slash (drop at path) < length (drop at path)) ⊎ (length (drop at path) ≤ position_or_len is_slash (drop at path))
    → places_from path at ≡ cond (is_name part) (placed (take at path) part ∷ places_from path next) (places_from path next)
from_part path part at next h p n (inl l) =
    let count : length part ≡ position_or_len is_slash (drop at path) = ap length p ∙ length-take-le _ _ (omega arith) in
    rw p (from_slash path at next l (omega (arith, length-drop {A = ℕ})))
from_part path part at next h p n (inr l) =
    let whole : part ≡ drop at path = p ∙ take_all _ _ l in
    let count : length part ≡ length (drop at path) = ap length whole in
    rw whole (from_end path at next l (omega (arith, length-drop {A = ℕ})))

pub places_from-part : (path part : List ℕ) (at next : ℕ) → at < length path → part ≡ before_first is_slash (drop at path) → next ≡ min (length path) (at + length part + 1)
    → places_from path at ≡ cond (is_name part) (placed (take at path) part ∷ places_from path next) (places_from path next)
places_from-part path part at next h p n = from_part path part at next h p n (cases_lt _ _)

pub places_from-name : (path part : List ℕ) (at next : ℕ) → at < length path → part ≡ before_first is_slash (drop at path) → next ≡ min (length path) (at + length part + 1)
    → is_name part ≡ true → places_from path at ≡ placed (take at path) part ∷ places_from path next
places_from-name path part at next h p n e = rw (places_from-part path part at next h p n, e) refl

pub places_from-skip : (path part : List ℕ) (at next : ℕ) → at < length path → part ≡ before_first is_slash (drop at path) → next ≡ min (length path) (at + length part + 1)
    → is_name part ≡ false → places_from path at ≡ places_from path next
places_from-skip path part at next h p n e = rw (places_from-part path part at next h p n, e) refl

-- the path through a part
pub take-through_part : (path part : List ℕ) (at : ℕ) → part ≡ before_first is_slash (drop at path) → take (at + length part) path ≡ take at path ++ part
take-through_part path part at p =
    let count : take (length part) (drop at path) ≡ part = rw p (rw length-take (take_min (position_or_len is_slash (drop at path)) (drop at path)))
    in take-add at (length part) path ∙ ap (λ ys. take at path ++ ys) count

pub ruleset place_rules = (places_from-end, places_from-name, places_from-skip, take-through_part)

-- ---- the last that an iterator yields

last_or-map : {A B : Type 0} (f : A → B) (o : Option A) (xs : List A) → option_map f (last_or o xs) ≡ last_or (option_map f o) (map f xs)
last_or-map f o [] = refl
last_or-map f o (x ∷ xs) = last_or-map f (Some x) xs

pub last_from_yields_List : {S A B : Type 0} {steps : S → Option A → S → Type 0} {v : A → B} {s : S} {all : List B} (r : Option A) → ((xs : List A) × Drains steps s xs × (r ≡ last_or None xs)) → YieldsList steps v s all → option_map v r ≡ last_or None all
last_from_yields_List {v = v} r ran yields = ap (option_map v) ran.2 ∙ last_or-map v None ran.0 ∙ ap (last_or None) (items_from_drains ran.0 (ran.1.1.0, ran.1.1.1, λ _. (ran.1.0, ran.1.1.2)) yields)
