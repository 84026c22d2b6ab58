use Rattle.std.proofs.Common.{◌≡◌, ℕ, Bool, true, false, cond, not, ◌&&◌, ◌||◌, inl, inr, List, [], ◌∷◌, ◌++◌, map, filter, Option, refl, sym, ap, subst, ◌∙◌}
use Rattle.std.specs.List.{list_any}
use Rattle.std.specs.Str.{bytes_eq}
use Rattle.scl_values.specs.declared.argument.ArgDisposition.{ArgDisposition}
use Rattle.scl_args.specs.Options.{first_is, is_behind_dashes, is_dashes, is_raw, texts}
use Rattle.scl_values.specs.Row.{Row, Shape, bare, apart, joined, either}
use Rattle.scl_values.specs.Cuts.{mark, Cut, raw, unknown, flag, with_value, cut, starts_with_dash}
use Rattle.scl_values.specs.Each.{Each}
use Rattle.scl_values.specs.Seen.{Seen, Raw, shown, text_of}
use Rattle.scl_values.specs.Seen as plain
use Rattle.scl_values.specs.Tables.{owner_in, all_rows}
use Rattle.scl_args.proofs.OwnerLaws.{owner_in-is}
use Rattle.scl_tables.proofs.PrefixLemmas.{both}
use Rattle.scl_args.specs.Origins.{FirstRaw, IsInput, Owns, ValueCame, Came}
use Rattle.scl_args.specs.Reads.{Reads}
use Rattle.scl_args.proofs.FilterLaws.{not-passed}
use Rattle.scl_args.proofs.InputLaws.{first_raw}
use Rattle.scl_args.proofs.OriginLaws.{owned_word, CameUnmarked, all_unmarked, cut_came}
use Rattle.scl_args.proofs.ReadsLaws.{reads-apart, reads-either_apart}

no-mark : (w : List ℕ) → starts_with_dash w ≡ false → bytes_eq w mark ≡ false
no-mark [] e = refl
no-mark (x ∷ w) e = rw e refl

module _ {K : Type 0} (o : Seen K) (os : List (Seen K)) where
  first-text : (b : Bool) (x : List ℕ) → b ≡ true → map text_of (cond b (o ∷ os) os) ≡ x ∷ [] → text_of o ≡ x
  first-text true x t e = cc
  first-text false x t e = absurd (cc)

  no-first : (b : Bool) → b ≡ true → is_dashes o ≡ true → first_is is_dashes (cond b (o ∷ os) os) ≡ false → ⊥
  no-first true t d e = let no : true ≡ false = sym d ∙ e in cc
  no-first false t d e = cc

-- a raw word other than the mark
abbrev pub raw_input : {K : Type 0} → Seen K → Bool
raw_input o = is_raw o && not (is_dashes o)

module _ {K : Type 0} (own : List ℕ → Option (Row K)) (dashes : Bool) where
  abbrev counts : Seen K → Bool
  counts o = is_dashes o || raw_input o

  raw-dashes : (w : List ℕ) → bytes_eq w mark ≡ true → counts (Raw w) ≡ true
  raw-dashes w e = rw e refl

  one-raw : (cs : List (Cut K)) (x : List ℕ) → FirstRaw own dashes cs → is_behind_dashes raw_input (map shown cs) ≡ false → texts raw_input (map shown cs) ≡ x ∷ [] → IsInput own dashes x
  one-raw [] x f first t = absurd (cc)
  one-raw (raw w ∷ cs) x (inl i) first t = subst (λ y. IsInput own dashes y) (first-text (Raw w) (filter raw_input (map shown cs)) (raw_input {K = K} (Raw w)) x (ap not (no-mark w i.no_dash)) t) i
  one-raw (raw w ∷ cs) x (inr m) first t =
      let d : bytes_eq w mark ≡ true = (both dashes (bytes_eq w mark) m).1 in
      absurd (no-first (Raw w) (filter counts (map shown cs)) (counts (Raw w)) (raw-dashes w d) d first)
  one-raw (unknown w ∷ cs) x f first t = one-raw cs x f first t
  one-raw (flag row ∷ cs) x f first t = one-raw cs x f first t
  one-raw (with_value row v h ∷ cs) x f first t = one-raw cs x f first t

  -- the only raw word before which there is no mark has no owner
  pub raw-is_input : (ws : List (List ℕ)) (x : List ℕ) → let os = map shown (cut own dashes ws).options in
      texts raw_input os ≡ x ∷ [] → is_behind_dashes raw_input os ≡ false → IsInput own dashes x
  raw-is_input ws x t first = one-raw (cut own dashes ws).options x (first_raw own dashes ws) first t

-- the flag of an option with another value, printed apart
module _ {K : Type 0} (own : List ℕ → Option (Row K)) (dashes : Bool) (rows : List (Row K)) (changing joining : Row K → Bool)
    (owns-flag : (row : Row K) (word : List ℕ) → Owns own dashes word row → changing row ≡ true → Owns own dashes row.flag row)
    (covers : (row : Row K) (d : Option ℕ) → row.shape ≡ either d → changing row ≡ true) where
  pub another-value : (row : Row K) (s : Shape) (v : List ℕ) (h : ArgDisposition) (other : List ℕ) → row.shape ≡ s → ((d : Option ℕ) → s ≡ joined d → ⊥) → ValueCame own dashes row s v h
      → Reads own dashes (row.flag ∷ (other ∷ [])) (plain.value row.flag row.kind other ∷ [])
  another-value row bare v h other e n c = absurd c
  another-value row apart v h other e n c = reads-apart own dashes row other e c.1
  another-value row (joined d) v h other e n c = absurd (n d refl)
  another-value row (either d) v h other e n c = reads-either_apart own dashes row d other e (let w = owned_word own dashes row d v h c in owns-flag row w.0 w.1 (covers row d e))

-- if no mark ends the options, no option is one
module _ {K : Type 0} (own : List ℕ → Option (Row K)) (dashes : Bool) (unmarked : dashes ≡ false) (q : Seen K → Bool) where
  no-dashes : (c : Cut K) → CameUnmarked own dashes c → is_dashes (shown c) ≡ false
  no-dashes (raw w) came = no-mark w (came unmarked).no_dash
  no-dashes (unknown w) came = refl
  no-dashes (flag row) came = refl
  no-dashes (with_value row v h) came = refl

  no-first_dashes : (cs : List (Cut K)) → Each (CameUnmarked own dashes) cs → first_is is_dashes (filter q (map shown cs)) ≡ false
  no-first_dashes [] came = refl
  no-first_dashes (c ∷ cs) came = elim (q (shown c)) as (λ b. first_is is_dashes (cond b (shown c ∷ filter q (map shown cs)) (filter q (map shown cs))) ≡ false) [
    | true ↦ no-dashes c came.0
    | false ↦ no-first_dashes cs came.1
  ]

-- an input is after the mark only if a mark ends the options
pub marked-dashes : {K : Type 0} (tables : List (List (Row K))) (dashes : Bool) (ws : List (List ℕ)) (p : Seen K → Bool) →
    is_behind_dashes p (map shown (cut (owner_in tables) dashes ws).options) ≡ true → dashes ≡ true
marked-dashes tables dashes ws p m = elim dashes as (λ b. dashes ≡ b → b ≡ true) [
  | true ↦ λ e. refl
  | false ↦ λ e. let cs = (cut (owner_in tables) dashes ws).options in
      sym (no-first_dashes (owner_in tables) dashes e (λ o. is_dashes o || p o) cs
      (all_unmarked (owner_in tables) dashes cs (cut_came (owner_in tables) dashes (all_rows tables) (owner_in-is tables) ws))) ∙ m
] refl

-- an option of a kind comes before the mark and all raw words after it
module _ {K : Type 0} (tables : List (List (Row K))) (dashes : Bool) (q p : Seen K → Bool) (of_raw : (w : List ℕ) → q (Raw w) ≡ false) (implies : (o : Seen K) → q o ≡ true → p o ≡ true) where
  none-marked : (ws : List (List ℕ)) → list_any q (map shown (map raw ws)) ≡ true → ⊥
  none-marked [] e = cc
  none-marked (w ∷ ws) e = none-marked ws (sym (ap (λ b. b || list_any q (map shown (map raw ws))) (of_raw w)) ∙ e)

  not-dashes : (c : Cut K) → Came (owner_in tables) dashes c → is_dashes (shown c) ≡ false
  not-dashes (raw w) came = no-mark w came.no_dash
  not-dashes (unknown w) came = refl
  not-dashes (flag row) came = refl
  not-dashes (with_value row v h) came = refl

  abbrev seen_first : List (Seen K) → Bool
  seen_first os = first_is is_dashes (filter (λ o. is_dashes o || p o) os)

  first-known : (cs : List (Cut K)) (ws : List (List ℕ)) → Each (Came (owner_in tables) dashes) cs → list_any q (map shown (cs ++ map raw ws)) ≡ true → seen_first (map shown (cs ++ map raw ws)) ≡ false
  first-known [] ws came e = absurd (none-marked ws e)
  first-known (c ∷ cs) ws came e =
      let none : is_dashes (shown c) ≡ false = not-dashes c came.0 in
      let rest : List (Seen K) = map shown (cs ++ map raw ws) in
      ap (λ b. first_is is_dashes (cond (b || p (shown c)) (shown c ∷ filter (λ o. is_dashes o || p o) rest) (filter (λ o. is_dashes o || p o) rest))) none
      ∙ (elim (p (shown c)) as (λ b. p (shown c) ≡ b → first_is is_dashes (cond b (shown c ∷ filter (λ o. is_dashes o || p o) rest) (filter (λ o. is_dashes o || p o) rest)) ≡ false) [
        | true ↦ λ f. none
        | false ↦ λ f. first-known cs ws came.1 (sym (ap (λ b. b || list_any q rest) (not-passed q p implies (shown c) f)) ∙ e)
      ] refl)

  -- so no mark comes before the first of them
  pub known-first : (ws : List (List ℕ)) → let os = map shown (cut (owner_in tables) dashes ws).options in list_any q os ≡ true → is_behind_dashes p os ≡ false
  known-first ws e =
      let all = cut_came (owner_in tables) dashes (all_rows tables) (owner_in-is tables) ws in
      ap (λ cs. seen_first (map shown cs)) all.in_order ∙ first-known all.unmarked all.marked all.came (ap (λ cs. list_any q (map shown cs)) (sym all.in_order) ∙ e)
