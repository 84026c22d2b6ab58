-- A word with an intended owner has one of the rows that may own it.
use Rattle.std.proofs.Common.{◌≡◌, ℕ, Bool, true, false, ◌&&◌, ◌||◌, List, [], ◌∷◌, Option, None, Some, refl, ap, ◌∙◌, ◌⊎◌, inl, inr, arith}
use Rattle.std.proofs.lemmas.Bool.{and_parts}
use Rattle.std.proofs.lemmas.Slice.Eq.{bytes_eq-Decides}
use Rattle.std.specs.Str.{bytes_eq}
use Rattle.scl_values.specs.Cuts.{mark}
use Rattle.scl_values.specs.Row.{Row, Shape, row, bare, apart, joined, either}
use Rattle.scl_values.specs.Seen as plain
use Rattle.scl_values.specs.Tables.{owner_in}
use Rattle.scl_args.specs.Origins.{is_mark}
use Rattle.scl_args.specs.OwnWords.{is_delimiter, is_shape, is_row, is_one_of}
use Rattle.scl_args.specs.Reads.{Reads}
use Rattle.scl_args.proofs.ReadsLaws.{reads-apart, reads-either_apart}

same-delimiter : (d e : Option ℕ) → is_delimiter d e ≡ true → d ≡ e
same-delimiter None None h = refl
same-delimiter None (Some e) h = absurd (cc)
same-delimiter (Some d) None h = absurd (cc)
same-delimiter (Some d) (Some e) h = grind arith

same-shape : (s t : Shape) → is_shape s t ≡ true → s ≡ t
same-shape bare bare h = refl
same-shape apart apart h = refl
same-shape (joined d) (joined e) h = ap joined (same-delimiter d e h)
same-shape (either d) (either e) h = ap either (same-delimiter d e h)
same-shape _ _ h = absurd (cc)

module _ {K : Type 0} (is_kind : K → K → Bool) (same-kind : (a b : K) → is_kind a b ≡ true → a ≡ b) where
  same-row : (a b : Row K) → is_row is_kind a b ≡ true → a ≡ b
  same-row a b h =
      let flags = and_parts (bytes_eq a.flag b.flag) (is_kind a.kind b.kind && is_shape a.shape b.shape) h in
      let rest = and_parts (is_kind a.kind b.kind) (is_shape a.shape b.shape) flags.1 in
      let f : a.flag ≡ b.flag = (bytes_eq-Decides a.flag b.flag).0 flags.0 in
      ap (λ x. row x a.kind a.shape) f ∙ (ap (λ x. row b.flag x a.shape) (same-kind a.kind b.kind rest.0) ∙ ap (λ x. row b.flag b.kind x) (same-shape a.shape b.shape rest.1))

  pub one-of : (found : Option (Row K)) (a : Row K) → is_one_of is_kind found (a ∷ []) ≡ true → found ≡ Some a
  one-of None a h = absurd (cc)
  one-of (Some x) a h = elim (is_row is_kind x a) as (λ b. is_row is_kind x a ≡ b → (b || false) ≡ true → Some x ≡ Some a) [
    | true ↦ λ e _. ap Some (same-row x a e)
    | false ↦ λ _ no. absurd (cc)
  ] refl h

  pub one-of-two : (found : Option (Row K)) (a b : Row K) → is_one_of is_kind found (a ∷ b ∷ []) ≡ true → (found ≡ Some a) ⊎ (found ≡ Some b)
  one-of-two None a b h = absurd (cc)
  one-of-two (Some x) a b h = elim (is_row is_kind x a) as (λ t. is_row is_kind x a ≡ t → (t || (is_row is_kind x b || false)) ≡ true → (Some x ≡ Some a) ⊎ (Some x ≡ Some b)) [
    | true ↦ λ e _. inl (ap Some (same-row x a e))
    | false ↦ λ _ rest. inr (one-of (Some x) b rest)
  ] refl h

-- ---- own words with a value

pub unmarked : (dashes : Bool) (word : List ℕ) → bytes_eq word mark ≡ false → is_mark dashes word ≡ false
unmarked true word e = e
unmarked false word e = refl

-- a flag that takes the next word is read with it, whether its row allows a joined value or not
pub either-way : {K : Type 0} (tables : List (List (Row K))) (dashes : Bool) (flag : List ℕ) (k : K) (value : List ℕ) → bytes_eq flag mark ≡ false →
    (owner_in tables flag ≡ Some (row flag k apart)) ⊎ (owner_in tables flag ≡ Some (row flag k (either None))) → Reads (owner_in tables) dashes (flag ∷ value ∷ []) (plain.value flag k value ∷ [])
either-way tables dashes flag k value m (inl e) = reads-apart (owner_in tables) dashes (row flag k apart) value refl (record { is = e; no_mark = unmarked dashes flag m })
either-way tables dashes flag k value m (inr e) = reads-either_apart (owner_in tables) dashes (row flag k (either None)) None value refl (record { is = e; no_mark = unmarked dashes flag m })
