use Rattle.std.proofs.Common.{◌≡◌, ℕ, Bool, true, false, not, ◌||◌, inl, inr, List, [], ◌∷◌, Option, refl, sym, ap, subst, ◌∙◌}
use Rattle.std.proofs.lemmas.List.{append-nil}
use Rattle.std.specs.List.{list_all}
use Rattle.scl_values.specs.declared.argument.NormalizedDisposition.{NormalizedDisposition}
use Rattle.scl_values.specs.Each.{Has}
use Rattle.scl_args.specs.Options.{is_of}
use Rattle.scl_values.specs.Row.{Row, joined}
use Rattle.scl_values.specs.Tables.{owner_in, all_rows}
use Rattle.scl_values.specs.Cuts.{Cut, raw, unknown, flag, with_value}
use Rattle.scl_values.specs.Seen.{Seen, shown, flag_of}
use Rattle.scl_values.specs.Seen as plain
use Rattle.scl_args.proofs.OwnerLaws.{owner_in-is}
use Rattle.scl_tables.proofs.PrefixLemmas.{both}
use Rattle.scl_args.specs.OwnWords.{may_stand_apart}
use Rattle.scl_args.specs.Checks.{PassChecks, is_changing, is_changing_shape, is_joining}
use Rattle.scl_args.specs.Origins.{is_mark, Owns}
use Rattle.scl_args.specs.Reads.{Reads}
use Rattle.scl_args.proofs.AgainChecks.{implied, owner-flag, flag-no_dash}
use Rattle.scl_args.proofs.AgainLaws.{no-mark}
use Rattle.scl_args.proofs.FoundLaws.{IsFound}
use Rattle.scl_args.proofs.MarkLaws.{another-value}
use Rattle.scl_args.proofs.OriginLaws.{CameUnmarked, has_row, value_row}

-- what holds of each element holds of this one
pub has-all : {A : Type 0} (q : A → Bool) (xs : List A) (x : A) → list_all q xs ≡ true → Has xs x → q x ≡ true
has-all q [] x h has = absurd has
has-all q (y ∷ xs) x h (inl e) = ap q (sym e) ∙ (both (q y) (list_all q xs) h).0
has-all q (y ∷ xs) x h (inr has) = has-all q xs x (both (q y) (list_all q xs) h).1 has

-- the flag of an option of this kind, with another value
module _ {K : Type 0} (tables : List (List (Row K))) (dashes : Bool) (kept : K → Bool) (to : List ℕ → NormalizedDisposition) (pass : PassChecks tables kept to)
    (t : K → Bool) (apart_rows : list_all (λ row. not (t row.kind) || may_stand_apart row.shape) (all_rows tables) ≡ true) (k : K) (only : (x : K) → t x ≡ true → x ≡ k) where
  owns-flag : (row : Row K) (word : List ℕ) → Owns (owner_in tables) dashes word row → is_changing kept row ≡ true → Owns (owner_in tables) dashes row.flag row
  owns-flag row word o c =
      let has = has_row (owner_in tables) dashes (all_rows tables) (owner_in-is tables) row word o in
      record {
        is = owner_in-is tables row.flag ∙ owner-flag (is_changing kept) (is_joining to) (all_rows tables) pass.keeps row has c;
        no_mark = ap (is_mark dashes) (sym (append-nil row.flag)) ∙ no-mark dashes row.flag [] (flag-no_dash (is_changing kept) (is_joining to) (all_rows tables) pass.keeps row has c);
      }

  stands-apart : (row : Row K) → Has (all_rows tables) row → t row.kind ≡ true → may_stand_apart row.shape ≡ true
  stands-apart row has e = implied (t row.kind) (may_stand_apart row.shape) (has-all (λ row. not (t row.kind) || may_stand_apart row.shape) (all_rows tables) row apart_rows has) e

  value-cut : (c : Cut K) → CameUnmarked (owner_in tables) dashes c → is_of t (shown c) ≡ true → (other : List ℕ)
      → Reads (owner_in tables) dashes (flag_of (shown c) ∷ other ∷ []) (plain.value (flag_of (shown c)) k other ∷ [])
  value-cut (raw w) came e other = absurd (cc)
  value-cut (unknown w) came e other = absurd (cc)
  value-cut (flag row) came e other =
      let yes : may_stand_apart row.shape ≡ true = stands-apart row (has_row (owner_in tables) dashes (all_rows tables) (owner_in-is tables) row row.flag came.0) e in
      absurd (let no : false ≡ true = sym (ap may_stand_apart came.1) ∙ yes in cc)
  value-cut (with_value row v h) came e other =
      let yes : may_stand_apart row.shape ≡ true = stands-apart row (value_row (owner_in tables) dashes (all_rows tables) (owner_in-is tables) row row.shape v h came) e in
      let no_joined : (d : Option ℕ) → row.shape ≡ joined d → ⊥ = λ d s. let no : false ≡ true = sym (ap may_stand_apart s) ∙ yes in cc in
      subst (λ x. Reads (owner_in tables) dashes (row.flag ∷ other ∷ []) (plain.value row.flag x other ∷ [])) (only row.kind e)
      (another-value (owner_in tables) dashes (all_rows tables) (is_changing kept) (is_joining to) owns-flag (λ row d s. ap (is_changing_shape (kept row.kind)) s)
      row row.shape v h other refl no_joined came)

  pub other-value : (p : Seen K → Bool) (by_kind : (o : Seen K) → p o ≡ is_of t o) (o : Seen K) → IsFound tables dashes p o → (other : List ℕ)
      → Reads (owner_in tables) dashes (flag_of o ∷ other ∷ []) (plain.value (flag_of o) k other ∷ [])
  other-value p by_kind o f other = subst (λ x. Reads (owner_in tables) dashes (flag_of x ∷ other ∷ []) (plain.value (flag_of x) k other ∷ [])) f.is
      (value-cut f.option f.came (sym (by_kind (shown f.option)) ∙ (ap p f.is ∙ f.passes)) other)

-- what holds of each row of some kinds holds of the flags of options of these kinds
module _ {K : Type 0} (tables : List (List (Row K))) (dashes : Bool) (t : K → Bool) where
  flag-cut : (q : List ℕ → Bool) → list_all (λ row. not (t row.kind) || q row.flag) (all_rows tables) ≡ true → (c : Cut K) → CameUnmarked (owner_in tables) dashes c
      → is_of t (shown c) ≡ true → q (flag_of (shown c)) ≡ true
  flag-cut q all (raw w) came e = absurd (cc)
  flag-cut q all (unknown w) came e = absurd (cc)
  flag-cut q all (flag row) came e = implied (t row.kind) (q row.flag) (has-all (λ row. not (t row.kind) || q row.flag) (all_rows tables) row all
      (has_row (owner_in tables) dashes (all_rows tables) (owner_in-is tables) row row.flag came.0)) e
  flag-cut q all (with_value row v h) came e = implied (t row.kind) (q row.flag) (has-all (λ row. not (t row.kind) || q row.flag) (all_rows tables) row all
      (value_row (owner_in tables) dashes (all_rows tables) (owner_in-is tables) row row.shape v h came)) e

  pub flag-so : (q : List ℕ → Bool) → list_all (λ row. not (t row.kind) || q row.flag) (all_rows tables) ≡ true → (p : Seen K → Bool) (by_kind : (o : Seen K) → p o ≡ is_of t o)
      → (o : Seen K) → IsFound tables dashes p o → q (flag_of o) ≡ true
  flag-so q all p by_kind o f = subst (λ x. q (flag_of x) ≡ true) f.is (flag-cut q all f.option f.came (sym (by_kind (shown f.option)) ∙ (ap p f.is ∙ f.passes)))
