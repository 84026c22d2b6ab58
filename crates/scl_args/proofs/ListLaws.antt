use Rattle.std.proofs.Common.{◌≡◌, ℕ, Bool, true, false, cond, not, ◌&&◌, inl, inr, List, [], ◌∷◌, map, filter, refl, sym, ap, subst, ◌∙◌}
use Rattle.std.specs.Str.{bytes_eq}
use Rattle.scl_values.specs.declared.argument.NormalizedDisposition.{NormalizedDisposition}
use Rattle.scl_values.specs.Each.{Each, Has}
use Rattle.scl_args.specs.Options.{list}
use Rattle.scl_values.specs.Row.{Row}
use Rattle.scl_values.specs.Tables.{owner_in, all_rows}
use Rattle.scl_values.specs.Cuts.{Cut, raw, unknown, flag, with_value, cut}
use Rattle.scl_values.specs.Seen.{Seen, shown, plain_seen}
use Rattle.scl_tables.proofs.PrefixLemmas.{both}
use Rattle.scl_args.proofs.OwnerLaws.{owner_in-is}
use Rattle.scl_args.specs.Checks.{PassChecks, has_no_kept}
use Rattle.scl_args.specs.Commands.{value_at, values_at}
use Rattle.scl_args.specs.Origins.{AreClear, IsKept}
use Rattle.scl_args.specs.Reads.{Reads}
use Rattle.scl_args.proofs.AgainLaws.{prints_again}
use Rattle.scl_args.proofs.OriginLaws.{value_row, CameUnmarked, all_unmarked, cut_came}
use Rattle.scl_args.proofs.ValuesLaws.{each-all, values_at-none}

-- the options of a list
module _ {K : Type 0} (tables : List (List (Row K))) (dashes : Bool) (kept : K → Bool) (options : List (Seen K)) (are : AreClear (owner_in tables) dashes options)
    (p : Seen K → Bool) (keeps_all : (c : Cut K) → p (shown c) ≡ true → IsKept dashes kept c) where
  abbrev cs : List (Cut K)
  cs = (cut (owner_in tables) dashes are.words).options

  pub listed-again : (to : List ℕ → NormalizedDisposition) → PassChecks tables kept to → Reads (owner_in tables) dashes (list to p options) (map plain_seen (filter p options))
  listed-again to pass = subst (λ os. Reads (owner_in tables) dashes (list to p os) (map plain_seen (filter p os))) (sym are.are)
      (prints_again tables dashes kept to pass are.words p are.clear (each-all (λ c. p (shown c) ≡ true → IsKept dashes kept c) keeps_all cs))

  -- ---- flags of which no kept option has a value

  module _ (f : List ℕ) (alone : has_no_kept kept f (all_rows tables) ≡ true) where
    row-another : (rows : List (Row K)) (row : Row K) → has_no_kept kept f rows ≡ true → Has rows row → kept row.kind ≡ true → bytes_eq row.flag f ≡ false
    row-another [] row h has k = absurd has
    row-another (x ∷ rows) row h (inl e) k =
        let ab = both (not (bytes_eq x.flag f && kept x.kind)) (has_no_kept kept f rows) h in
        let kx : kept x.kind ≡ true = ap (λ r. kept r.kind) e ∙ k in
        ap (λ r. bytes_eq r.flag f) (sym e) ∙ not_both (bytes_eq x.flag f) (kept x.kind) ab.0 kx
      where
        not_both : (a b : Bool) → not (a && b) ≡ true → b ≡ true → a ≡ false
        not_both true true h k = absurd (cc)
        not_both true false h k = absurd (cc)
        not_both false b h k = refl
    row-another (x ∷ rows) row h (inr has) k = row-another rows row (both (not (bytes_eq x.flag f && kept x.kind)) (has_no_kept kept f rows) h).1 has k

    no-value : (c : Cut K) → CameUnmarked (owner_in tables) dashes c → p (shown c) ≡ true → value_at f (plain_seen (shown c)) ≡ []
    no-value (raw w) came e = refl
    no-value (unknown w) came e = refl
    no-value (flag row) came e = refl
    no-value (with_value row v h) came e = rw (row-another (all_rows tables) row alone (value_row (owner_in tables) dashes (all_rows tables) (owner_in-is tables) row row.shape v h came) (keeps_all (with_value row v h) e)) refl

    none-of : (cs : List (Cut K)) → Each (CameUnmarked (owner_in tables) dashes) cs → Each (λ o. value_at f (plain_seen o) ≡ []) (filter p (map shown cs))
    none-of [] h = tt
    none-of (c ∷ cs) h = elim (p (shown c)) as (λ b. p (shown c) ≡ b → Each (λ o. value_at f (plain_seen o) ≡ []) (cond b (shown c ∷ filter p (map shown cs)) (filter p (map shown cs)))) [
      | true ↦ λ e. (no-value c h.0 e, none-of cs h.1)
      | false ↦ λ e. none-of cs h.1
    ] refl

    pub listed-none : values_at f (map plain_seen (filter p options)) ≡ []
    listed-none = subst (λ os. values_at f (map plain_seen (filter p os)) ≡ []) (sym are.are)
        (values_at-none f (filter p (map shown cs)) (none-of cs (all_unmarked (owner_in tables) dashes cs (cut_came (owner_in tables) dashes (all_rows tables) (owner_in-is tables) are.words))))
