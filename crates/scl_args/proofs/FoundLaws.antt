use Rattle.std.proofs.Common.{◌≡◌, ℕ, Bool, true, false, cond, not, ◌||◌, inl, inr, List, [], ◌∷◌, map, filter, Option, None, Some, refl, sym, ap, subst, ◌∙◌}
use Rattle.std.specs.List.{list_all}
use Rattle.std.specs.Option.{option_map}
use Rattle.scl_values.specs.declared.argument.ArgDisposition.{ArgDisposition}
use Rattle.scl_values.specs.Each.{Each, Has}
use Rattle.scl_args.specs.Options.{is_of, is_raw, last_by, texts}
use Rattle.scl_values.specs.Row.{Row, Shape, bare, apart, joined, either}
use Rattle.scl_values.specs.Tables.{owner_in, all_rows}
use Rattle.scl_values.specs.Cuts.{Cut, raw, unknown, flag, with_value, cut}
use Rattle.scl_values.specs.Seen.{Seen, shown, flag_of, text_of}
use Rattle.scl_values.specs.Seen as plain
use Rattle.scl_args.proofs.OwnerLaws.{owner_in-is}
use Rattle.scl_tables.proofs.PrefixLemmas.{both}
use Rattle.scl_args.specs.OwnWords.{is_bare}
use Rattle.scl_args.specs.Origins.{ValueCame}
use Rattle.scl_args.specs.Reads.{Reads}
use Rattle.scl_args.proofs.AgainChecks.{implied}
use Rattle.scl_args.proofs.FilterLaws.{from-last}
use Rattle.scl_args.proofs.OriginLaws.{CameUnmarked, all_unmarked, cut_came, value_row}
use Rattle.scl_args.proofs.ReadsLaws.{reads-flag, reads-raw}

-- ---- options of a cutting that a filter found

module _ {K : Type 0} (tables : List (List (Row K))) (dashes : Bool) where
  pub record IsFound (p : Seen K → Bool) (o : Seen K) : Type 0 where
    pub passes : p o ≡ true
    pub option : Cut K
    pub came : CameUnmarked (owner_in tables) dashes option
    pub is : shown option ≡ o

  found-filter : (p : Seen K → Bool) (cs : List (Cut K)) → Each (CameUnmarked (owner_in tables) dashes) cs → Each (IsFound p) (filter p (map shown cs))
  found-filter p [] h = tt
  found-filter p (c ∷ cs) h =
      elim (p (shown c)) as (λ b. p (shown c) ≡ b → Each (IsFound p) (cond b (shown c ∷ filter p (map shown cs)) (filter p (map shown cs)))) [
        | true ↦ λ e. (record { passes = e; option = c; came = h.0; is = refl }, found-filter p cs h.1)
        | false ↦ λ e. found-filter p cs h.1
      ] refl

  abbrev seen_in : List (List ℕ) → List (Seen K)
  seen_in words = map shown (cut (owner_in tables) dashes words).options

  pub found : (p : Seen K → Bool) (words : List (List ℕ)) → Each (IsFound p) (filter p (seen_in words))
  found p words = let cs = (cut (owner_in tables) dashes words).options in
      found-filter p cs (all_unmarked (owner_in tables) dashes cs (cut_came (owner_in tables) dashes (all_rows tables) (owner_in-is tables) words))

  from-flag : (p : Seen K → Bool) (o : Option (Seen K)) (f : List ℕ) → ((x : Seen K) → o ≡ Some x → IsFound p x) → option_map flag_of o ≡ Some f → (x : Seen K) × IsFound p x × (flag_of x ≡ f)
  from-flag p None f h e = absurd (cc)
  from-flag p (Some x) f h e = (x, h x refl, cc)

  -- the option that has the flag of the last one
  pub last-flag : (p : Seen K → Bool) (words : List (List ℕ)) (f : List ℕ) → option_map flag_of (last_by p (seen_in words)) ≡ Some f → (x : Seen K) × IsFound p x × (flag_of x ≡ f)
  last-flag p words f e = from-flag p (last_by p (seen_in words)) f (λ x l. from-last (IsFound p) (filter p (seen_in words)) x (found p words) l) e

  only-text : (p : Seen K → Bool) (os : List (Seen K)) (x : List ℕ) → Each (IsFound p) os → map text_of os ≡ x ∷ [] → (o : Seen K) × IsFound p o × (text_of o ≡ x)
  only-text p [] x h e = absurd (cc)
  only-text p (o ∷ os) x h e = (o, h.0, cc)

  -- the option that has the only text
  pub one-text : (p : Seen K → Bool) (words : List (List ℕ)) (x : List ℕ) → texts p (seen_in words) ≡ x ∷ [] → (o : Seen K) × IsFound p o × (text_of o ≡ x)
  one-text p words x e = only-text p (filter p (seen_in words)) x (found p words) e

-- ---- a raw word, printed again

module _ {K : Type 0} (tables : List (List (Row K))) (p : Seen K → Bool) (raws : (o : Seen K) → p o ≡ true → is_raw o ≡ true) where
  raw-cut : (c : Cut K) → CameUnmarked (owner_in tables) false c → is_raw (shown c) ≡ true → Reads (owner_in tables) false (text_of (shown c) ∷ []) (plain.raw (text_of (shown c)) ∷ [])
  raw-cut (raw w) came e = let r = came refl in reads-raw (owner_in tables) false w r.no_owner r.no_dash r.no_mark
  raw-cut (unknown w) came e = absurd (cc)
  raw-cut (flag row) came e = absurd (cc)
  raw-cut (with_value row v h) came e = absurd (cc)

  pub raw-again : (o : Seen K) → IsFound tables false p o → Reads (owner_in tables) false (text_of o ∷ []) (plain.raw (text_of o) ∷ [])
  raw-again o f = subst (λ x. Reads (owner_in tables) false (text_of x ∷ []) (plain.raw (text_of x) ∷ [])) f.is
      (raw-cut f.option f.came (raws (shown f.option) (ap p f.is ∙ f.passes)))

-- ---- a flag that takes no value, printed again

module _ {K : Type 0} (tables : List (List (Row K))) (dashes : Bool) (t : K → Bool) (bare_rows : list_all (λ row. not (t row.kind) || is_bare row.shape) (all_rows tables) ≡ true)
    (k : K) (only : (x : K) → t x ≡ true → x ≡ k) (p : Seen K → Bool) (by_kind : (o : Seen K) → p o ≡ is_of t o) where
  passes : (rows : List (Row K)) (row : Row K) → list_all (λ row. not (t row.kind) || is_bare row.shape) rows ≡ true → Has rows row → t row.kind ≡ true → is_bare row.shape ≡ true
  passes [] row h has e = absurd has
  passes (x ∷ rows) row h (inl same) e =
      let one = both (not (t x.kind) || is_bare x.shape) (list_all (λ row. not (t row.kind) || is_bare row.shape) rows) h in
      ap (λ r. is_bare r.shape) (sym same) ∙ implied (t x.kind) (is_bare x.shape) one.0 (ap (λ r. t r.kind) same ∙ e)
  passes (x ∷ rows) row h (inr has) e = passes rows row (both (not (t x.kind) || is_bare x.shape) (list_all (λ row. not (t row.kind) || is_bare row.shape) rows) h).1 has e

  no-value : (row : Row K) (s : Shape) (v : List ℕ) (h : ArgDisposition) → is_bare s ≡ true → ValueCame (owner_in tables) dashes row s v h → ⊥
  no-value row bare v h e c = c
  no-value row apart v h e c = absurd (cc)
  no-value row (joined d) v h e c = absurd (cc)
  no-value row (either d) v h e c = absurd (cc)

  flag-cut : (c : Cut K) → CameUnmarked (owner_in tables) dashes c → is_of t (shown c) ≡ true → Reads (owner_in tables) dashes (flag_of (shown c) ∷ []) (plain.flag (flag_of (shown c)) k ∷ [])
  flag-cut (raw w) came e = absurd (cc)
  flag-cut (unknown w) came e = absurd (cc)
  flag-cut (flag row) came e = subst (λ x. Reads (owner_in tables) dashes (row.flag ∷ []) (plain.flag row.flag x ∷ [])) (only row.kind e) (reads-flag (owner_in tables) dashes row came.1 came.0)
  flag-cut (with_value row v h) came e =
      absurd (no-value row row.shape v h (passes (all_rows tables) row bare_rows (value_row (owner_in tables) dashes (all_rows tables) (owner_in-is tables) row row.shape v h came) e) came)

  pub flag-again : (o : Seen K) → IsFound tables dashes p o → Reads (owner_in tables) dashes (flag_of o ∷ []) (plain.flag (flag_of o) k ∷ [])
  flag-again o f = subst (λ x. Reads (owner_in tables) dashes (flag_of x ∷ []) (plain.flag (flag_of x) k ∷ [])) f.is
      (flag-cut f.option f.came (sym (by_kind (shown f.option)) ∙ (ap p f.is ∙ f.passes)))
