-- Empty values of either rows: they are seen, and options of which none is refused have none.
use Rattle.std.proofs.Common.{◌≡◌, ℕ, Bool, true, false, cond, ◌&&◌, ◌↔◌, List, [], ◌∷◌, ◌++◌, map, Option, None, Some, Ok, Err, refl, sym, ap, subst, ◌∙◌, if◌then◌else◌}
use Rattle.std.proofs.lemmas.List.{append-nil}
use Rattle.std.specs.Option.{option_or}
use Rattle.scl_values.specs.declared.argument.ArgDisposition.{ArgDisposition}
use Rattle.scl_values.specs.declared.argument.ArgDisposition.TheVariants as how
use Rattle.scl_values.specs.Cuts.{Cut, raw, unknown, flag, with_value, after_delimiter, cut}
use Rattle.scl_values.specs.Each.{Each}
use Rattle.scl_args.specs.Empties.{is_either, finds_either, is_empty, stands_either, has_empty_value, refusing_empty}
use Rattle.scl_args.specs.Options.{first_verdict, judged, unless}
use Rattle.scl_values.specs.Row.{Row, Shape, bare, apart, joined, either, joins}
use Rattle.scl_values.specs.Seen.{Seen, shown}
use Rattle.scl_values.specs.Tables.{all_rows, owner_in}
use Rattle.scl_args.proofs.OwnerLaws.{owner_in-is}
use Rattle.scl_args.specs.CutAgain.{EmptyValuesAreSeen, JudgedAreClear}
use Rattle.scl_args.specs.Origins.{Owns, StandsEither, ValueCame, HasSome, IsClear}
use Rattle.scl_args.proofs.OriginLaws.{CameUnmarked, all_unmarked, cut_came}
use Rattle.scl_args.proofs.OutcomeLaws.{option_or-none, unless-none, unless-ok}

-- ---- what is seen of an option that words were cut into

and-false : (b : Bool) → (b && false) ≡ false
and-false true = refl
and-false false = refl

module _ {K : Type 0} (own : List ℕ → Option (Row K)) (dashes : Bool) where
  -- a value with this disposition is seen to be empty
  abbrev sees_empty : Row K → List ℕ → ArgDisposition → Bool
  sees_empty row v h = is_empty v && stands_either own row.flag h

  shape-found : (row : Row K) (s : Shape) → row.shape ≡ s → own row.flag ≡ Some row → finds_either (own row.flag) ≡ is_either s
  shape-found row s e o = ap finds_either o ∙ ap is_either e

  either-seen : (row : Row K) (d : Option ℕ) (h : ArgDisposition) → row.shape ≡ either d → StandsEither own dashes row d [] h → stands_either own row.flag h ≡ true
  either-seen row d how.Separated e s = absurd s
  either-seen row d (how.CanBeConcatenated x) e s = refl
  either-seen row d (how.CanBeSeparated x) e s = refl
  either-seen row d (how.Concatenated None) e s = shape-found row (either d) e s.2.is
  either-seen row d (how.Concatenated (Some x)) e s = absurd (let some : Some x ≡ None = s.1 in cc)

  joined-unseen : (row : Row K) (d : Option ℕ) (v : List ℕ) → row.shape ≡ joined d
      → ((rest : List ℕ) × Owns own dashes (row.flag ++ rest) row × (joins (joined d) rest ≡ true) × (v ≡ after_delimiter d rest))
      → sees_empty row v (how.Concatenated d) ≡ false
  joined-unseen row d (x ∷ v) e s = refl
  joined-unseen row (Some x) [] e s = refl
  joined-unseen row None [] e s =
      let is : own (row.flag ++ []) ≡ Some row = subst (λ r. own (row.flag ++ r) ≡ Some row) (sym s.3) s.1.is in
      shape-found row (joined None) e (ap own (sym (append-nil row.flag)) ∙ is)

  clear-where-unseen : (row : Row K) (s : Shape) (v : List ℕ) (h : ArgDisposition) → row.shape ≡ s → ValueCame own dashes row s v h → sees_empty row v h ≡ false → HasSome s v
  clear-where-unseen row bare v h e came unseen = tt
  clear-where-unseen row apart v h e came unseen = tt
  clear-where-unseen row (joined d) v h e came unseen = tt
  clear-where-unseen row (either d) (x ∷ v) h e came unseen = tt
  clear-where-unseen row (either d) [] h e came unseen = absurd (let both : true ≡ false = sym (either-seen row d h e came) ∙ unseen in cc)

  unseen-where-clear : (row : Row K) (s : Shape) (v : List ℕ) (h : ArgDisposition) → row.shape ≡ s → ValueCame own dashes row s v h → HasSome s v → sees_empty row v h ≡ false
  unseen-where-clear row bare v h e came some = absurd came
  unseen-where-clear row apart v h e came some = subst (λ x. sees_empty row v x ≡ false) (sym came.0) (and-false (is_empty v))
  unseen-where-clear row (joined d) v h e came some = subst (λ x. sees_empty row v x ≡ false) (sym came.0) (joined-unseen row d v e came.1)
  unseen-where-clear row (either d) [] h e came some = absurd some
  unseen-where-clear row (either d) (x ∷ v) h e came some = refl

  seen : (c : Cut K) → CameUnmarked own dashes c → (has_empty_value own (shown c) ≡ false) ↔ IsClear c
  seen (raw w) came = (λ unseen. tt, λ clear. refl)
  seen (unknown w) came = (λ unseen. tt, λ clear. refl)
  seen (flag row) came = (λ unseen. tt, λ clear. refl)
  seen (with_value row v h) came = (clear-where-unseen row row.shape v h refl came, unseen-where-clear row row.shape v h refl came)

  all-seen : (cs : List (Cut K)) → Each (CameUnmarked own dashes) cs → Each (λ c. (has_empty_value own (shown c) ≡ false) ↔ IsClear c) cs
  all-seen [] came = tt
  all-seen (c ∷ cs) came = (seen c came.0, all-seen cs came.1)

unmarked : {K : Type 0} (tables : List (List (Row K))) (dashes : Bool) (words : List (List ℕ)) → Each (CameUnmarked (owner_in tables) dashes) (cut (owner_in tables) dashes words).options
unmarked tables dashes words = all_unmarked (owner_in tables) dashes _ (cut_came (owner_in tables) dashes (all_rows tables) (owner_in-is tables) words)

-- an option is seen to have an empty value exactly if it is not clear
pub empty_values_are_seen : {K : Type 0} → EmptyValuesAreSeen K
empty_values_are_seen tables dashes words = all-seen (owner_in tables) dashes _ (unmarked tables dashes words)

-- ---- options of which none is refused

not-refused : {V : Type 0} (b : Bool) (empty : V) (said : Option V) → cond b (Some empty) said ≡ None → (b ≡ false) × (said ≡ None)
not-refused true empty said e = absurd (cc)
not-refused false empty said e = (refl, e)

module _ {K V : Type 0} (own : List ℕ → Option (Row K)) (empty : V) (verdict : List (Seen K) → Seen K → Option V) where
  -- they have no other verdict
  none-else : (before os : List (Seen K)) → first_verdict (refusing_empty own empty verdict) before os ≡ None → first_verdict verdict before os ≡ None
  none-else before [] e = refl
  none-else before (o ∷ os) e =
      let both = option_or-none (refusing_empty own empty verdict before o) (first_verdict (refusing_empty own empty verdict) (before ++ o ∷ []) os) e in
      let said = not-refused (has_empty_value own o) empty (verdict before o) both.0 in
      ap (λ x. option_or x (first_verdict verdict (before ++ o ∷ []) os)) said.1 ∙ none-else (before ++ o ∷ []) os both.1

  -- so they pass the judge without the test of empty values
  pub judged-else : (dangling : V) (os : List (Seen K)) (dangles : Bool) (xs : List (Seen K)) → judged (refusing_empty own empty verdict) dangling os dangles ≡ Ok xs → judged verdict dangling os dangles ≡ Ok xs
  judged-else dangling os dangles xs e =
      ap (λ x. unless x (if dangles then Err dangling else Ok os)) (none-else [] os (unless-none (first_verdict (refusing_empty own empty verdict) [] os) _ xs e))
      ∙ unless-ok (first_verdict (refusing_empty own empty verdict) [] os) _ xs e

  -- and none has an empty value
  none-empty : (before : List (Seen K)) (cs : List (Cut K)) → Each (λ c. (has_empty_value own (shown c) ≡ false) ↔ IsClear c) cs
      → first_verdict (refusing_empty own empty verdict) before (map shown cs) ≡ None → Each IsClear cs
  none-empty before [] see e = tt
  none-empty before (c ∷ cs) see e =
      let both = option_or-none (refusing_empty own empty verdict before (shown c)) (first_verdict (refusing_empty own empty verdict) (before ++ shown c ∷ []) (map shown cs)) e in
      let said = not-refused (has_empty_value own (shown c)) empty (verdict before (shown c)) both.0 in
      (see.0.0 said.0, none-empty (before ++ shown c ∷ []) cs see.1 both.1)

-- if empty values are refused first and no option is refused, the options are clear
pub judged-clear : {K V : Type 0} → JudgedAreClear K V
judged-clear tables dashes words empty verdict dangling options e =
    let c = cut (owner_in tables) dashes words in
    none-empty (owner_in tables) empty verdict [] c.options (empty_values_are_seen tables dashes words)
    (unless-none (first_verdict (refusing_empty (owner_in tables) empty verdict) [] (map shown c.options)) _ options e)
