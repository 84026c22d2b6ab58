-- The first verdict is the first.
use Rattle.std.proofs.Common.{◌≡◌, List, [], ◌∷◌, ◌++◌, Option, Some, None, refl, sym, ap, subst, ◌∙◌, append_assoc}
use Rattle.std.specs.Prelude.{MatchOption}
use Rattle.std.specs.Option.{option_or}
use Rattle.std.proofs.lemmas.List.{append-nil}
use Rattle.scl_values.specs.Seen.{Seen}
use Rattle.scl_args.specs.Options.{first_verdict}
use Rattle.scl_text.specs.FirstVerdicts.{HasNoVerdict, IsFirstVerdict, FirstVerdictIsFirst}

module _ {K V : Type 0} (verdict : List (Seen K) → Seen K → Option V) where
  -- the same for options that follow those in front
  abbrev NoneBehind : List (Seen K) → List (Seen K) → Type 0
  NoneBehind front os = (before : List (Seen K)) (option : Seen K) (after : List (Seen K)) → os ≡ before ++ option ∷ after → verdict (front ++ before) option ≡ None

  pub record FirstBehind (front os : List (Seen K)) (v : V) : Type 0 where
    pub before : List (Seen K)
    pub option : Seen K
    pub after : List (Seen K)
    pub splits : os ≡ before ++ option ∷ after
    pub has_verdict : verdict (front ++ before) option ≡ Some v
    pub none_before : NoneBehind front before

  no-split : (before : List (Seen K)) (option : Seen K) (after : List (Seen K)) → [] ≡ before ++ option ∷ after → ⊥
  no-split [] option after e = absurd (cc)
  no-split (o ∷ before) option after e = absurd (cc)

  one-more : (front : List (Seen K)) (o : Seen K) (os : List (Seen K)) → verdict front o ≡ None → NoneBehind (front ++ o ∷ []) os → NoneBehind front (o ∷ os)
  one-more front o os none rest [] option after e =
      let same : o ≡ option = cc in
      ap (λ before. verdict before option) (append-nil front) ∙ subst (λ x. verdict front x ≡ None) same none
  one-more front o os none rest (x ∷ before) option after e =
      let same : o ≡ x = cc in
      let tail : os ≡ before ++ option ∷ after = cc in
      let is : verdict ((front ++ o ∷ []) ++ before) option ≡ None = rest before option after tail in
      subst (λ y. verdict (front ++ y ∷ before) option ≡ None) same (ap (λ all. verdict all option) (sym (append_assoc front (o ∷ []) before)) ∙ is)

  abbrev Behind : List (Seen K) → List (Seen K) → Option V → Type 0
  Behind front os found = MatchOption found (NoneBehind front os) (FirstBehind front os)

  -- an option without a verdict, before the others
  passed : (front : List (Seen K)) (o : Seen K) (os : List (Seen K)) (found : Option V) → verdict front o ≡ None → Behind (front ++ o ∷ []) os found → Behind front (o ∷ os) found
  passed front o os None none rest = one-more front o os none rest
  passed front o os (Some v) none rest = record {
    before = o ∷ rest.before;
    option = rest.option;
    after = rest.after;
    splits = ap (λ tail. o ∷ tail) rest.splits;
    has_verdict = ap (λ all. verdict all rest.option) (sym (append_assoc front (o ∷ []) rest.before)) ∙ rest.has_verdict;
    none_before = one-more front o rest.before none rest.none_before;
  }

  found-behind : (front os : List (Seen K)) → Behind front os (first_verdict verdict front os)
  found-behind front [] = λ before option after e. absurd (no-split before option after e)
  found-behind front (o ∷ os) = elim (verdict front o) as (λ said. verdict front o ≡ said → Behind front (o ∷ os) (option_or said (first_verdict verdict (front ++ o ∷ []) os))) [
    | None ↦ λ none. passed front o os (first_verdict verdict (front ++ o ∷ []) os) none (found-behind (front ++ o ∷ []) os)
    | Some v ↦ λ has. record {
      before = [];
      option = o;
      after = os;
      splits = refl;
      has_verdict = ap (λ before. verdict before o) (append-nil front) ∙ has;
      none_before = λ before option after e. absurd (no-split before option after e);
    }
  ] refl

  in-front : (os : List (Seen K)) (found : Option V) → Behind [] os found → MatchOption found (HasNoVerdict verdict os) (IsFirstVerdict verdict os)
  in-front os None none = none
  in-front os (Some v) first = record {
    before = first.before;
    option = first.option;
    after = first.after;
    splits = first.splits;
    has_verdict = first.has_verdict;
    none_before = first.none_before;
  }

pub first-verdict-is-first : {K V : Type 0} → FirstVerdictIsFirst K V
first-verdict-is-first verdict os = in-front verdict os (first_verdict verdict [] os) (found-behind verdict [] os)
