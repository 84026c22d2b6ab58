-- The first verdict on a list of options, in the terms of the subject.
use Rattle.std.specs.Prelude.{◌≡◌, List, [], ◌∷◌, ◌++◌, Option, Some, None, MatchOption}
use Rattle.scl_values.specs.Seen.{Seen}
use Rattle.scl_args.specs.Options.{first_verdict}

-- no option of the list has a verdict; each is judged given those before it
abbrev pub HasNoVerdict : {K V : Type 0} → (List (Seen K) → Seen K → Option V) → List (Seen K) → Type 0
HasNoVerdict {K = K} verdict os = (before : List (Seen K)) (option : Seen K) (after : List (Seen K)) → os ≡ before ++ option ∷ after → verdict before option ≡ None

-- an option of the list has this verdict, judged given those before it, and none of those has one
pub record IsFirstVerdict {K V : Type 0} (verdict : List (Seen K) → Seen K → Option V) (os : List (Seen K)) (v : V) : Type 0 where
  pub before : List (Seen K)
  pub option : Seen K
  pub after : List (Seen K)
  pub splits : os ≡ before ++ option ∷ after
  pub has_verdict : verdict before option ≡ Some v
  pub none_before : HasNoVerdict verdict before

-- the first verdict is that of an option which has one while none before it has; there is no first verdict only if no option
-- has one
abbrev pub FirstVerdictIsFirst : Type 0 → Type 0 → Type 0
FirstVerdictIsFirst K V = (verdict : List (Seen K) → Seen K → Option V) (os : List (Seen K)) → MatchOption (first_verdict verdict [] os) (HasNoVerdict verdict os) (IsFirstVerdict verdict os)
