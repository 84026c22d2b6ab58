-- Printed options name no response file if they were given none: each word that they print is their flag, their value, or
-- begins with their flag.
use Rattle.std.proofs.Common.{◌≡◌, ℕ, Bool, true, false, cond, not, ◌||◌, ◌==◌, List, [], ◌∷◌, ◌++◌, map, filter, Option, None, Some, refl, subst}
use Rattle.std.specs.List.{flat_map}
use Rattle.std.specs.Option.{option_map}
use Rattle.std.specs.Prelude.{unwrap_or}
use Rattle.scl_values.specs.declared.argument.ArgDisposition.{ArgDisposition}
use Rattle.scl_values.specs.declared.argument.ArgDisposition.TheVariants as how
use Rattle.scl_values.specs.declared.argument.NormalizedDisposition.{NormalizedDisposition}
use Rattle.scl_values.specs.Cuts.{Cut, raw, unknown, flag, with_value, cut}
use Rattle.scl_values.specs.Each.{Each, Has}
use Rattle.scl_args.specs.Options.{last_by, list, spelled_on, texts}
use Rattle.scl_values.specs.Row.{Row}
use Rattle.scl_values.specs.Seen.{Seen, Raw, Unknown, Known, shown, flag_of, text_of}
use Rattle.scl_values.specs.Spell.{delimited, normal_how, spell_value}
use Rattle.scl_values.specs.Tables.{owner_in, all_rows}
use Rattle.scl_args.specs.Wrapped.{wrapped_apart, wrapped_joined}
use Rattle.scl_args.proofs.OwnerLaws.{owner_in-is}
use Rattle.scl_args.specs.NoFiles.{NamesNoFile, GivesNoFile, is_plain_flag, has_plain_flags}
use Rattle.scl_args.proofs.AgainChecks.{implied}
use Rattle.scl_args.proofs.FilterLaws.{from-last}
use Rattle.scl_args.proofs.OriginLaws.{CameUnmarked, all_unmarked, cut_came, has_row, value_row}
use Rattle.scl_args.proofs.OtherValueLaws.{has-all}

-- ---- words

pub each-append : {A : Type 0} (P : A → Type 0) (xs ys : List A) → Each P xs → Each P ys → Each P (xs ++ ys)
each-append P [] ys h k = k
each-append P (x ∷ xs) ys h k = (h.0, each-append P xs ys h.1 k)

-- what begins with a plain word names no file
pub plain-first : (f rest : List ℕ) → is_plain_flag f ≡ true → NamesNoFile (f ++ rest)
plain-first [] rest e = absurd (cc)
plain-first (x ∷ f) rest e = elim (x == 64) as (λ b. not b ≡ true → b ≡ false) [ true ↦ λ n. absurd (cc) | false ↦ λ n. refl ] e

pub plain-itself : (f : List ℕ) → is_plain_flag f ≡ true → NamesNoFile f
plain-itself [] e = refl
plain-itself (x ∷ f) e = plain-first (x ∷ []) f e

-- ---- one option

-- the flag of the option, if it has one, has a first byte, and that is not @
abbrev pub HasPlainFlag : {K : Type 0} → Seen K → Type 0
HasPlainFlag (Raw w) = Unit {0}
HasPlainFlag (Unknown w) = Unit {0}
HasPlainFlag (Known f k v h) = is_plain_flag f ≡ true

value-words : (f v : List ℕ) (d : ArgDisposition) → is_plain_flag f ≡ true → NamesNoFile v → Each NamesNoFile (spell_value f v d)
value-words f v how.Separated p n = (plain-itself f p, (n, tt))
value-words f v (how.CanBeConcatenated d) p n = (plain-itself f p, (n, tt))
value-words f v (how.CanBeSeparated d) p n = (plain-first f (delimited d v) p, tt)
value-words f v (how.Concatenated d) p n = (plain-first f (delimited d v) p, tt)

option-words : {K : Type 0} (to : List ℕ → NormalizedDisposition) (o : Seen K) → GivesNoFile o → HasPlainFlag o → Each NamesNoFile (spelled_on to o)
option-words to (Raw w) n p = (n, tt)
option-words to (Unknown w) n p = (n, tt)
option-words to (Known f k v None) n p = (plain-itself f p, tt)
option-words to (Known f k v (Some d)) n p = value-words f v (normal_how (to f) d) p n

pub flag-none : {K : Type 0} (o : Seen K) → HasPlainFlag o → NamesNoFile (flag_of o)
flag-none (Raw w) p = refl
flag-none (Unknown w) p = refl
flag-none (Known f k v h) p = plain-itself f p

-- ---- options of rows with plain flags

module _ {K : Type 0} (tables : List (List (Row K))) (dashes : Bool) (t : K → Bool) (plain : has_plain_flags t (all_rows tables) ≡ true) where
  abbrev own : List ℕ → Option (Row K)
  own = owner_in tables

  plain-row : (row : Row K) → Has (all_rows tables) row → t row.kind ≡ true → is_plain_flag row.flag ≡ true
  plain-row row has e = implied (t row.kind) (is_plain_flag row.flag) (has-all (λ row. not (t row.kind) || is_plain_flag row.flag) (all_rows tables) row plain has) e

  module _ (p : Seen K → Bool) (keeps : (f : List ℕ) (k : K) (v : List ℕ) (h : Option ArgDisposition) → p (Known f k v h) ≡ true → t k ≡ true) where
    plain-cut : (c : Cut K) → CameUnmarked own dashes c → p (shown c) ≡ true → HasPlainFlag (shown c)
    plain-cut (raw w) came e = tt
    plain-cut (unknown w) came e = tt
    plain-cut (flag row) came e = plain-row row (has_row own dashes (all_rows tables) (owner_in-is tables) row row.flag came.0) (keeps row.flag row.kind [] None e)
    plain-cut (with_value row v h) came e = plain-row row (value_row own dashes (all_rows tables) (owner_in-is tables) row row.shape v h came) (keeps row.flag row.kind v (Some h) e)

    plain-filter : (cs : List (Cut K)) → Each (CameUnmarked own dashes) cs → Each HasPlainFlag (filter p (map shown cs))
    plain-filter [] came = tt
    plain-filter (c ∷ cs) came = elim (p (shown c)) as (λ b. p (shown c) ≡ b → Each HasPlainFlag (cond b (shown c ∷ filter p (map shown cs)) (filter p (map shown cs)))) [
      | true ↦ λ e. (plain-cut c came.0 e, plain-filter cs came.1)
      | false ↦ λ e. plain-filter cs came.1
    ] refl

    -- the options of the words that pass have plain flags
    pub plain-found : (words : List (List ℕ)) → Each HasPlainFlag (filter p (map shown (cut own dashes words).options))
    plain-found words = let cs = (cut own dashes words).options in
        plain-filter cs (all_unmarked own dashes cs (cut_came own dashes (all_rows tables) (owner_in-is tables) words))

-- ---- lists

module _ {K : Type 0} (p : Seen K → Bool) where
  pub passed : (P : Seen K → Type 0) (os : List (Seen K)) → Each P os → Each P (filter p os)
  passed P [] h = tt
  passed P (o ∷ os) h = elim (p o) as (λ b. Each P (cond b (o ∷ filter p os) (filter p os))) [ true ↦ (h.0, passed P os h.1) | false ↦ passed P os h.1 ]

  list-words : (to : List ℕ → NormalizedDisposition) (os : List (Seen K)) → Each GivesNoFile os → Each HasPlainFlag os → Each NamesNoFile (flat_map (spelled_on to) os)
  list-words to [] n f = tt
  list-words to (o ∷ os) n f = each-append NamesNoFile (spelled_on to o) (flat_map (spelled_on to) os) (option-words to o n.0 f.0) (list-words to os n.1 f.1)

  -- the words of a list
  pub listed-none : (to : List ℕ → NormalizedDisposition) (os : List (Seen K)) → Each GivesNoFile os → Each HasPlainFlag (filter p os) → Each NamesNoFile (list to p os)
  listed-none to os n f = list-words to (filter p os) (passed GivesNoFile os n) f

  texts-of : (os : List (Seen K)) → Each GivesNoFile os → Each NamesNoFile (map text_of os)
  texts-of [] h = tt
  texts-of (o ∷ os) h = (h.0, texts-of os h.1)

  -- the only text
  pub one-none : (os : List (Seen K)) (x : List ℕ) → Each GivesNoFile os → texts p os ≡ x ∷ [] → NamesNoFile x
  one-none os x n e = (subst (λ xs. Each NamesNoFile xs) e (texts-of (filter p os) (passed GivesNoFile os n))).0

-- words after a wrapper
module _ (wrapper : List ℕ) (plain : is_plain_flag wrapper ≡ true) where
  pub apart-none : (ws : List (List ℕ)) → Each NamesNoFile ws → Each NamesNoFile (flat_map (wrapped_apart wrapper) ws)
  apart-none [] h = tt
  apart-none (w ∷ ws) h = (plain-itself wrapper plain, (h.0, apart-none ws h.1))

  pub joined-none : (ws : List (List ℕ)) → Each NamesNoFile (flat_map (wrapped_joined wrapper) ws)
  joined-none [] = tt
  joined-none (w ∷ ws) = (plain-first wrapper w plain, joined-none ws)

-- ---- last ones

module _ {K : Type 0} (P : Seen K → Type 0) (f : Seen K → List ℕ) (gives : (o : Seen K) → P o → NamesNoFile (f o)) where
  -- what the option says, or another word that names no file
  or-other : (o : Option (Seen K)) (other : List ℕ) → ((x : Seen K) → o ≡ Some x → P x) → NamesNoFile other → NamesNoFile (unwrap_or (option_map f o) other)
  or-other None other h n = n
  or-other (Some x) other h n = gives x (h x refl)

  pub last-none : (p : Seen K → Bool) (os : List (Seen K)) (other : List ℕ) → Each P (filter p os) → NamesNoFile other → NamesNoFile (unwrap_or (option_map f (last_by p os)) other)
  last-none p os other h n = or-other (last_by p os) other (λ x l. from-last P (filter p os) x h l) n
