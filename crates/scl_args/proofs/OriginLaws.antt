use Rattle.std.proofs.Common.{◌≡◌, ℕ, Bool, true, false, cond, ◌&&◌, List, [], ◌∷◌, ◌++◌, length, drop, map, Option, None, Some, refl, sym, ap, subst, ◌∙◌}
use Rattle.std.proofs.lemmas.List.{append-nil}
use Rattle.std.specs.Str.{bytes_eq}
use Rattle.scl_args.specs.Laws.{IsLongestFit}
use Rattle.scl_values.specs.Each.{Each, Has}
use Rattle.scl_values.specs.declared.argument.ArgDisposition.{ArgDisposition}
use Rattle.scl_values.specs.declared.argument.ArgDisposition.TheVariants as how
use Rattle.scl_values.specs.Row.{Row, Shape, bare, apart, joined, either, joins}
use Rattle.scl_values.specs.Tables.{owner}
use Rattle.scl_values.specs.Cuts.{Cut, raw, unknown, flag, with_value, clean, Cutting, Piece, whole, needs_value, ends_options, piece_at, owned_piece, piece_of, after_delimiter, without_value, before, cut, last_piece, all_raw, starts_with_dash}
use Rattle.scl_args.specs.Origins.{is_mark, Owns, StandsEither, ValueCame, Came, HasNoOwner, BeginsWithMark, AllCame}
use Rattle.scl_tables.proofs.PrefixLemmas.{fits-split}
use Rattle.scl_args.proofs.OwnerLaws.{owner_is}

-- the word that an either row owns
pub owned_word : {K : Type 0} (own : List ℕ → Option (Row K)) (dashes : Bool) (row : Row K) (d : Option ℕ) (v : List ℕ) (h : ArgDisposition) → StandsEither own dashes row d v h → (word : List ℕ) × Owns own dashes word row
owned_word own dashes row d v how.Separated s = absurd s
owned_word own dashes row d v (how.CanBeConcatenated e) s = (row.flag, s.1)
owned_word own dashes row d v (how.CanBeSeparated e) s = (row.flag ++ s.1.0 ∷ s.1.1, s.1.2)
owned_word own dashes row d v (how.Concatenated e) s = (row.flag, s.2)

-- if no mark ends the options, a raw one too came from a word without an owner
abbrev pub CameUnmarked : {K : Type 0} → (List ℕ → Option (Row K)) → Bool → Cut K → Type 0
CameUnmarked own dashes (raw w) = dashes ≡ false → Came own dashes (raw w)
CameUnmarked own dashes (unknown w) = Came own dashes (unknown w)
CameUnmarked own dashes (flag row) = Came own dashes (flag row)
CameUnmarked own dashes (with_value row v h) = Came own dashes (with_value row v h)

module _ {K : Type 0} (own : List ℕ → Option (Row K)) (dashes : Bool) where
  came_unmarked : (c : Cut K) → Came own dashes c → CameUnmarked own dashes c
  came_unmarked (raw w) h = λ _. h
  came_unmarked (unknown w) h = h
  came_unmarked (flag row) h = h
  came_unmarked (with_value row v h) c = c

  marks : (word : List ℕ) → is_mark dashes word ≡ true → dashes ≡ true
  marks word h = elim dashes as (λ b. (b && bytes_eq word (45 ∷ (45 ∷ []))) ≡ true → b ≡ true) [ true ↦ λ _. refl | false ↦ λ e. absurd (cc) ] h

  raw_unmarked : (words : List (List ℕ)) → dashes ≡ true → Each (CameUnmarked own dashes) (map raw words)
  raw_unmarked [] e = tt
  raw_unmarked (w ∷ words) e = (λ f. absurd (let no : true ≡ false = sym e ∙ f in cc), raw_unmarked words e)

  marked_unmarked : (words : List (List ℕ)) → BeginsWithMark dashes words → Each (CameUnmarked own dashes) (map raw words)
  marked_unmarked [] m = tt
  marked_unmarked (w ∷ words) m = raw_unmarked (w ∷ words) (marks w m)

  parts_unmarked : (cs : List (Cut K)) (words : List (List ℕ)) → Each (Came own dashes) cs → BeginsWithMark dashes words → Each (CameUnmarked own dashes) (cs ++ map raw words)
  parts_unmarked [] words h m = marked_unmarked words m
  parts_unmarked (c ∷ cs) words h m = (came_unmarked c h.0, parts_unmarked cs words h.1 m)

  pub all_unmarked : (options : List (Cut K)) → AllCame own dashes options → Each (CameUnmarked own dashes) options
  all_unmarked options a = subst (λ (cs : List (Cut K)). Each (CameUnmarked own dashes) cs) (sym a.in_order) (parts_unmarked a.unmarked a.marked a.came a.mark_first)

module _ {K : Type 0} (own : List ℕ → Option (Row K)) (dashes : Bool) (rows : List (Row K)) (by_rows : (w : List ℕ) → own w ≡ owner rows w) where
  abbrev LastCame : Row K → Option ArgDisposition → Type 0
  LastCame row None = Unit {0}
  LastCame row (Some d) = Came own dashes (with_value row [] d)

  abbrev PieceCame : List ℕ → Piece K → Type 0
  PieceCame word (whole c) = Came own dashes c
  PieceCame word (needs_value row d last) = ((v : List ℕ) → Came own dashes (with_value row v d)) × LastCame row last
  PieceCame word ends_options = is_mark dashes word ≡ true

  value_came : (row : Row K) (s : Shape) (v : List ℕ) (h : ArgDisposition) → row.shape ≡ s → ValueCame own dashes row s v h → Came own dashes (with_value row v h)
  value_came row s v h e c = subst (λ t. ValueCame own dashes row t v h) (sym e) c

  last_came : (row : Row K) (d : Option ℕ) → row.shape ≡ either d → Owns own dashes row.flag row → LastCame row (without_value d)
  last_came row None e o = value_came row (either None) [] (how.Concatenated None) e (refl, refl, o, refl)
  last_came row (Some d) e o = tt

  -- a word that begins with the row's flag, by the shape and the rest
  at_came : (row : Row K) (word rest : List ℕ) (s : Shape) → row.shape ≡ s → word ≡ row.flag ++ rest → joins s rest ≡ true → Owns own dashes word row → PieceCame word (piece_at row s rest)
  at_came row word [] bare e w j o = (subst (λ u. Owns own dashes u row) (w ∙ append-nil row.flag) o, e)
  at_came row word (x ∷ xs) bare e w j o = absurd (cc)
  at_came row word [] apart e w j o = (λ v. value_came row apart v how.Separated e (refl, subst (λ u. Owns own dashes u row) (w ∙ append-nil row.flag) o), tt)
  at_came row word (x ∷ xs) apart e w j o = absurd (cc)
  at_came row word rest (joined d) e w j o = value_came row (joined d) (after_delimiter d rest) (how.Concatenated d) e (refl, (rest, subst (λ u. Owns own dashes u row) w o, j, refl))
  at_came row word [] (either d) e w j o =
      let f : Owns own dashes row.flag row = subst (λ u. Owns own dashes u row) (w ∙ append-nil row.flag) o in
      (λ v. value_came row (either d) v (how.CanBeConcatenated d) e (refl, f), last_came row d e f)
  at_came row word (x ∷ xs) (either d) e w j o = value_came row (either d) (after_delimiter d (x ∷ xs)) (how.CanBeSeparated d) e (refl, (x, xs, subst (λ u. Owns own dashes u row) w o, j, refl))

  owned_came : (word : List ℕ) (o : Option (Row K)) → own word ≡ o → is_mark dashes word ≡ false → PieceCame word (owned_piece o word)
  owned_came word None e m = elim (starts_with_dash word) as (λ b. starts_with_dash word ≡ b → Came own dashes (cond b (unknown word) (raw word))) [
    | true ↦ λ s. (e, s, m)
    | false ↦ λ s. record { no_owner = e; no_dash = s; no_mark = m }
  ] refl
  owned_came word (Some row) e m =
      let is : IsLongestFit rows word row = owner_is rows word row (sym (by_rows word) ∙ e) in
      let split = fits-split row word is.fits_word in
      at_came row word (drop (length row.flag) word) row.shape refl split.0 split.1 (record { is = e; no_mark = m })

  piece_came : (word : List ℕ) → PieceCame word (piece_of own dashes word)
  piece_came word = elim (is_mark dashes word) as (λ b. is_mark dashes word ≡ b → PieceCame word (cond b ends_options (owned_piece (own word) word))) [
    | true ↦ λ m. m
    | false ↦ λ m. owned_came word (own word) refl m
  ] refl

  abbrev CameAll : List (Cut K) → Type 0
  CameAll options = AllCame own dashes options

  none_came : CameAll []
  none_came = record { unmarked = []; marked = []; in_order = refl; came = tt; mark_first = tt }

  first_came : (c : Cut K) (cs : List (Cut K)) → Came own dashes c → CameAll cs → CameAll (c ∷ cs)
  first_came c cs h more = record { unmarked = c ∷ more.unmarked; marked = more.marked; in_order = ap (λ o. c ∷ o) more.in_order; came = (h, more.came); mark_first = more.mark_first }

  mark_came : (word : List ℕ) (words : List (List ℕ)) → is_mark dashes word ≡ true → CameAll (map raw (word ∷ words))
  mark_came word words m = record { unmarked = []; marked = word ∷ words; in_order = refl; came = tt; mark_first = m }

  last_all : (row : Row K) (last : Option ArgDisposition) → LastCame row last → CameAll (last_piece row last).options
  last_all row None h = none_came
  last_all row (Some d) h = first_came (with_value row [] d) [] h none_came

  -- each option that words are cut into came from a word of its owner or from one without an owner, up to the mark
  pub cut_came : (words : List (List ℕ)) → CameAll (cut own dashes words).options
  cut_came [] = none_came
  cut_came (word ∷ []) = elim (piece_of own dashes word) as (λ p. PieceCame word p → (let x : Cutting K = elim p [
    | whole c ↦ record { options = c ∷ []; end = clean }
    | needs_value row d last ↦ last_piece row last
    | ends_options ↦ all_raw (word ∷ [])
  ] in CameAll x.options)) [
    | whole c ↦ λ h. first_came c [] h none_came
    | needs_value row d last ↦ λ h. last_all row last h.1
    | ends_options ↦ λ h. mark_came word [] h
  ] (piece_came word)
  cut_came (word ∷ (next ∷ words)) = elim (piece_of own dashes word) as (λ p. PieceCame word p → (let x : Cutting K = elim p [
    | whole c ↦ before c (cut own dashes (next ∷ words))
    | needs_value row d last ↦ before (with_value row next d) (cut own dashes words)
    | ends_options ↦ all_raw (word ∷ (next ∷ words))
  ] in CameAll x.options)) [
    | whole c ↦ λ h. first_came c _ h (cut_came (next ∷ words))
    | needs_value row d last ↦ λ h. first_came (with_value row next d) _ (h.0 next) (cut_came words)
    | ends_options ↦ λ h. mark_came word (next ∷ words) h
  ] (piece_came word)

-- ---- rows

module _ {K : Type 0} (own : List ℕ → Option (Row K)) (dashes : Bool) (rows : List (Row K)) (by_rows : (w : List ℕ) → own w ≡ owner rows w) where
  -- a row that owns a word is one of the rows
  pub has_row : (row : Row K) (word : List ℕ) → Owns own dashes word row → Has rows row
  has_row row word o = (owner_is rows word row (sym (by_rows word) ∙ o.is)).is_row

  -- so is the row of an option with a value
  pub value_row : (row : Row K) (s : Shape) (v : List ℕ) (h : ArgDisposition) → ValueCame own dashes row s v h → Has rows row
  value_row row bare v h c = absurd c
  value_row row apart v h c = has_row row row.flag c.1
  value_row row (joined d) v h c = has_row row (row.flag ++ c.1.0) c.1.1
  value_row row (either d) v h c = let w = owned_word own dashes row d v h c in has_row row w.0 w.1

-- ---- words without an owner

module _ {K : Type 0} (own : List ℕ → Option (Row K)) (dashes : Bool) where
  no_owner : (c : Cut K) → Came own dashes c → HasNoOwner own c
  no_owner (raw w) came = came.no_owner
  no_owner (unknown w) came = came.0
  no_owner (flag row) came = tt
  no_owner (with_value row v h) came = tt

  pub none_owned : (cs : List (Cut K)) → Each (Came own dashes) cs → Each (HasNoOwner own) cs
  none_owned [] came = tt
  none_owned (c ∷ cs) came = (no_owner c came.0, none_owned cs came.1)
