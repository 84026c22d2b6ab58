-- Options, and the words that they were cut from.
use Rattle.std.proofs.Common.{◌≡◌, ℕ, Bool, true, false, cond, ◌&&◌, ◌==◌, List, [], ◌∷◌, ◌++◌, length, drop, map, Option, None, Some, refl, sym, ap, subst, ◌∙◌, arith}
use Rattle.std.proofs.lemmas.Bool.Decides.{nat_tests}
use Rattle.std.proofs.lemmas.List.{append-nil}
use Rattle.std.specs.Str.{bytes_eq}
use Rattle.scl_values.specs.declared.argument.ArgDisposition.{ArgDisposition}
use Rattle.scl_values.specs.declared.argument.ArgDisposition.TheVariants as how
use Rattle.scl_values.specs.Row.{Row, Shape, bare, apart, joined, either, joins}
use Rattle.scl_values.specs.Tables.{owner_in}
use Rattle.scl_values.specs.Cuts.{Cut, raw, unknown, with_value, End, Piece, whole, needs_value, ends_options, piece_at, owned_piece, piece_of, after_delimiter, without_value, last_piece, starts_with_dash, cut}
use Rattle.scl_cutting.specs.Relation.{CutsInto, nothing, option, option_and_value, last_word, ended}
use Rattle.scl_values.specs.Seen.{shown}
use Rattle.scl_values.specs.Spell.{spelled, delimited}
use Rattle.scl_args.specs.Printed.{CutFrom, as_printed, with_delimiter, AllCutFrom, IsLeftAt}
use Rattle.scl_tables.proofs.TablesLemmas.{owner_in_fits}
use Rattle.scl_tables.proofs.PrefixLemmas.{fits-split}
use Rattle.scl_cutting.proofs.RelationLaws.{cuts}

equal : (x y : ℕ) → (x == y) ≡ true → x ≡ y
equal x y h = grind (arith, nat_tests)

same : (x : ℕ) → (x == x) ≡ true
same x = grind (arith, nat_tests)

module _ {K : Type 0} (tables : List (List (Row K))) (dashes : Bool) where
  abbrev own : List ℕ → Option (Row K)
  own = owner_in tables

  -- how the options of a piece were cut from its word, and from the next if it needs one
  abbrev LastFrom : Row K → Option ArgDisposition → List ℕ → Type 0
  LastFrom row None word = Unit {0}
  LastFrom row (Some h) word = CutFrom (with_value row [] h) (word ∷ [])

  record NeedsFrom (word : List ℕ) (row : Row K) (h : ArgDisposition) (last : Option ArgDisposition) : Type 0 where
    owns : own row.flag ≡ Some row
    is : word ≡ row.flag
    next : (value : List ℕ) → CutFrom (with_value row value h) (word ∷ (value ∷ []))
    alone : LastFrom row last word

  abbrev PieceFrom : List ℕ → Piece K → Type 0
  PieceFrom word (whole c) = CutFrom c (word ∷ [])
  PieceFrom word (needs_value row h last) = NeedsFrom word row h last
  PieceFrom word ends_options = Unit {0}

  -- a value in its flag's word
  in_word : (row : Row K) (d : Option ℕ) (h : ArgDisposition) (rest : List ℕ) → joins (joined d) rest ≡ true → ((v : List ℕ) → spelled (shown (with_value row v h)) ≡ (row.flag ++ delimited d v) ∷ [])
      → ((e : ℕ) → d ≡ Some e → CutFrom (with_value row [] h) ((row.flag ++ e ∷ []) ∷ []))
      → CutFrom (with_value row (after_delimiter d rest) h) ((row.flag ++ rest) ∷ [])
  in_word row None h [] j s e = as_printed (sym (s []))
  in_word row None h (x ∷ xs) j s e = as_printed (sym (s (x ∷ xs)))
  in_word row (Some d) h [] j s e = as_printed (sym (s []))
  in_word row (Some d) h (x ∷ xs) j s e =
      let is : d ≡ x = equal d x j in
      rw (← is, same d) (behind xs)
    where
      behind : (v : List ℕ) → CutFrom (with_value row v h) ((row.flag ++ (d ∷ v)) ∷ [])
      behind [] = e d refl
      behind (y ∷ ys) = as_printed (sym (s (y ∷ ys)))

  at_from : (row : Row K) (word rest : List ℕ) (s : Shape) → own word ≡ Some row → word ≡ row.flag ++ rest → joins s rest ≡ true → PieceFrom word (piece_at row s rest)
  at_from row word [] bare o w j = as_printed (ap (λ u. u ∷ []) (w ∙ append-nil row.flag))
  at_from row word (x ∷ xs) bare o w j = absurd (cc)
  at_from row word [] apart o w j =
      let is : word ≡ row.flag = w ∙ append-nil row.flag in
      record { owns = subst (λ u. own u ≡ Some row) is o; is = is; next = λ v. as_printed (ap (λ u. u ∷ (v ∷ [])) is); alone = tt }
  at_from row word (x ∷ xs) apart o w j = absurd (cc)
  at_from row word rest (joined d) o w j =
      subst (λ u. CutFrom (with_value row (after_delimiter d rest) (how.Concatenated d)) (u ∷ [])) (sym w)
      (in_word row d (how.Concatenated d) rest j (λ v. refl) (λ e i. with_delimiter row e (how.Concatenated d) refl i refl))
  at_from row word [] (either d) o w j =
      let is : word ≡ row.flag = w ∙ append-nil row.flag in
      record { owns = subst (λ u. own u ≡ Some row) is o; is = is; next = λ v. as_printed (ap (λ u. u ∷ (v ∷ [])) is); alone = empty d is }
    where
      empty : (e : Option ℕ) → word ≡ row.flag → LastFrom row (without_value e) word
      empty None is = as_printed (ap (λ u. u ∷ []) (is ∙ sym (append-nil row.flag)))
      empty (Some e) is = tt
  at_from row word (x ∷ xs) (either d) o w j =
      subst (λ u. CutFrom (with_value row (after_delimiter d (x ∷ xs)) (how.CanBeSeparated d)) (u ∷ [])) (sym w)
      (in_word row d (how.CanBeSeparated d) (x ∷ xs) j (λ v. refl) (λ e i. with_delimiter row e (how.CanBeSeparated d) refl i refl))

  owned_from : (word : List ℕ) (o : Option (Row K)) → own word ≡ o → PieceFrom word (owned_piece o word)
  owned_from word None e = elim (starts_with_dash word) as (λ b. let c : Cut K = cond b (unknown word) (raw word) in CutFrom c (word ∷ [])) [ true ↦ as_printed refl | false ↦ as_printed refl ]
  owned_from word (Some row) e =
      let split = fits-split row word (owner_in_fits tables word row (sym e)) in
      at_from row word (drop (length row.flag) word) row.shape e split.0 split.1

  piece_from : (word : List ℕ) → PieceFrom word (piece_of own dashes word)
  piece_from word = elim (dashes && bytes_eq word (45 ∷ 45 ∷ [])) as (λ b. PieceFrom word (cond b ends_options (owned_piece (own word) word))) [
    | true ↦ tt
    | false ↦ owned_from word (own word) refl
  ]

  at : (word : List ℕ) (p : Piece K) → piece_of own dashes word ≡ p → PieceFrom word p
  at word p e = subst (PieceFrom word) e (piece_from word)

  -- all the options of words
  abbrev AllFrom : List (List ℕ) → List (Cut K) → End → Type 0
  AllFrom words cs e = (left : List (List ℕ)) × AllCutFrom cs words left × IsLeftAt own e left

  raws_from : (words : List (List ℕ)) → let cs : List (Cut K) = map raw words in AllCutFrom cs words []
  raws_from [] = refl
  raws_from (word ∷ words) = (word ∷ [], words, refl, as_printed refl, raws_from words)

  last_from : (word : List ℕ) (row : Row K) (h : ArgDisposition) (last : Option ArgDisposition) → NeedsFrom word row h last → AllFrom (word ∷ []) (last_piece row last).options (last_piece row last).end
  last_from word row h None n = (word ∷ [], refl, (row, n.owns, ap (λ w. w ∷ []) n.is))
  last_from word row h (Some last) n = ([], (word ∷ [], [], refl, n.alone, refl), refl)

  all_from : (words : List (List ℕ)) (cs : List (Cut K)) (e : End) → CutsInto own dashes words cs e → AllFrom words cs e
  all_from _ _ _ nothing = ([], refl, refl)
  all_from _ _ _ (option word c words cs e p more) = let rest = all_from words cs e more in (rest.0, (word ∷ [], words, refl, at word (whole c) p, rest.1), rest.2)
  all_from _ _ _ (option_and_value word value row d last words cs e p more) =
      let rest = all_from words cs e more in
      (rest.0, (word ∷ (value ∷ []), words, refl, (at word (needs_value row d last) p).next value, rest.1), rest.2)
  all_from _ _ _ (last_word word row d last p) = last_from word row d last (at word (needs_value row d last) p)
  all_from _ _ _ (ended word words p) = ([], raws_from (word ∷ words), refl)

  pub prints_what_was_cut : (words : List (List ℕ)) → AllFrom words (cut own dashes words).options (cut own dashes words).end
  prints_what_was_cut words = all_from words _ _ (cuts own dashes words)
