use Rattle.std.proofs.Common.{◌≡◌, ℕ, Bool, true, false, cond, ◌==◌, List, [], ◌∷◌, ◌++◌, map, filter, Option, None, Some, refl, sym, ap, subst, nat_eq, ◌∙◌, arith}
use Rattle.std.proofs.lemmas.Bool.Decides.{nat_tests}
use Rattle.std.proofs.lemmas.List.{append-nil}
use Rattle.std.specs.List.{starts_with, flat_map}
use Rattle.std.specs.Str.{bytes_eq}
use Rattle.scl_values.specs.declared.argument.NormalizedDisposition.{NormalizedDisposition}
use Rattle.scl_values.specs.declared.argument.NormalizedDisposition.TheVariants as side
use Rattle.scl_args.specs.Options.{spelled_on}
use Rattle.scl_values.specs.Spell.{spell_value, normal_how, delimited}
use Rattle.scl_values.specs.Each.{Each, Has}
use Rattle.scl_values.specs.declared.argument.ArgDisposition.{ArgDisposition}
use Rattle.scl_values.specs.declared.argument.ArgDisposition.TheVariants as how
use Rattle.scl_values.specs.Row.{Row, Shape, bare, apart, joined, either, joins}
use Rattle.scl_values.specs.Tables.{owner, owner_in, all_rows}
use Rattle.scl_values.specs.Cuts.{Cut, raw, unknown, flag, with_value, after_delimiter}
use Rattle.scl_values.specs.Seen.{plain, plain_seen, Seen, shown}
use Rattle.scl_values.specs.Seen as plain
use Rattle.scl_args.specs.Reads.{Reads}
use Rattle.scl_args.specs.Checks.{extends, keeps_flags, joins_safely, is_changing, is_changing_shape, is_joining, is_together}
use Rattle.scl_args.specs.Origins.{is_mark, Owns, StandsEither, ValueCame, HasSome, IsClear, IsKept, FirstIsOwned, PrintsOwned}
use Rattle.scl_tables.proofs.PrefixLemmas.{both}
use Rattle.scl_args.proofs.OriginLaws.{owned_word, has_row, CameUnmarked, all_unmarked, cut_came}
use Rattle.scl_args.specs.CutAgain.{PrintsAgain, PrintedWordsHaveTheirOwner}
use Rattle.scl_args.proofs.OwnerLaws.{owner_in-is}
use Rattle.scl_args.proofs.AgainChecks.{owner-flag, flag-no_dash, owner-joined}
use Rattle.scl_args.proofs.ReadsLaws.{reads-flag, reads-apart, reads-either_apart, reads-joined, reads-either_joined, reads-unknown, reads-raw, reads-append, reads-nil}

eq-starts : (f rest word : List ℕ) → bytes_eq (f ++ rest) word ≡ true → starts_with nat_eq word f ≡ true
eq-starts [] rest word h = refl
eq-starts (x ∷ f) rest [] h = absurd (cc)
eq-starts (x ∷ f) rest (y ∷ word) h =
    let ab = both (nat_eq x y) (bytes_eq (f ++ rest) word) h in
    rw (ab.0) (eq-starts f rest word ab.1)

-- a word that begins with a flag is not the mark, if the mark does not begin with the flag
pub no-mark : (dashes : Bool) (f rest : List ℕ) → extends (45 ∷ (45 ∷ [])) f ≡ false → is_mark dashes (f ++ rest) ≡ false
no-mark dashes f rest e =
    elim (is_mark dashes (f ++ rest)) as (λ b. is_mark dashes (f ++ rest) ≡ b → b ≡ false) [
      | true ↦ λ h.
          let is : starts_with nat_eq (45 ∷ (45 ∷ [])) f ≡ true = eq-starts f rest (45 ∷ (45 ∷ [])) (both dashes (bytes_eq (f ++ rest) (45 ∷ (45 ∷ []))) h).1 in
          sym is ∙ e
      | false ↦ λ h. refl
    ] refl

equal : (x y : ℕ) → (x == y) ≡ true → x ≡ y
equal x y h = grind (arith, nat_tests)

same : (d : ℕ) → (d == d) ≡ true
same d = grind (arith, nat_tests)

joins-delimited : (d : Option ℕ) (x : ℕ) (xs : List ℕ) → joins (either d) (delimited d (x ∷ xs)) ≡ true
joins-delimited None x xs = refl
joins-delimited (Some d) x xs = same d

module _ {K : Type 0} (own : List ℕ → Option (Row K)) (dashes : Bool) (rows : List (Row K)) (by_rows : (w : List ℕ) → own w ≡ owner rows w)
    (kept : K → Bool) (to : List ℕ → NormalizedDisposition) (changing joining : Row K → Bool)
    (covers : (row : Row K) → is_changing kept row ≡ true → changing row ≡ true) (joins_too : (row : Row K) → is_joining to row ≡ true → joining row ≡ true)
    (keeps : keeps_flags changing rows ≡ true) (safe : joins_safely joining rows rows ≡ true) where
  abbrev Again : Row K → List ℕ → ArgDisposition → NormalizedDisposition → Type 0
  Again row v h s = Reads own dashes (spell_value row.flag v (normal_how s h)) (plain.value row.flag row.kind v ∷ [])

  owns-flag : (row : Row K) → Has rows row → changing row ≡ true → Owns own dashes row.flag row
  owns-flag row has c = record {
    is = by_rows row.flag ∙ owner-flag changing joining rows keeps row has c;
    no_mark = ap (is_mark dashes) (sym (append-nil row.flag)) ∙ no-mark dashes row.flag [] (flag-no_dash changing joining rows keeps row has c);
  }

  owns-joined : (row : Row K) (d : Option ℕ) (x : ℕ) (xs : List ℕ) → Has rows row → row.shape ≡ either d → is_together (to row.flag) ≡ true → Owns own dashes (row.flag ++ delimited d (x ∷ xs)) row
  owns-joined row d x xs has s t =
      let c : changing row ≡ true = covers row (ap (is_changing_shape (kept row.kind)) s) in
      let k : is_joining to row ≡ true = rw (s, t) refl in
      let j : joining row ≡ true = joins_too row k in
      let r : joins row.shape (delimited d (x ∷ xs)) ≡ true = ap (λ h. joins h (delimited d (x ∷ xs))) s ∙ joins-delimited d x xs in
      record {
        is = by_rows (row.flag ++ delimited d (x ∷ xs)) ∙ owner-joined changing joining rows keeps row has c safe j (delimited d (x ∷ xs)) r;
        no_mark = no-mark dashes row.flag (delimited d (x ∷ xs)) (flag-no_dash changing joining rows keeps row has c);
      }

  owns-either_flag : (row : Row K) (d : Option ℕ) → row.shape ≡ either d → Has rows row → Owns own dashes row.flag row
  owns-either_flag row d s has = owns-flag row has (covers row (ap (is_changing_shape (kept row.kind)) s))

  owns-either_joined : (row : Row K) (d : Option ℕ) (v : List ℕ) → row.shape ≡ either d → Has rows row → HasSome (either d) v → is_together (to row.flag) ≡ true → Owns own dashes (row.flag ++ delimited d v) row
  owns-either_joined row d [] s has some t = absurd some
  owns-either_joined row d (x ∷ xs) s has some t = owns-joined row d x xs has s t

  again-either_apart : (row : Row K) (d : Option ℕ) (v : List ℕ) → row.shape ≡ either d → Has rows row → Reads own dashes (row.flag ∷ (v ∷ [])) (plain.value row.flag row.kind v ∷ [])
  again-either_apart row d v s has = reads-either_apart own dashes row d v s (owns-either_flag row d s has)

  again-either_joined : (row : Row K) (d : Option ℕ) (v : List ℕ) → row.shape ≡ either d → Has rows row → HasSome (either d) v → is_together (to row.flag) ≡ true → Reads own dashes ((row.flag ++ delimited d v) ∷ []) (plain.value row.flag row.kind v ∷ [])
  again-either_joined row d [] s has some t = absurd some
  again-either_joined row d (x ∷ xs) s has some t = reads-either_joined own dashes row d x xs s (owns-joined row d x xs has s t)

  again-either : (row : Row K) (d : Option ℕ) (v : List ℕ) (h : ArgDisposition) (s : NormalizedDisposition) → row.shape ≡ either d → Has rows row → HasSome (either d) v → to row.flag ≡ s → StandsEither own dashes row d v h → Again row v h s
  again-either row d v how.Separated s e has some t k = absurd k
  again-either row d v (how.CanBeConcatenated f) side.Concatenated e has some t k = again-either_joined row f v (e ∙ ap either k.0) has (subst (λ g. HasSome (either g) v) k.0 some) (ap is_together t)
  again-either row d v (how.CanBeConcatenated f) side.Separated e has some t k = again-either_apart row d v e has
  again-either row d v (how.CanBeSeparated f) side.Concatenated e has some t k = again-either_joined row f v (e ∙ ap either k.0) has (subst (λ g. HasSome (either g) v) k.0 some) (ap is_together t)
  again-either row d v (how.CanBeSeparated f) side.Separated e has some t k = again-either_apart row d v e has
  again-either row d [] (how.Concatenated f) s e has some t k = absurd some
  again-either row d (x ∷ xs) (how.Concatenated f) s e has some t k = absurd (let n : x ∷ xs ≡ [] = k.0 in cc)

  owns-cat_delimiter : (row : Row K) (d x : ℕ) (xs : List ℕ) → row.shape ≡ joined (Some d) → kept row.kind ≡ true → d ≡ x → Owns own dashes (row.flag ++ (x ∷ xs)) row → Owns own dashes (row.flag ++ delimited (Some d) (after_delimiter (Some d) (x ∷ xs))) row
  owns-cat_delimiter row d x [] s k e o =
      let f : Owns own dashes row.flag row = owns-flag row (has_row own dashes rows by_rows row (row.flag ++ (x ∷ [])) o) (covers row (ap (is_changing_shape (kept row.kind)) s ∙ k)) in
      let g : Owns own dashes (row.flag ++ []) row = subst (λ u. Owns own dashes u row) (sym (append-nil row.flag)) f in
      rw (← e, same d) g
  owns-cat_delimiter row d x (y ∷ ys) s k e o =
      let g : Owns own dashes (row.flag ++ (d ∷ (y ∷ ys))) row = subst (λ u. Owns own dashes (row.flag ++ (u ∷ (y ∷ ys))) row) (sym e) o in
      rw (← e, same d) g

  -- the word that an option of a joined row prints is owned by the row
  owns-cat : (row : Row K) (d : Option ℕ) (rest : List ℕ) → row.shape ≡ joined d → kept row.kind ≡ true → joins (joined d) rest ≡ true → Owns own dashes (row.flag ++ rest) row → Owns own dashes (row.flag ++ delimited d (after_delimiter d rest)) row
  owns-cat row None [] s k j o = o
  owns-cat row (Some d) [] s k j o = o
  owns-cat row None (x ∷ xs) s k j o = o
  owns-cat row (Some d) (x ∷ xs) s k j o = owns-cat_delimiter row d x xs s k (equal d x j) o

  owns-joined_value : (row : Row K) (d : Option ℕ) (v : List ℕ) (h : ArgDisposition) → row.shape ≡ joined d → kept row.kind ≡ true → ValueCame own dashes row (joined d) v h → Owns own dashes (row.flag ++ delimited d v) row
  owns-joined_value row d v h e k came = subst (λ u. Owns own dashes (row.flag ++ delimited d u) row) (sym came.1.3) (owns-cat row d came.1.0 e k came.1.2 came.1.1)

  has-either : (row : Row K) (d : Option ℕ) (v : List ℕ) (h : ArgDisposition) → StandsEither own dashes row d v h → Has rows row
  has-either row d v h came = let w = owned_word own dashes row d v h came in has_row own dashes rows by_rows row w.0 w.1

  again-shape : (row : Row K) (s : Shape) (v : List ℕ) (h : ArgDisposition) → row.shape ≡ s → ValueCame own dashes row s v h → HasSome s v → kept row.kind ≡ true → Again row v h (to row.flag)
  again-shape row bare v h e came some k = absurd came
  again-shape row apart v h e came some k = elim (to row.flag) as (λ s. Again row v h s) [
    | side.Concatenated ↦ rw came.0 (reads-apart own dashes row v e came.1)
    | side.Separated ↦ rw came.0 (reads-apart own dashes row v e came.1)
  ]
  again-shape row (joined d) v h e came some k =
      let o = owns-joined_value row d v h e k came in
      elim (to row.flag) as (λ s. Again row v h s) [
        | side.Concatenated ↦ rw came.0 (reads-joined own dashes row d v e o)
        | side.Separated ↦ rw came.0 (reads-joined own dashes row d v e o)
      ]
  again-shape row (either d) v h e came some k = again-either row d v h (to row.flag) e (has-either row d v h came) some refl came

  abbrev Owned : Row K → List ℕ → ArgDisposition → NormalizedDisposition → Type 0
  Owned row v h s = FirstIsOwned own dashes row (spell_value row.flag v (normal_how s h))

  owned-either : (row : Row K) (d : Option ℕ) (v : List ℕ) (h : ArgDisposition) (s : NormalizedDisposition) → row.shape ≡ either d → Has rows row → HasSome (either d) v → to row.flag ≡ s → StandsEither own dashes row d v h → Owned row v h s
  owned-either row d v how.Separated s e has some t k = absurd k
  owned-either row d v (how.CanBeConcatenated f) side.Concatenated e has some t k = owns-either_joined row f v (e ∙ ap either k.0) has (subst (λ g. HasSome (either g) v) k.0 some) (ap is_together t)
  owned-either row d v (how.CanBeConcatenated f) side.Separated e has some t k = owns-either_flag row d e has
  owned-either row d v (how.CanBeSeparated f) side.Concatenated e has some t k = owns-either_joined row f v (e ∙ ap either k.0) has (subst (λ g. HasSome (either g) v) k.0 some) (ap is_together t)
  owned-either row d v (how.CanBeSeparated f) side.Separated e has some t k = owns-either_flag row d e has
  owned-either row d [] (how.Concatenated f) s e has some t k = absurd some
  owned-either row d (x ∷ xs) (how.Concatenated f) s e has some t k = absurd (let n : x ∷ xs ≡ [] = k.0 in cc)

  owned-shape : (row : Row K) (s : Shape) (v : List ℕ) (h : ArgDisposition) → row.shape ≡ s → ValueCame own dashes row s v h → HasSome s v → kept row.kind ≡ true → Owned row v h (to row.flag)
  owned-shape row bare v h e came some k = absurd came
  owned-shape row apart v h e came some k = elim (to row.flag) as (λ s. Owned row v h s) [
    | side.Concatenated ↦ rw came.0 came.1
    | side.Separated ↦ rw came.0 came.1
  ]
  owned-shape row (joined d) v h e came some k =
      let o = owns-joined_value row d v h e k came in
      elim (to row.flag) as (λ s. Owned row v h s) [
        | side.Concatenated ↦ rw came.0 o
        | side.Separated ↦ rw came.0 o
      ]
  owned-shape row (either d) v h e came some k = owned-either row d v h (to row.flag) e (has-either row d v h came) some refl came

  -- the first word that an option prints, owned by its row
  owned : (c : Cut K) → CameUnmarked own dashes c → IsClear c → IsKept dashes kept c → PrintsOwned own dashes to c
  owned (raw w) came clear k = tt
  owned (unknown w) came clear k = tt
  owned (flag row) came clear k = came.0
  owned (with_value row v h) came clear k = owned-shape row row.shape v h refl came clear k

  pub each-owned : (cs : List (Cut K)) → Each (CameUnmarked own dashes) cs → Each IsClear cs → Each (λ c. IsKept dashes kept c → PrintsOwned own dashes to c) cs
  each-owned [] came clear = tt
  each-owned (c ∷ cs) came clear = (λ k. owned c came.0 clear.0 k, each-owned cs came.1 clear.1)

  -- an option that words were cut into, printed and cut again
  pub again : (c : Cut K) → CameUnmarked own dashes c → IsClear c → IsKept dashes kept c → Reads own dashes (spelled_on to (shown c)) (plain c ∷ [])
  again (raw w) came clear k = let r = came k in reads-raw own dashes w r.no_owner r.no_dash r.no_mark
  again (unknown w) came clear k = reads-unknown own dashes w came.0 came.1 came.2
  again (flag row) came clear k = reads-flag own dashes row came.1 came.0
  again (with_value row v h) came clear k = again-shape row row.shape v h refl came clear k

  -- the options that pass a test, as they are seen, printed and cut again
  pub list-again : (p : Seen K → Bool) (cs : List (Cut K)) → Each (CameUnmarked own dashes) cs → Each IsClear cs → Each (λ c. p (shown c) ≡ true → IsKept dashes kept c) cs
      → Reads own dashes (flat_map (spelled_on to) (filter p (map shown cs))) (map plain_seen (filter p (map shown cs)))
  list-again p [] came clear k = reads-nil own dashes
  list-again p (c ∷ cs) came clear k =
      elim (p (shown c)) as (λ b. p (shown c) ≡ b → Reads own dashes (flat_map (spelled_on to) (cond b (shown c ∷ filter p (map shown cs)) (filter p (map shown cs)))) (map plain_seen (cond b (shown c ∷ filter p (map shown cs)) (filter p (map shown cs))))) [
        | true ↦ λ e. reads-append own dashes _ _ _ _ (seen-again c came.0 clear.0 (k.0 e)) (list-again p cs came.1 clear.1 k.1)
        | false ↦ λ e. list-again p cs came.1 clear.1 k.1
      ] refl
    where
      seen-again : (c : Cut K) → CameUnmarked own dashes c → IsClear c → IsKept dashes kept c → Reads own dashes (spelled_on to (shown c)) (plain c ∷ [])
      seen-again (raw w) a b d = again (raw w) a b d
      seen-again (unknown w) a b d = again (unknown w) a b d
      seen-again (flag row) a b d = again (flag row) a b d
      seen-again (with_value row v h) a b d = again (with_value row v h) a b d

-- by tables that pass both checks, the first word that an option prints is owned by its row
pub prints_owned : {K : Type 0} → PrintedWordsHaveTheirOwner K
prints_owned tables dashes kept to pass words clear =
    each-owned (owner_in tables) dashes (all_rows tables) (owner_in-is tables) kept to _ _ (λ row e. e) (λ row e. e) pass.keeps pass.safe _ (all_unmarked (owner_in tables) dashes _ (cut_came (owner_in tables) dashes (all_rows tables) (owner_in-is tables) words)) clear

-- by tables that pass both checks, a list of options of a cutting is read again
pub prints_again : {K : Type 0} → PrintsAgain K
prints_again tables dashes kept to pass words p clear k =
    list-again (owner_in tables) dashes (all_rows tables) (owner_in-is tables) kept to _ _ (λ row e. e) (λ row e. e) pass.keeps pass.safe p _ (all_unmarked (owner_in tables) dashes _ (cut_came (owner_in tables) dashes (all_rows tables) (owner_in-is tables) words)) clear k
