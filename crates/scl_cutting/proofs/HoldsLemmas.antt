-- Tables in which the kinds of rows that take a value hold one.
use Rattle.std.proofs.Common.{◌≡◌, ℕ, Bool, true, false, cond, nat_lt, ◌&&◌, ◌||◌, not, List, [], ◌∷◌, length, drop, filter, Option, None, Some, refl, subst}
use Rattle.std.specs.Str.{bytes_eq}
use Rattle.scl_values.specs.Row.{Row, Shape, bare, apart, joined, either, fits}
use Rattle.scl_values.specs.Tables.{longer, longest, owner, owner_in, takes_value, rows_hold_values, tables_hold_values}
use Rattle.scl_values.specs.Cuts.{Cut, raw, unknown, flag, with_value, Piece, whole, needs_value, ends_options, piece_at, owned_piece, piece_of, starts_with_dash, cut}
use Rattle.scl_values.specs.Each.{Each}
use Rattle.scl_cutting.proofs.RelationLaws.{cuts, each-option}

and-left : (a b : Bool) → (a && b) ≡ true → a ≡ true
and-left true b h = refl
and-left false b h = h

and-right : (a b : Bool) → (a && b) ≡ true → b ≡ true
and-right true b h = h
and-right false b h = cc

module _ {K : Type 0} (holds : K → Bool) where
  -- if a row takes a value, its kind holds one
  abbrev RowHolds : Row K → Type 0
  RowHolds row = takes_value row.shape ≡ true → holds row.kind ≡ true

  abbrev HoldsIfAny : Option (Row K) → Type 0
  HoldsIfAny None = Unit {0}
  HoldsIfAny (Some row) = RowHolds row

  implied : (a b : Bool) → (not a || b) ≡ true → a ≡ true → b ≡ true
  implied true b h e = h
  implied false b h e = cc

  longer-holds : (a b : Option (Row K)) → HoldsIfAny a → HoldsIfAny b → HoldsIfAny (longer a b)
  longer-holds None b p q = q
  longer-holds (Some x) None p q = p
  longer-holds (Some x) (Some y) p q = elim (nat_lt (length y.flag) (length x.flag)) as (λ t. HoldsIfAny (cond t (Some x) (Some y))) [ true ↦ p | false ↦ q ]

  owner-holds : (rows : List (Row K)) (word : List ℕ) → rows_hold_values holds rows ≡ true → HoldsIfAny (owner rows word)
  owner-holds [] word h = tt
  owner-holds (row ∷ rows) word h =
      let here : RowHolds row = implied (takes_value row.shape) (holds row.kind) (and-left (not (takes_value row.shape) || holds row.kind) (rows_hold_values holds rows) h) in
      let more = owner-holds rows word (and-right (not (takes_value row.shape) || holds row.kind) (rows_hold_values holds rows) h) in
      elim (fits row word) as (λ b. HoldsIfAny (longest (cond b (row ∷ filter (λ r. fits r word) rows) (filter (λ r. fits r word) rows)))) [
        | true ↦ longer-holds (Some row) (owner rows word) here more
        | false ↦ more
      ]

  pub owner_in-holds : (tables : List (List (Row K))) (word : List ℕ) → tables_hold_values holds tables ≡ true → HoldsIfAny (owner_in tables word)
  owner_in-holds [] word h = tt
  owner_in-holds (rows ∷ tables) word h =
      longer-holds (owner rows word) (owner_in tables word) (owner-holds rows word (and-left (rows_hold_values holds rows) (tables_hold_values holds tables) h)) (owner_in-holds tables word (and-right (rows_hold_values holds rows) (tables_hold_values holds tables) h))

  -- if an option has a value, its kind holds one
  abbrev pub CutHolds : Cut K → Type 0
  CutHolds (raw w) = Unit {0}
  CutHolds (unknown w) = Unit {0}
  CutHolds (flag row) = Unit {0}
  CutHolds (with_value row v how) = holds row.kind ≡ true

  abbrev PieceHolds : Piece K → Type 0
  PieceHolds (whole c) = CutHolds c
  PieceHolds (needs_value row how last) = holds row.kind ≡ true
  PieceHolds ends_options = Unit {0}

  shape-holds : (row : Row K) (shape : Shape) (rest : List ℕ) → (takes_value shape ≡ true → holds row.kind ≡ true) → PieceHolds (piece_at row shape rest)
  shape-holds row bare rest h = tt
  shape-holds row apart rest h = h refl
  shape-holds row (joined d) rest h = h refl
  shape-holds row (either d) [] h = h refl
  shape-holds row (either d) (x ∷ xs) h = h refl

  owned-holds : (o : Option (Row K)) (word : List ℕ) → HoldsIfAny o → PieceHolds (owned_piece o word)
  owned-holds None word h = elim (starts_with_dash word) as (λ b. CutHolds (cond b (unknown word) (raw word))) [ true ↦ tt | false ↦ tt ]
  owned-holds (Some row) word h = shape-holds row row.shape (drop (length row.flag) word) h

  module _ (tables : List (List (Row K))) (valid : tables_hold_values holds tables ≡ true) (dashes : Bool) where
    piece-holds : (word : List ℕ) → PieceHolds (piece_of (owner_in tables) dashes word)
    piece-holds word =
        elim (dashes && bytes_eq word (45 ∷ 45 ∷ [])) as (λ b. PieceHolds (cond b ends_options (owned_piece (owner_in tables word) word))) [
          | true ↦ tt
          | false ↦ owned-holds (owner_in tables word) word (owner_in-holds tables word valid)
        ]

    at : (word : List ℕ) (p : Piece K) → piece_of (owner_in tables) dashes word ≡ p → PieceHolds p
    at word p e = subst PieceHolds e (piece-holds word)

    pub cut-holds : (words : List (List ℕ)) → Each CutHolds (cut (owner_in tables) dashes words).options
    cut-holds words =
        each-option (owner_in tables) dashes CutHolds (λ word c e. at word (whole c) e) (λ word row d last e v. at word (needs_value row d last) e)
        (λ word row d h e. at word (needs_value row d (Some h)) e) (λ word w e. tt) words _ _ (cuts (owner_in tables) dashes words)
