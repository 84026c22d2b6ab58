use Rattle.std.proofs.Common.{◌≡◌, ℕ, Bool, true, false, cond, inl, inr, List, [], ◌∷◌, ◌++◌, length, drop, map, Option, None, Some, refl, ap, ◌∙◌}
use Rattle.scl_values.specs.declared.argument.ArgDisposition.{ArgDisposition}
use Rattle.scl_values.specs.Row.{Row, Shape, bare, apart, joined, either}
use Rattle.scl_values.specs.Cuts.{Cut, raw, unknown, flag, with_value, clean, Cutting, Piece, whole, needs_value, ends_options, piece_at, owned_piece, piece_of, before, cut, last_piece, all_raw, starts_with_dash}
use Rattle.scl_values.specs.Seen.{Plain, plain}
use Rattle.scl_values.specs.Seen as plain
use Rattle.scl_args.specs.Reads.{read, behind, Reads}
use Rattle.scl_args.specs.Origins.{is_mark, IsInput, FirstRaw, input_words}
use Rattle.scl_args.proofs.ReadsLaws.{reads-raw}

module _ {K : Type 0} (own : List ℕ → Option (Row K)) (dashes : Bool) where
  abbrev RawOk : Cut K → Type 0
  RawOk (raw w) = IsInput own dashes w
  RawOk (unknown w) = Unit {0}
  RawOk (flag row) = Unit {0}
  RawOk (with_value row v h) = Unit {0}

  abbrev PieceOk : List ℕ → Piece K → Type 0
  PieceOk word (whole c) = RawOk c
  PieceOk word (needs_value row d last) = Unit {0}
  PieceOk word ends_options = is_mark dashes word ≡ true

  first-before : (c : Cut K) (cs : List (Cut K)) → RawOk c → FirstRaw own dashes cs → FirstRaw own dashes (c ∷ cs)
  first-before (raw w) cs r f = inl r
  first-before (unknown w) cs r f = f
  first-before (flag row) cs r f = f
  first-before (with_value row v h) cs r f = f

  at_ok : (row : Row K) (word rest : List ℕ) (s : Shape) → PieceOk word (piece_at row s rest)
  at_ok row word rest bare = tt
  at_ok row word rest apart = tt
  at_ok row word rest (joined d) = tt
  at_ok row word [] (either d) = tt
  at_ok row word (x ∷ xs) (either d) = tt

  owned_ok : (word : List ℕ) (o : Option (Row K)) → own word ≡ o → is_mark dashes word ≡ false → PieceOk word (owned_piece o word)
  owned_ok word None e m = elim (starts_with_dash word) as (λ b. starts_with_dash word ≡ b → RawOk (cond b (unknown word) (raw word))) [
    | true ↦ λ s. tt
    | false ↦ λ s. record { no_owner = e; no_dash = s; no_mark = m }
  ] refl
  owned_ok word (Some row) e m = at_ok row word (drop (length row.flag) word) row.shape

  piece_ok : (word : List ℕ) → PieceOk word (piece_of own dashes word)
  piece_ok word = elim (is_mark dashes word) as (λ b. is_mark dashes word ≡ b → PieceOk word (cond b ends_options (owned_piece (own word) word))) [
    | true ↦ λ m. m
    | false ↦ λ m. owned_ok word (own word) refl m
  ] refl

  last_first : (row : Row K) (last : Option ArgDisposition) → FirstRaw own dashes (last_piece row last).options
  last_first row None = tt
  last_first row (Some d) = tt

  pub first_raw : (words : List (List ℕ)) → FirstRaw own dashes (cut own dashes words).options
  first_raw [] = tt
  first_raw (word ∷ []) = elim (piece_of own dashes word) as (λ p. PieceOk word p → (let x : Cutting K = elim p [
    | whole c ↦ record { options = c ∷ []; end = clean }
    | needs_value row d last ↦ last_piece row last
    | ends_options ↦ all_raw (word ∷ [])
  ] in FirstRaw own dashes x.options)) [
    | whole c ↦ λ h. first-before c [] h tt
    | needs_value row d last ↦ λ h. last_first row last
    | ends_options ↦ λ h. inr h
  ] (piece_ok word)
  first_raw (word ∷ (next ∷ words)) = elim (piece_of own dashes word) as (λ p. PieceOk word p → (let x : Cutting K = elim p [
    | whole c ↦ before c (cut own dashes (next ∷ words))
    | needs_value row d last ↦ before (with_value row next d) (cut own dashes words)
    | ends_options ↦ all_raw (word ∷ (next ∷ words))
  ] in FirstRaw own dashes x.options)) [
    | whole c ↦ λ h. first-before c (cut own dashes (next ∷ words)).options h (first_raw (next ∷ words))
    | needs_value row d last ↦ λ h. first_raw words
    | ends_options ↦ λ h. inr h
  ] (piece_ok word)

  -- words that end with the input, after the mark or without it
  pub ends-input : (ws : List (List ℕ)) (os : List (Plain K)) (marked : Bool) (x : List ℕ) → Reads own dashes ws os → (marked ≡ true → dashes ≡ true) → (marked ≡ false → IsInput own dashes x)
      → read own dashes (ws ++ input_words marked x) ≡ record { options = os ++ map plain.raw (input_words marked x); end = clean }
  ends-input ws os true x r d i = r.before (input_words true x) ∙ ap (behind os) (rw (d refl) refl)
  ends-input ws os false x r d i =
      let h = i refl in
      r.before (x ∷ []) ∙ ap (behind os) ((reads-raw own dashes x h.no_owner h.no_dash h.no_mark).before [])
