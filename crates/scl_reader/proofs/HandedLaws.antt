-- What holds of each word of a line holds of those that its options pass on, where the value of such an option is a word of its own.
use Rattle.std.proofs.Common.{◌≡◌, ℕ, Bool, true, false, cond, ◌&&◌, ◌||◌, List, [], ◌∷◌, map, filter, Option, None, Some, refl, sym, ◌∙◌}
use Rattle.std.specs.Str.{bytes_eq}
use Rattle.scl_values.specs.Cuts.{raw, unknown, with_value, clean, Cutting, Piece, whole, needs_value, ends_options, mark, starts_with_dash, piece_at, owned_piece, piece_of, before, last_piece, all_raw, cut}
use Rattle.scl_values.specs.Each.{Each}
use Rattle.scl_values.specs.Row.{Row, Shape, bare, apart, joined, either}
use Rattle.scl_values.specs.Seen.{Seen, Raw, Unknown, Known, shown, text_of}
use Rattle.scl_values.specs.declared.argument.ArgDisposition.{ArgDisposition}
use Rattle.scl_args.specs.Options.{texts}

-- whether a row of the shape takes the rest of the word that its flag stands in
abbrev pub takes_rest : Shape → Bool
takes_rest bare = false
takes_rest apart = false
takes_rest (joined d) = true
takes_rest (either d) = true

module _ {K : Type 0} (P : List ℕ → Type 0) where
  one-more : (p : Seen K → Bool) (o : Seen K) (os : List (Seen K)) → (p o ≡ true → P (text_of o)) → Each P (texts p os) → Each P (texts p (o ∷ os))
  one-more p o os h k = elim (p o) as (λ b. p o ≡ b → Each P (map text_of (cond b (o ∷ filter p os) (filter p os)))) [
    | true ↦ λ e. (h e, k)
    | false ↦ λ _. k
  ] refl

  first-of : (p : Seen K → Bool) (o : Seen K) (os : List (Seen K)) → Each P (texts p (o ∷ os)) → p o ≡ true → P (text_of o)
  first-of p o os h e = (rw e at h).0

  others-of : (p : Seen K → Bool) (o : Seen K) (os : List (Seen K)) → Each P (texts p (o ∷ os)) → Each P (texts p os)
  others-of p o os h = elim (p o) as (λ b. Each P (map text_of (cond b (o ∷ filter p os) (filter p os))) → Each P (map text_of (filter p os))) [
    | true ↦ λ k. k.1
    | false ↦ λ k. k
  ] h

  either-of : (a b : Bool) (o : Seen K) → (a || b) ≡ true → (a ≡ true → P (text_of o)) → (b ≡ true → P (text_of o)) → P (text_of o)
  either-of true b o e h k = h refl
  either-of false b o e h k = k e

  -- the texts of options that pass one of two tests
  pub texts-either : (p q r : Seen K → Bool) → ((o : Seen K) → r o ≡ true → (p o || q o) ≡ true) → (os : List (Seen K)) → Each P (texts p os) → Each P (texts q os) → Each P (texts r os)
  texts-either p q r one [] h k = tt
  texts-either p q r one (o ∷ os) h k =
      one-more r o os (λ e. either-of (p o) (q o) o (one o e) (first-of p o os h) (first-of q o os k)) (texts-either p q r one os (others-of p o os h) (others-of q o os k))

module _ {K : Type 0} (own : List ℕ → Option (Row K)) (dashes : Bool) (p : Seen K → Bool) (P : List ℕ → Type 0) (nothing : P [])
    (no_raw : (word : List ℕ) → p (Raw word) ≡ false) (no_unknown : (word : List ℕ) → p (Unknown word) ≡ false)
    (stand_apart : (word : List ℕ) (row : Row K) (value : List ℕ) (how : Option ArgDisposition) → own word ≡ Some row → p (Known row.flag row.kind value how) ≡ true → takes_rest row.shape ≡ false) where
  -- what a word is cut into passes on nothing of which it does not hold, except the next word
  abbrev IsHanded : Piece K → Type 0
  IsHanded (whole c) = p (shown c) ≡ true → P (text_of (shown c))
  IsHanded (needs_value row d last) = Unit {0}
  IsHanded ends_options = Unit {0}

  takes-none : (word : List ℕ) (row : Row K) (s : Shape) (value : List ℕ) (how : Option ArgDisposition) → own word ≡ Some row → row.shape ≡ s → takes_rest s ≡ true → p (Known row.flag row.kind value how) ≡ true → P value
  takes-none word row s value how o e t k = absurd (let no : takes_rest s ≡ false = rw (sym e) (stand_apart word row value how o k) in let both : true ≡ false = sym t ∙ no in cc)

  at-shape : (word : List ℕ) (row : Row K) (s : Shape) (rest : List ℕ) → own word ≡ Some row → row.shape ≡ s → IsHanded (piece_at row s rest)
  at-shape word row bare rest o e = λ k. nothing
  at-shape word row apart rest o e = tt
  at-shape word row (joined d) rest o e = λ k. takes-none word row (joined d) _ _ o e refl k
  at-shape word row (either d) [] o e = tt
  at-shape word row (either d) (x ∷ xs) o e = λ k. takes-none word row (either d) _ _ o e refl k

  owned-handed : (word : List ℕ) (o : Option (Row K)) → own word ≡ o → IsHanded (owned_piece o word)
  owned-handed word None e = elim (starts_with_dash word) as (λ b. IsHanded (whole (cond b (unknown word) (raw word)))) [
    | true ↦ λ k. absurd (let both : true ≡ false = sym k ∙ no_unknown word in cc)
    | false ↦ λ k. absurd (let both : true ≡ false = sym k ∙ no_raw word in cc)
  ]
  owned-handed word (Some row) e = at-shape word row row.shape _ e refl

  piece-handed : (word : List ℕ) → IsHanded (piece_of own dashes word)
  piece-handed word = elim (dashes && bytes_eq word mark) as (λ b. IsHanded (cond b ends_options (owned_piece (own word) word))) [
    | true ↦ tt
    | false ↦ owned-handed word (own word) refl
  ]

  raws-handed : (words : List (List ℕ)) → Each P (texts p (map shown (map raw words)))
  raws-handed [] = tt
  raws-handed (word ∷ words) = one-more P p (Raw word) _ (λ k. absurd (let both : true ≡ false = sym k ∙ no_raw word in cc)) (raws-handed words)

  last-handed : (row : Row K) (last : Option ArgDisposition) → Each P (texts p (map shown (last_piece row last).options))
  last-handed row None = tt
  last-handed row (Some d) = one-more P p (Known row.flag row.kind [] (Some d)) [] (λ _. nothing) tt

  pub cut-handed : (words : List (List ℕ)) → Each P words → Each P (texts p (map shown (cut own dashes words).options))
  cut-handed [] h = tt
  cut-handed (word ∷ []) h = elim (piece_of own dashes word) as (λ q. IsHanded q → (let x : Cutting K = elim q [
    | whole c ↦ record { options = c ∷ []; end = clean }
    | needs_value row d last ↦ last_piece row last
    | ends_options ↦ all_raw (word ∷ [])
  ] in Each P (texts p (map shown x.options)))) [
    | whole c ↦ λ k. one-more P p (shown c) [] k tt
    | needs_value row d last ↦ λ _. last-handed row last
    | ends_options ↦ λ _. raws-handed (word ∷ [])
  ] (piece-handed word)
  cut-handed (word ∷ (next ∷ words)) h = elim (piece_of own dashes word) as (λ q. IsHanded q → (let x : Cutting K = elim q [
    | whole c ↦ before c (cut own dashes (next ∷ words))
    | needs_value row d last ↦ before (with_value row next d) (cut own dashes words)
    | ends_options ↦ all_raw (word ∷ (next ∷ words))
  ] in Each P (texts p (map shown x.options)))) [
    | whole c ↦ λ k. one-more P p (shown c) _ k (cut-handed (next ∷ words) h.1)
    | needs_value row d last ↦ λ _. one-more P p (Known row.flag row.kind next (Some d)) _ (λ _. h.1.0) (cut-handed words h.1.1)
    | ends_options ↦ λ _. raws-handed (word ∷ (next ∷ words))
  ] (piece-handed word)
