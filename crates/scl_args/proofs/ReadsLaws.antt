use Rattle.std.proofs.Common.{◌≡◌, ℕ, Bool, true, false, cond, List, [], ◌∷◌, ◌++◌, map, Option, None, Some, refl, sym, ap, subst, ◌∙◌, append_assoc, ◌==◌, arith}
use Rattle.std.proofs.lemmas.Bool.Decides.{nat_tests}
use Rattle.std.proofs.lemmas.List.{append-nil}
use Rattle.std.proofs.Math.Seq.{drop-append_seam}
use Rattle.std.specs.List.{flat_map}
use Rattle.scl_values.specs.Spell.{delimited}
use Rattle.scl_values.specs.Each.{Each}
use Rattle.scl_values.specs.declared.argument.ArgDisposition.{ArgDisposition}
use Rattle.scl_values.specs.declared.argument.ArgDisposition.TheVariants as how
use Rattle.scl_values.specs.Row.{Row, bare, apart, joined, either}
use Rattle.scl_values.specs.Cuts.{Cut, raw, unknown, flag, with_value, Piece, whole, needs_value, ends_options, piece_at, owned_piece, piece_of, after_delimiter, before, cut, starts_with_dash}
use Rattle.scl_values.specs.Seen.{Plain, plain}
use Rattle.scl_values.specs.Seen as plain
use Rattle.scl_args.specs.Reads.{Read, plainly, read, cleanly, behind, Reads}
use Rattle.scl_args.specs.Origins.{is_mark, Owns}

same : (d : ℕ) → (d == d) ≡ true
same d = grind (arith, nat_tests)

module _ {K : Type 0} (own : List ℕ → Option (Row K)) (dashes : Bool) where
  cut_whole : (word : List ℕ) (c : Cut K) → piece_of own dashes word ≡ whole c → (rest : List (List ℕ)) → cut own dashes (word ∷ rest) ≡ before c (cut own dashes rest)
  cut_whole word c e [] = rw (e, cut) refl
  cut_whole word c e (x ∷ xs) = rw (e, cut) refl

  cut_value : (word : List ℕ) (row : Row K) (d : ArgDisposition) (last : Option ArgDisposition) → piece_of own dashes word ≡ needs_value row d last
      → (value : List ℕ) (rest : List (List ℕ)) → cut own dashes (word ∷ (value ∷ rest)) ≡ before (with_value row value d) (cut own dashes rest)
  cut_value word row d last e value rest = rw (e, cut) refl

  -- ---- words read, one list after the other

  pub reads-whole : (word : List ℕ) (c : Cut K) → piece_of own dashes word ≡ whole c → Reads own dashes (word ∷ []) (plain c ∷ [])
  reads-whole word c e = record { before = λ rest. ap plainly (cut_whole word c e rest) }

  pub reads-value : (word : List ℕ) (row : Row K) (d : ArgDisposition) (last : Option ArgDisposition) → piece_of own dashes word ≡ needs_value row d last
      → (value : List ℕ) → Reads own dashes (word ∷ (value ∷ [])) (plain.value row.flag row.kind value ∷ [])
  reads-value word row d last e value = record { before = λ rest. ap plainly (cut_value word row d last e value rest) }

  pub reads-nil : Reads own dashes [] []
  reads-nil = record { before = λ rest. refl }

  behind-append : (xs ys : List (Plain K)) (r : Read K) → behind xs (behind ys r) ≡ behind (xs ++ ys) r
  behind-append xs ys r = ap (λ os. let x : Read K = record { options = os; end = r.end } in x) (sym (append_assoc xs ys r.options))

  pub reads-append : (ws vs : List (List ℕ)) (xs ys : List (Plain K)) → Reads own dashes ws xs → Reads own dashes vs ys → Reads own dashes (ws ++ vs) (xs ++ ys)
  reads-append ws vs xs ys p q = record {
    before = λ rest. ap (read own dashes) (append_assoc ws vs rest) ∙ (p.before (vs ++ rest) ∙ (ap (behind xs) (q.before rest) ∙ behind-append xs ys (read own dashes rest)));
  }

  -- lists of words, each of which is read as a list of options
  pub reads-lists : {A : Type 0} (words : A → List (List ℕ)) (options : A → List (Plain K)) (xs : List A) → Each (λ x. Reads own dashes (words x) (options x)) xs → Reads own dashes (flat_map words xs) (flat_map options xs)
  reads-lists words options [] h = reads-nil
  reads-lists words options (x ∷ xs) h = reads-append (words x) (flat_map words xs) (options x) (flat_map options xs) h.0 (reads-lists words options xs h.1)

  -- words after which there are none
  pub reads-last : (words : List (List ℕ)) (options : List (Plain K)) → Reads own dashes words options → read own dashes words ≡ cleanly options
  reads-last words options r = ap (read own dashes) (sym (append-nil words)) ∙ (r.before [] ∙ ap cleanly (append-nil options))

  -- a list of options, each of which is read again
  pub reads-all : {A : Type 0} (words : A → List (List ℕ)) (options : A → Plain K) (xs : List A) → Each (λ x. Reads own dashes (words x) (options x ∷ [])) xs → Reads own dashes (flat_map words xs) (map options xs)
  reads-all words options [] h = reads-nil
  reads-all words options (x ∷ xs) h = reads-append (words x) (flat_map words xs) (options x ∷ []) (map options xs) h.0 (reads-all words options xs h.1)

  -- ---- the piece of a word

  pub piece-owned : (row : Row K) (rest : List ℕ) → Owns own dashes (row.flag ++ rest) row → piece_of own dashes (row.flag ++ rest) ≡ piece_at row row.shape rest
  piece-owned row rest o =
      ap (λ b. cond b ends_options (owned_piece (own (row.flag ++ rest)) (row.flag ++ rest))) o.no_mark
      ∙ (ap (λ p. owned_piece p (row.flag ++ rest)) o.is
      ∙ ap (piece_at row row.shape) (drop-append_seam row.flag rest))

  pub piece-none : (word : List ℕ) → own word ≡ None → is_mark dashes word ≡ false → piece_of own dashes word ≡ whole (cond (starts_with_dash word) (unknown word) (raw word))
  piece-none word o m = ap (λ b. cond b ends_options (owned_piece (own word) word)) m ∙ ap (λ p. owned_piece p word) o

  owns-nil : (row : Row K) → Owns own dashes row.flag row → Owns own dashes (row.flag ++ []) row
  owns-nil row o = subst (λ w. Owns own dashes w row) (sym (append-nil row.flag)) o

  pub piece-flag : (row : Row K) → Owns own dashes row.flag row → piece_of own dashes row.flag ≡ piece_at row row.shape []
  piece-flag row o = ap (piece_of own dashes) (sym (append-nil row.flag)) ∙ piece-owned row [] (owns-nil row o)

  -- ---- an option printed again

  pub reads-flag : (row : Row K) → row.shape ≡ bare → Owns own dashes row.flag row → Reads own dashes (row.flag ∷ []) (plain.flag row.flag row.kind ∷ [])
  reads-flag row s o = reads-whole row.flag (flag row) (piece-flag row o ∙ ap (λ h. piece_at row h []) s)

  pub reads-apart : (row : Row K) (value : List ℕ) → row.shape ≡ apart → Owns own dashes row.flag row → Reads own dashes (row.flag ∷ (value ∷ [])) (plain.value row.flag row.kind value ∷ [])
  reads-apart row value s o = reads-value row.flag row how.Separated None (piece-flag row o ∙ ap (λ h. piece_at row h []) s) value

  pub reads-either_apart : (row : Row K) (d : Option ℕ) (value : List ℕ) → row.shape ≡ either d → Owns own dashes row.flag row → Reads own dashes (row.flag ∷ (value ∷ [])) (plain.value row.flag row.kind value ∷ [])
  reads-either_apart row d value s o = reads-value row.flag row (how.CanBeConcatenated d) _ (piece-flag row o ∙ ap (λ h. piece_at row h []) s) value

  after-delimited : (d : Option ℕ) (value : List ℕ) → after_delimiter d (delimited d value) ≡ value
  after-delimited None [] = refl
  after-delimited None (x ∷ xs) = refl
  after-delimited (Some d) [] = refl
  after-delimited (Some d) (x ∷ xs) = rw (same d) refl

  pub reads-joined : (row : Row K) (d : Option ℕ) (value : List ℕ) → row.shape ≡ joined d → Owns own dashes (row.flag ++ delimited d value) row → Reads own dashes ((row.flag ++ delimited d value) ∷ []) (plain.value row.flag row.kind value ∷ [])
  reads-joined row d value s o =
      reads-whole (row.flag ++ delimited d value) (with_value row value (how.Concatenated d))
      (piece-owned row (delimited d value) o ∙ (ap (λ h. piece_at row h (delimited d value)) s ∙ ap (λ v. let p : Piece K = whole (with_value row v (how.Concatenated d)) in p) (after-delimited d value)))

  pub reads-either_joined : (row : Row K) (d : Option ℕ) (x : ℕ) (xs : List ℕ) → row.shape ≡ either d → Owns own dashes (row.flag ++ delimited d (x ∷ xs)) row → Reads own dashes ((row.flag ++ delimited d (x ∷ xs)) ∷ []) (plain.value row.flag row.kind (x ∷ xs) ∷ [])
  reads-either_joined row None x xs s o =
      reads-whole (row.flag ++ (x ∷ xs)) (with_value row (x ∷ xs) (how.CanBeSeparated None)) (piece-owned row (x ∷ xs) o ∙ ap (λ h. piece_at row h (x ∷ xs)) s)
  reads-either_joined row (Some d) x xs s o =
      reads-whole (row.flag ++ (d ∷ (x ∷ xs))) (with_value row (x ∷ xs) (how.CanBeSeparated (Some d)))
      (piece-owned row (d ∷ (x ∷ xs)) o ∙ (ap (λ h. piece_at row h (d ∷ (x ∷ xs))) s ∙ ap (λ v. let p : Piece K = whole (with_value row v (how.CanBeSeparated (Some d))) in p) (after-delimited (Some d) (x ∷ xs))))

  pub reads-unknown : (word : List ℕ) → own word ≡ None → starts_with_dash word ≡ true → is_mark dashes word ≡ false → Reads own dashes (word ∷ []) (plain.unknown word ∷ [])
  reads-unknown word o s m = reads-whole word (unknown word) (piece-none word o m ∙ ap (λ b. let p : Piece K = whole (cond b (unknown word) (raw word)) in p) s)

  pub reads-raw : (word : List ℕ) → own word ≡ None → starts_with_dash word ≡ false → is_mark dashes word ≡ false → Reads own dashes (word ∷ []) (plain.raw word ∷ [])
  reads-raw word o s m = reads-whole word (raw word) (piece-none word o m ∙ ap (λ b. let p : Piece K = whole (cond b (unknown word) (raw word)) in p) s)
