use Rattle.std.proofs.Common.{◌≡◌, ℕ, ◌<◌, Bool, List, [], ◌∷◌, length, drop, Option, refl, arith, length-drop}
use Rattle.scl_values.specs.declared.argument.ArgDisposition.{ArgDisposition}
use Rattle.scl_values.specs.declared.argument.ArgDisposition.TheVariants as how
use Rattle.scl_values.specs.Row.{Row, either}
use Rattle.scl_values.specs.Cuts.{Cut, with_value, whole, needs_value, ends_options, piece_at, piece_of, after_delimiter, before, last_piece, all_raw, cut}

piece_at_some : {K : Type 0} (row : Row K) (d : Option ℕ) (rest : List ℕ) → 0 < length rest → piece_at row (either d) rest ≡ whole (with_value row (after_delimiter d rest) (how.CanBeSeparated d))
piece_at_some row d [] h = absurd (omega arith)
piece_at_some row d (x ∷ xs) h = refl

pub piece_at_either : {K : Type 0} (row : Row K) (d : Option ℕ) (word : List ℕ) (n : ℕ) → n < length word → piece_at row (either d) (drop n word) ≡ whole (with_value row (after_delimiter d (drop n word)) (how.CanBeSeparated d))
piece_at_either row d word n h = piece_at_some row d (drop n word) (omega (arith, length-drop n word))

module _ {K : Type 0} (own : List ℕ → Option (Row K)) (dashes : Bool) (word : List ℕ) where
  pub cut_whole : (c : Cut K) → piece_of own dashes word ≡ whole c → (rest : List (List ℕ)) → cut own dashes (word ∷ rest) ≡ before c (cut own dashes rest)
  cut_whole c e [] = rw (e, cut) refl
  cut_whole c e (x ∷ xs) = rw (e, cut) refl

  pub cut_value : (row : Row K) (d : ArgDisposition) (last : Option ArgDisposition) → piece_of own dashes word ≡ needs_value row d last
      → (value : List ℕ) (rest : List (List ℕ)) → cut own dashes (word ∷ (value ∷ rest)) ≡ before (with_value row value d) (cut own dashes rest)
  cut_value row d last e value rest = rw (e, cut) refl

  pub cut_last : (row : Row K) (d : ArgDisposition) (last : Option ArgDisposition) → piece_of own dashes word ≡ needs_value row d last → cut own dashes (word ∷ []) ≡ last_piece row last
  cut_last row d last e = rw (e, cut) refl

  pub cut_ended : piece_of own dashes word ≡ ends_options → (rest : List (List ℕ)) → cut own dashes (word ∷ rest) ≡ all_raw (word ∷ rest)
  cut_ended e [] = rw (e, cut) refl
  cut_ended e (x ∷ xs) = rw (e, cut) refl
