use Rattle.std.proofs.Common.{◌≡◌, ℕ, Bool, List, [], ◌∷◌, Option, None, Some, map, refl, ap, ◌∙◌}
use Rattle.scl_values.specs.declared.argument.ArgDisposition.{ArgDisposition}
use Rattle.scl_values.specs.Row.{Row}
use Rattle.scl_values.specs.Cuts.{Cut, raw, with_value, End, clean, Cutting, whole, needs_value, ends_options, piece_of, last_piece, before, all_raw, cut}
use Rattle.scl_cutting.specs.Relation.{CutsInto, nothing, option, option_and_value, last_word, ended}
use Rattle.scl_values.specs.Each.{Each}
use Rattle.scl_cutting.proofs.CutsLemmas.{cut_whole, cut_value, cut_last, cut_ended}

module _ {K : Type 0} (own : List ℕ → Option (Row K)) (dashes : Bool) where
  abbrev C : List (List ℕ) → Cutting K → Type 0
  C words c = CutsInto own dashes words c.options c.end

  pub cuts : (words : List (List ℕ)) → C words (cut own dashes words)
  cuts [] = nothing
  cuts (word ∷ []) = elim (piece_of own dashes word) as (λ p. piece_of own dashes word ≡ p → (let x : Cutting K = elim p [
    | whole c ↦ record { options = c ∷ []; end = clean }
    | needs_value row d last ↦ last_piece row last
    | ends_options ↦ all_raw (word ∷ [])
  ] in C (word ∷ []) x)) [
    | whole c ↦ λ e. option word c [] [] clean e nothing
    | needs_value row d last ↦ λ e. last_word word row d last e
    | ends_options ↦ λ e. ended word [] e
  ] refl
  cuts (word ∷ (next ∷ words)) = elim (piece_of own dashes word) as (λ p. piece_of own dashes word ≡ p → (let x : Cutting K = elim p [
    | whole c ↦ before c (cut own dashes (next ∷ words))
    | needs_value row d last ↦ before (with_value row next d) (cut own dashes words)
    | ends_options ↦ all_raw (word ∷ (next ∷ words))
  ] in C (word ∷ (next ∷ words)) x)) [
    | whole c ↦ λ e. option word c (next ∷ words) _ _ e (cuts (next ∷ words))
    | needs_value row d last ↦ λ e. option_and_value word next row d last words _ _ e (cuts words)
    | ends_options ↦ λ e. ended word (next ∷ words) e
  ] refl

  -- a fact of each option from the facts of the pieces: one induction for all such facts
  module _ (P : Cut K → Type 0)
      (at_whole : (word : List ℕ) (c : Cut K) → piece_of own dashes word ≡ whole c → P c)
      (at_value : (word : List ℕ) (row : Row K) (d : ArgDisposition) (last : Option ArgDisposition) → piece_of own dashes word ≡ needs_value row d last → (v : List ℕ) → P (with_value row v d))
      (at_last : (word : List ℕ) (row : Row K) (d h : ArgDisposition) → piece_of own dashes word ≡ needs_value row d (Some h) → P (with_value row [] h))
      (at_raw : (word w : List ℕ) → piece_of own dashes word ≡ ends_options → P (raw w)) where
    raws : (word : List ℕ) → piece_of own dashes word ≡ ends_options → (ws : List (List ℕ)) → Each P (map raw ws)
    raws word e [] = tt
    raws word e (w ∷ ws) = (at_raw word w e, raws word e ws)

    lasts : (word : List ℕ) (row : Row K) (d : ArgDisposition) (last : Option ArgDisposition) → piece_of own dashes word ≡ needs_value row d last → Each P (last_piece row last).options
    lasts word row d None e = tt
    lasts word row d (Some h) e = (at_last word row d h e, tt)

    pub each-option : (words : List (List ℕ)) (cs : List (Cut K)) (e : End) → CutsInto own dashes words cs e → Each P cs
    each-option _ _ _ nothing = tt
    each-option _ _ _ (option word c words cs e p more) = (at_whole word c p, each-option words cs e more)
    each-option _ _ _ (option_and_value word value row d last words cs e p more) = (at_value word row d last p value, each-option words cs e more)
    each-option _ _ _ (last_word word row d last p) = lasts word row d last p
    each-option _ _ _ (ended word words p) = raws word p (word ∷ words)

-- ---- the relation and the function agree

module _ {K : Type 0} (own : List ℕ → Option (Row K)) (dashes : Bool) where
  with_first : (c : Cut K) (left : Cutting K) (cs : List (Cut K)) (e : End) → left ≡ record { options = cs; end = e } → before c left ≡ record { options = c ∷ cs; end = e }
  with_first c left cs e h = ap (before c) h

  pub cuts_only : (words : List (List ℕ)) (cs : List (Cut K)) (e : End) → CutsInto own dashes words cs e → cut own dashes words ≡ record { options = cs; end = e }
  cuts_only _ _ _ nothing = refl
  cuts_only _ _ _ (option word c words cs e p more) = cut_whole own dashes word c p words ∙ with_first c _ cs e (cuts_only words cs e more)
  cuts_only _ _ _ (option_and_value word value row d last words cs e p more) = cut_value own dashes word row d last p value words ∙ with_first (with_value row value d) _ cs e (cuts_only words cs e more)
  cuts_only _ _ _ (last_word word row d last p) = cut_last own dashes word row d last p
  cuts_only _ _ _ (ended word words p) = cut_ended own dashes word p words
