use Rattle.std.proofs.Common.{◌≡◌, ℕ, Bool, true, List, [], ◌∷◌, ◌++◌, Option, None, refl, sym, ap, subst, ◌∙◌}
use Rattle.scl_values.specs.Spell.{delimited}
use Rattle.scl_values.specs.Each.{Has}
use Rattle.scl_values.specs.Row.{Row, joined, either, joins}
use Rattle.scl_values.specs.Tables.{owner, owner_in, all_rows}
use Rattle.scl_args.proofs.OwnerLaws.{owner_in-is}
use Rattle.scl_values.specs.Seen as plain
use Rattle.scl_args.specs.Reads.{Reads}
use Rattle.scl_args.specs.Checks.{keeps_flags, joins_safely, has_one_of, JoinSafely}
use Rattle.scl_args.specs.Origins.{Owns}
use Rattle.scl_args.proofs.AgainChecks.{flag-no_dash, owner-joined}
use Rattle.scl_args.proofs.ReadsLaws.{reads-joined, reads-either_joined}
use Rattle.scl_args.proofs.AgainLaws.{no-mark}

-- an option of a row with a value of its own
module _ {K : Type 0} (own : List ℕ → Option (Row K)) (dashes : Bool) (rows : List (Row K)) (by_rows : (w : List ℕ) → own w ≡ owner rows w)
    (changing joining : Row K → Bool) (keeps : keeps_flags changing rows ≡ true) (safe : joins_safely joining rows rows ≡ true)
    (row : Row K) (has : Has rows row) (changes : changing row ≡ true) (joins_too : joining row ≡ true) where
  owns-rest : (rest : List ℕ) → joins row.shape rest ≡ true → Owns own dashes (row.flag ++ rest) row
  owns-rest rest j = record {
    is = by_rows (row.flag ++ rest) ∙ owner-joined changing joining rows keeps row has changes safe joins_too rest j;
    no_mark = no-mark dashes row.flag rest (flag-no_dash changing joining rows keeps row has changes);
  }

  joins-any : (v : List ℕ) → joins (joined None) v ≡ true
  joins-any [] = refl
  joins-any (x ∷ xs) = refl

  same_word : (v : List ℕ) → delimited None v ≡ v
  same_word [] = refl
  same_word (x ∷ xs) = refl

  pub fresh-joined : row.shape ≡ joined None → (v : List ℕ) → Reads own dashes ((row.flag ++ v) ∷ []) (plain.value row.flag row.kind v ∷ [])
  fresh-joined s v =
      let o : Owns own dashes (row.flag ++ delimited None v) row = subst (λ u. Owns own dashes (row.flag ++ u) row) (sym (same_word v)) (owns-rest v (ap (λ h. joins h v) s ∙ joins-any v)) in
      subst (λ u. Reads own dashes ((row.flag ++ u) ∷ []) (plain.value row.flag row.kind v ∷ [])) (same_word v) (reads-joined own dashes row None v s o)

  pub fresh-either : row.shape ≡ either None → (x : ℕ) (xs : List ℕ) → Reads own dashes ((row.flag ++ (x ∷ xs)) ∷ []) (plain.value row.flag row.kind (x ∷ xs) ∷ [])
  fresh-either s x xs = reads-either_joined own dashes row None x xs s (owns-rest (x ∷ xs) (ap (λ h. joins h (x ∷ xs)) s))

-- own words: a flag that joins safely, with any value, or with one that is not empty
module _ {K : Type 0} (tables : List (List (Row K))) (dashes : Bool) (flags : List (List ℕ)) (pass : JoinSafely tables flags) (row : Row K) (has : Has (all_rows tables) row) (one : has_one_of flags row ≡ true) where
  pub own-joined : row.shape ≡ joined None → (v : List ℕ) → Reads (owner_in tables) dashes ((row.flag ++ v) ∷ []) (plain.value row.flag row.kind v ∷ [])
  own-joined shape v =
      fresh-joined (owner_in tables) dashes (all_rows tables) (owner_in-is tables) (has_one_of flags) (has_one_of flags) pass.keeps pass.safe row has one one shape v

  pub own-either : row.shape ≡ either None → (x : ℕ) (xs : List ℕ) → Reads (owner_in tables) dashes ((row.flag ++ (x ∷ xs)) ∷ []) (plain.value row.flag row.kind (x ∷ xs) ∷ [])
  own-either shape x xs =
      fresh-either (owner_in tables) dashes (all_rows tables) (owner_in-is tables) (has_one_of flags) (has_one_of flags) pass.keeps pass.safe row has one one shape x xs
