-- What is known of an option that words were cut into.
use Rattle.std.specs.Prelude.{◌≡◌, ℕ, Bool, true, false, ◌&&◌, List, [], ◌∷◌, ◌++◌, map, Option, None, Some, ◌⊎◌}
use Rattle.std.specs.Str.{bytes_eq}
use Rattle.scl_values.specs.declared.argument.ArgDisposition.{ArgDisposition}
use Rattle.scl_values.specs.declared.argument.ArgDisposition.TheVariants as how
use Rattle.scl_values.specs.declared.argument.NormalizedDisposition.{NormalizedDisposition}
use Rattle.scl_values.specs.Row.{Row, Shape, bare, apart, joined, either, joins}
use Rattle.scl_values.specs.Cuts.{mark, Cut, raw, unknown, flag, with_value, starts_with_dash, after_delimiter, cut}
use Rattle.scl_values.specs.Seen.{Seen, shown}
use Rattle.scl_args.specs.Options.{dash_words, spelled_on}
use Rattle.scl_values.specs.Each.{Each}

-- whether the word ends the options
abbrev pub is_mark : Bool → List ℕ → Bool
is_mark dashes word = dashes && bytes_eq word mark

-- the row owns the word, which does not end the options
pub record Owns {K : Type 0} (own : List ℕ → Option (Row K)) (dashes : Bool) (word : List ℕ) (row : Row K) : Type 0 where
  pub is : own word ≡ Some row
  pub no_mark : is_mark dashes word ≡ false

-- The value of an either row is the word after the flag, or the rest of a longer word that the row owns. If the flag was the
-- last word, the value is empty and there is no delimiter.
abbrev pub StandsEither : {K : Type 0} → (List ℕ → Option (Row K)) → Bool → Row K → Option ℕ → List ℕ → ArgDisposition → Type 0
StandsEither own dashes row d v how.Separated = ⊥
StandsEither own dashes row d v (how.CanBeConcatenated e) = (d ≡ e) × Owns own dashes row.flag row
StandsEither own dashes row d v (how.CanBeSeparated e) =
    (d ≡ e) × ((x : ℕ) × (rest : List ℕ) × Owns own dashes (row.flag ++ x ∷ rest) row × (joins (either d) (x ∷ rest) ≡ true) × (v ≡ after_delimiter d (x ∷ rest)))
StandsEither own dashes row d v (how.Concatenated e) = (v ≡ []) × (e ≡ None) × Owns own dashes row.flag row × (d ≡ None)

-- the value came from a word that the row owns, or from the word after its flag
abbrev pub ValueCame : {K : Type 0} → (List ℕ → Option (Row K)) → Bool → Row K → Shape → List ℕ → ArgDisposition → Type 0
ValueCame own dashes row bare v h = ⊥
ValueCame own dashes row apart v h = (h ≡ how.Separated) × Owns own dashes row.flag row
ValueCame own dashes row (joined d) v h = (h ≡ how.Concatenated d) × ((rest : List ℕ) × Owns own dashes (row.flag ++ rest) row × (joins (joined d) rest ≡ true) × (v ≡ after_delimiter d rest))
ValueCame own dashes row (either d) v h = StandsEither own dashes row d v h

-- a word that is cut into a raw option where an option may begin
pub record IsInput {K : Type 0} (own : List ℕ → Option (Row K)) (dashes : Bool) (w : List ℕ) : Type 0 where
  pub no_owner : own w ≡ None
  pub no_dash : starts_with_dash w ≡ false
  pub no_mark : is_mark dashes w ≡ false

-- the option came from a word of its owner, or from a word without an owner
abbrev pub Came : {K : Type 0} → (List ℕ → Option (Row K)) → Bool → Cut K → Type 0
Came own dashes (raw w) = IsInput own dashes w
Came own dashes (unknown w) = (own w ≡ None) × (starts_with_dash w ≡ true) × (is_mark dashes w ≡ false)
Came own dashes (flag row) = Owns own dashes row.flag row × (row.shape ≡ bare)
Came own dashes (with_value row v h) = ValueCame own dashes row row.shape v h

-- the word of an option without a row has no owner
abbrev pub HasNoOwner : {K : Type 0} → (List ℕ → Option (Row K)) → Cut K → Type 0
HasNoOwner own (raw w) = own w ≡ None
HasNoOwner own (unknown w) = own w ≡ None
HasNoOwner own (flag row) = Unit {0}
HasNoOwner own (with_value row v h) = Unit {0}

-- the words begin with the mark, if there are any
abbrev pub BeginsWithMark : Bool → List (List ℕ) → Type 0
BeginsWithMark dashes [] = Unit {0}
BeginsWithMark dashes (w ∷ ws) = is_mark dashes w ≡ true

-- the options are those that came from words of their owners or from words without an owner, and then the mark and all words
-- after it, raw
pub record AllCame {K : Type 0} (own : List ℕ → Option (Row K)) (dashes : Bool) (options : List (Cut K)) : Type 0 where
  pub unmarked : List (Cut K)
  pub marked : List (List ℕ)
  pub in_order : options ≡ unmarked ++ map raw marked
  pub came : Each (Came own dashes) unmarked
  pub mark_first : BeginsWithMark dashes marked

-- if the row's shape is either, the value is not empty
abbrev pub HasSome : Shape → List ℕ → Type 0
HasSome bare v = Unit {0}
HasSome apart v = Unit {0}
HasSome (joined d) v = Unit {0}
HasSome (either d) [] = ⊥
HasSome (either d) (x ∷ xs) = Unit {0}

abbrev pub IsClear : {K : Type 0} → Cut K → Type 0
IsClear (raw w) = Unit {0}
IsClear (unknown w) = Unit {0}
IsClear (flag row) = Unit {0}
IsClear (with_value row v h) = HasSome row.shape v

-- options that words were cut into, of which none of an either row has an empty value
pub record AreClear {K : Type 0} (own : List ℕ → Option (Row K)) (dashes : Bool) (options : List (Seen K)) : Type 0 where
  pub words : List (List ℕ)
  pub are : options ≡ map shown (cut own dashes words).options
  pub clear : Each IsClear (cut own dashes words).options

-- an option with a value of a kept kind, a flag without a value, an unknown flag, or, if no mark ends the options, a raw word
abbrev pub IsKept : {K : Type 0} → Bool → (K → Bool) → Cut K → Type 0
IsKept dashes kept (raw w) = dashes ≡ false
IsKept dashes kept (unknown w) = Unit {0}
IsKept dashes kept (flag row) = Unit {0}
IsKept dashes kept (with_value row v h) = kept row.kind ≡ true

-- the row owns the first of the words
abbrev pub FirstIsOwned : {K : Type 0} → (List ℕ → Option (Row K)) → Bool → Row K → List (List ℕ) → Type 0
FirstIsOwned own dashes row [] = ⊥
FirstIsOwned own dashes row (w ∷ ws) = Owns own dashes w row

-- the row of the option, if it has one, owns the first word that the option prints
abbrev pub PrintsOwned : {K : Type 0} → (List ℕ → Option (Row K)) → Bool → (List ℕ → NormalizedDisposition) → Cut K → Type 0
PrintsOwned own dashes to (raw w) = Unit {0}
PrintsOwned own dashes to (unknown w) = Unit {0}
PrintsOwned own dashes to (flag row) = FirstIsOwned own dashes row (spelled_on to (shown (flag row)))
PrintsOwned own dashes to (with_value row v h) = FirstIsOwned own dashes row (spelled_on to (shown (with_value row v h)))

-- the first raw word is an input or the mark
abbrev pub FirstRaw : {K : Type 0} → (List ℕ → Option (Row K)) → Bool → List (Cut K) → Type 0
FirstRaw own dashes [] = Unit {0}
FirstRaw own dashes (raw w ∷ cs) = IsInput own dashes w ⊎ (is_mark dashes w ≡ true)
FirstRaw own dashes (unknown w ∷ cs) = FirstRaw own dashes cs
FirstRaw own dashes (flag row ∷ cs) = FirstRaw own dashes cs
FirstRaw own dashes (with_value row v h ∷ cs) = FirstRaw own dashes cs

-- the input, after the mark if it is marked
abbrev pub input_words : Bool → List ℕ → List (List ℕ)
input_words marked x = dash_words marked ++ x ∷ []
