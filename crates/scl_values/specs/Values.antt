-- Values that print the word that they were made from, and the laws of these.
use Rattle.std.specs.Prelude.{◌≡◌, ◌≢◌, ℕ, Bool, true, false, List, [], Result, Ok, Err, IsOkAnd, ◌⊎◌, codes}
use Rattle.std.proofs.Common.{inl, inr}
use Rattle.scl_values.specs.declared.error.ArgParseError.{ArgParseError}
use Rattle.scl_values.specs.declared.error.ArgParseError.TheVariants as error

-- the error of a kind that holds no value, made from a word that is not empty
abbrev pub IsNoValueError : ArgParseError → Type 0
IsNoValueError error.UnexpectedEndOfArgs = ⊥
IsNoValueError (error.InvalidUnicode word) = ⊥
IsNoValueError (error.Other text) = text.now ≡ codes "flag takes no value"
IsNoValueError error.Memory = ⊥

module _ {K T : Type 0} (kind_of : T → K) (word_of : T → List ℕ) (holds_value : K → Bool) where
  -- a value of the kind that prints the word; or an error, if the kind holds no value and the word is not empty
  abbrev pub MakesOf : K → List ℕ → Result T ArgParseError → Type 0
  MakesOf kind word (Ok value) = (kind_of value ≡ kind) × (word_of value ≡ word)
  MakesOf kind word (Err e) = IsNoValueError e × (holds_value kind ≡ false) × (word ≢ [])

  pub exact : (kind : K) (word : List ℕ) (made : Result T ArgParseError) → (holds_value kind ≡ true) ⊎ (word ≡ []) → MakesOf kind word made
      → IsOkAnd made (λ value. (kind_of value ≡ kind) × (word_of value ≡ word))
  exact kind word (Ok value) can h = h
  exact kind word (Err e) (inl holds) h = absurd (let other : holds_value kind ≡ false = h.1 in cc)
  exact kind word (Err e) (inr none) h = absurd (h.2 none)

  pub keeps : (kind : K) (word : List ℕ) (value : T) → MakesOf kind word (Ok value) → (kind_of value ≡ kind) × (word_of value ≡ word)
  keeps kind word value h = h
