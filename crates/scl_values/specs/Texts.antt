-- Options as texts: what a value and an option print, and how a text is split.
use Rattle.std.specs.Prelude.{◌≡◌, ℕ, Bool, true, false, cond, List, [], ◌∷◌, ◌++◌, length, drop, nat_eq, is_ok, Option, None, Some, Result, Ok, Err, MatchResult, ◌⊎◌, if◌then◌else◌, String}
use Rattle.std.specs.Str.{IsUtf8}
use Rattle.std.specs.List.{starts_with}
use Rattle.std.specs.Option.{option_map}
use Rattle.std.specs.String.{string_bytes}
use Rattle.std.specs.declared.alloc.Global.{Global}
use Rattle.scl_values.specs.declared.argument.ArgDisposition.{ArgDisposition}
use Rattle.scl_values.specs.declared.argument.ArgDisposition.TheVariants as how
use Rattle.scl_values.specs.declared.argument.Argument.{Argument}
use Rattle.scl_values.specs.declared.argument.Argument.TheVariants as argument
use Rattle.scl_values.specs.declared.error.ArgParseError.{ArgParseError}
use Rattle.scl_values.specs.declared.error.ArgParseError.TheVariants as parse_error
use Rattle.scl_values.specs.declared.error.ArgToStringError.{ArgToStringError}
use Rattle.scl_values.specs.declared.error.ArgToStringError.TheVariants as error
use Rattle.scl_values.specs.Row.{shape_of}
use Rattle.scl_values.specs.Tables.{has_ascii_delimiter}
use Rattle.scl_values.specs.Seen.{Seen, Raw, Unknown, Known}
use Rattle.scl_values.specs.Spell.{delimited}

-- ---- how a value prints as a text

-- the word is not UTF-8, and the error holds it; or an allocation failed
abbrev pub IsNotText : List ℕ → ArgToStringError → Type 0
IsNotText word (error.FailedPathTransform w) = ⊥
IsNotText word (error.InvalidUnicode w) = (w.items ≡ word) × ¬ (IsUtf8 word)
IsNotText word error.Memory = Unit {0}

-- the error holds the path, for which there is no text; or an allocation failed
abbrev pub IsNotTransformed : List ℕ → ArgToStringError → Type 0
IsNotTransformed path (error.FailedPathTransform w) = w.items ≡ path
IsNotTransformed path (error.InvalidUnicode w) = ⊥
IsNotTransformed path error.Memory = Unit {0}

abbrev pub IsWantOfMemory : ArgToStringError → Type 0
IsWantOfMemory (error.FailedPathTransform w) = ⊥
IsWantOfMemory (error.InvalidUnicode w) = ⊥
IsWantOfMemory error.Memory = Unit {0}

-- what a word prints
abbrev pub IsWord : List ℕ → Result (String Global) ArgToStringError → Type 0
IsWord word result = MatchResult result (λ printed. string_bytes printed ≡ word) (IsNotText word)

-- what a path prints: exactly what the closure gave
abbrev pub IsAnswer : List ℕ → Option (String Global) → Result (String Global) ArgToStringError → Type 0
IsAnswer path None result = MatchResult result (λ _. ⊥) (IsNotTransformed path)
IsAnswer path (Some text) result = result ≡ Ok text

-- what a flag and a value print as one text, if the value by itself prints this
abbrev pub IsJoined : List ℕ → Option ℕ → Result (String Global) ArgToStringError → Result (String Global) ArgToStringError → Type 0
IsJoined flag d (Ok text) result = MatchResult result (λ printed. string_bytes printed ≡ flag ++ delimited d (string_bytes text)) IsWantOfMemory
IsJoined flag d (Err e) result = result ≡ Err e

-- ---- how an option prints as texts

-- an item of an option: a word by itself; or a word after a flag, with a delimiter between them if the word's text is not
-- empty. The Bool says whether the word is a path
pub data Item : Type 0 where
  alone : Bool → List ℕ → Item
  behind : List ℕ → Option ℕ → Bool → List ℕ → Item

-- the item, if its word prints as it is
abbrev pub word_shown : Item → List ℕ
word_shown (alone is_path word) = word
word_shown (behind flag d is_path word) = flag ++ delimited d word

-- a flag with its value, as items
abbrev pub value_items : List ℕ → Bool → List ℕ → ArgDisposition → List Item
value_items flag is_path value how.Separated = alone false flag ∷ (alone is_path value ∷ [])
value_items flag is_path value (how.CanBeConcatenated d) = alone false flag ∷ (alone is_path value ∷ [])
value_items flag is_path value (how.CanBeSeparated d) = behind flag d is_path value ∷ []
value_items flag is_path value (how.Concatenated d) = behind flag d is_path value ∷ []

-- the items of an option, seen with whether its value is a path
abbrev pub items_shown : Seen Bool → List Item
items_shown (Raw w) = alone false w ∷ []
items_shown (Unknown w) = alone false w ∷ []
items_shown (Known f is_path v None) = alone false f ∷ []
items_shown (Known f is_path v (Some d)) = value_items f is_path v d

-- whether the option's delimiter, if it has one, is an ASCII byte
abbrev pub is_delimited_by_ascii : {T : Type 0} → Argument T → Bool
is_delimited_by_ascii (argument.Raw w) = true
is_delimited_by_ascii (argument.UnknownFlag w) = true
is_delimited_by_ascii (argument.Flag name value) = true
is_delimited_by_ascii (argument.WithValue name value d) = has_ascii_delimiter (shape_of d)

-- a printer of an option's texts: the closure in its current state, and the items that are left
pub record Printer (F : Type 0) : Type 0 where
  pub closure : F
  pub left : List Item

-- the printer of an option before its first item
abbrev pub printer : {F : Type 0} → F → Seen Bool → Printer F
printer f option = record { closure = f; left = items_shown option }

module _ {F : Type 0} (calls : F → List ℕ → Option (String Global) → F → Type 0) where
  -- what a value prints: of a path what one call of the closure gives; of any other value its word, without a call
  abbrev pub Prints : Bool → List ℕ → F → Result (String Global) ArgToStringError → F → Type 0
  Prints true path f result g = (answer : Option (String Global)) × calls f path answer g × IsAnswer path answer result
  Prints false word f result g = (g ≡ f) × IsWord word result

  -- what a value prints after its flag
  abbrev pub PrintsBehind : List ℕ → Option ℕ → Bool → List ℕ → F → Result (String Global) ArgToStringError → F → Type 0
  PrintsBehind flag d is_path word f result g = (value : Result (String Global) ArgToStringError) × Prints is_path word f value g × IsJoined flag d value result

  abbrev pub PrintsItem : Item → F → Result (String Global) ArgToStringError → F → Type 0
  PrintsItem (alone is_path word) = Prints is_path word
  PrintsItem (behind flag d is_path word) = PrintsBehind flag d is_path word

  -- the first item prints, and the others are left; after an error none are left
  abbrev pub PrintsFirst : List Item → F → Result (String Global) ArgToStringError → Printer F → Type 0
  PrintsFirst [] f result t = ⊥
  PrintsFirst (item ∷ items) f result t = PrintsItem item f result t.closure × (t.left ≡ (if is_ok result then items else []))

  -- what a call of `next` gives
  abbrev pub PrintsNext : Printer F → Option (Result (String Global) ArgToStringError) → Printer F → Type 0
  PrintsNext s None t = (s.left ≡ []) × (t.left ≡ []) × (t.closure ≡ s.closure)
  PrintsNext s (Some result) t = PrintsFirst s.left s.closure result t

-- ---- words that must be text when options are made

abbrev pub IsInvalidUnicode : List ℕ → ArgParseError → Type 0
IsInvalidUnicode word parse_error.UnexpectedEndOfArgs = ⊥
IsInvalidUnicode word (parse_error.InvalidUnicode w) = (w.items ≡ word) × ¬ (IsUtf8 word)
IsInvalidUnicode word (parse_error.Other reason) = ⊥
IsInvalidUnicode word parse_error.Memory = ⊥

-- the text before the first occurrence of the needle, or all of it
abbrev pub before_text : List ℕ → List ℕ → List ℕ
before_text needle [] = []
before_text needle (x ∷ xs) = cond (starts_with nat_eq (x ∷ xs) needle) [] (x ∷ before_text needle xs)

-- the text after the first occurrence of the needle, if there is one
abbrev pub after_text : List ℕ → List ℕ → Option (List ℕ)
after_text needle [] = cond (starts_with nat_eq [] needle) (Some []) None
after_text needle (x ∷ xs) = cond (starts_with nat_eq (x ∷ xs) needle) (Some (drop (length needle) (x ∷ xs))) (after_text needle xs)

-- the word is text, split at the first needle; or it is not text, and the error holds it; or an allocation failed
abbrev pub IsSplitAt : List ℕ → List ℕ → Result (String Global × Option (String Global)) ArgParseError → Type 0
IsSplitAt needle word result =
    MatchResult result
    (λ parts. IsUtf8 word × (string_bytes parts.0 ≡ before_text needle word) × (option_map string_bytes parts.1 ≡ after_text needle word))
    (λ e. (e ≡ parse_error.Memory) ⊎ IsInvalidUnicode word e)
