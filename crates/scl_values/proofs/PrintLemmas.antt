-- How many words and texts an option prints.
use Rattle.std.proofs.Common.{◌≡◌, ℕ, ◌<◌, ◌≤◌, Bool, List, [], ◌∷◌, length, map, refl, Option, None, Some, Result, Ok, Err, String, Vec, ap, arith}
use Rattle.std.specs.Iterator.{Drains, Yields}
use Rattle.std.specs.declared.alloc.AllocError.{AllocError}
use Rattle.std.specs.declared.alloc.Global.{Global}
use Rattle.scl_values.specs.declared.argument.ArgDisposition.TheVariants as how
use Rattle.scl_values.specs.declared.argument.Argument.{Argument}
use Rattle.scl_values.specs.declared.argument.Argument.TheVariants as argument
use Rattle.scl_values.specs.declared.error.ArgToStringError.{ArgToStringError}
use Rattle.scl_values.specs.Seen.{Seen, Raw, Unknown, Known, seen}
use Rattle.scl_values.specs.Spell.{spelled, YieldsWords}
use Rattle.scl_values.specs.Texts.{Item, Printer, printer, items_shown, word_shown, PrintsFirst, PrintsNext}

items_few : (option : Seen Bool) → length (items_shown option) ≤ 2
items_few (Raw w) = omega arith
items_few (Unknown w) = omega arith
items_few (Known f p v None) = omega arith
items_few (Known f p v (Some how.Separated)) = omega arith
items_few (Known f p v (Some (how.CanBeConcatenated d))) = omega arith
items_few (Known f p v (Some (how.CanBeSeparated d))) = omega arith
items_few (Known f p v (Some (how.Concatenated d))) = omega arith

spelled_few : {K : Type 0} (option : Seen K) → (0 < length (spelled option)) × (length (spelled option) ≤ 2)
spelled_few (Raw w) = (omega arith, omega arith)
spelled_few (Unknown w) = (omega arith, omega arith)
spelled_few (Known f p v None) = (omega arith, omega arith)
spelled_few (Known f p v (Some how.Separated)) = (omega arith, omega arith)
spelled_few (Known f p v (Some (how.CanBeConcatenated d))) = (omega arith, omega arith)
spelled_few (Known f p v (Some (how.CanBeSeparated d))) = (omega arith, omega arith)
spelled_few (Known f p v (Some (how.Concatenated d))) = (omega arith, omega arith)

module _ {F : Type 0} (calls : F → List ℕ → Option (String Global) → F → Type 0) where
  first_shortens : (left : List Item) (f : F) (result : Result (String Global) ArgToStringError) (t : Printer F) → PrintsFirst calls left f result t → length t.left < length left
  first_shortens [] f result t h = absurd h
  first_shortens (item ∷ items) f (Ok text) t h = omega (arith, ap length h.1)
  first_shortens (item ∷ items) f (Err e) t h = omega (arith, ap length h.1)

  texts_bounded : (s : Printer F) (items : List (Result (String Global) ArgToStringError)) (t : Printer F) → Yields (PrintsNext calls) s items t → length items ≤ length s.left
  texts_bounded s [] t h = omega arith
  texts_bounded s (item ∷ items) t h =
      let one : length h.0.left < length s.left = first_shortens s.left s.closure item h.0 h.1 in
      let others : length items ≤ length h.0.left = texts_bounded h.0 items t h.2 in
      omega arith

  -- an option prints at most two texts
  pub texts_few : (f : F) (option : Seen Bool) (items : List (Result (String Global) ArgToStringError)) → Drains (PrintsNext calls) (printer f option) items → length items ≤ 2
  texts_few f option items h = omega (arith, items_few option, texts_bounded (printer f option) items h.1.0 h.1.1)

word_shortens : (s : List (List ℕ)) (item : Result (Vec ℕ Global) AllocError) (t : List (List ℕ)) → YieldsWords (λ w. w) s (Some item) t → length t < length s
word_shortens s (Ok word) t h = omega (arith, ap length h)
word_shortens s (Err e) t h = omega (arith, ap length h.1)

words_bounded : (s : List (List ℕ)) (items : List (Result (Vec ℕ Global) AllocError)) (t : List (List ℕ)) → Yields (YieldsWords (λ w. w)) s items t → length items ≤ length s
words_bounded s [] t h = omega arith
words_bounded s (item ∷ items) t h =
    let one : length h.0 < length s = word_shortens s item h.0 h.1 in
    let others : length items ≤ length h.0 = words_bounded h.0 items t h.2 in
    omega arith

words_some : (s : List (List ℕ)) (items : List (Result (Vec ℕ Global) AllocError)) → 0 < length s → Drains (YieldsWords (λ w. w)) s items → 0 < length items
words_some s [] some h = absurd (omega (arith, ap length h.1.1, ap length h.1.2.0))
words_some s (item ∷ items) some h = omega arith

-- an option prints one word or two
pub words_few : {K : Type 0} (option : Seen K) (items : List (Result (Vec ℕ Global) AllocError)) → Drains (YieldsWords (λ w. w)) (spelled option) items
    → (0 < length items) × (length items ≤ 2)
words_few option items h =
    (words_some (spelled option) items (spelled_few option).0 h, omega (arith, (spelled_few option).1, words_bounded (spelled option) items h.1.0 h.1.1))

-- the items of an option, if they print as they are, are its words
pub texts_are_words : {K T : Type 0} (is_path : T → Bool) (kind_of : T → K) (word_of : T → List ℕ) (option : Argument T) → map word_shown (items_shown (seen is_path word_of option)) ≡ spelled (seen kind_of word_of option)
texts_are_words p k v (argument.Raw w) = refl
texts_are_words p k v (argument.UnknownFlag w) = refl
texts_are_words p k v (argument.Flag name value) = refl
texts_are_words p k v (argument.WithValue name value how.Separated) = refl
texts_are_words p k v (argument.WithValue name value (how.CanBeConcatenated d)) = refl
texts_are_words p k v (argument.WithValue name value (how.CanBeSeparated d)) = refl
texts_are_words p k v (argument.WithValue name value (how.Concatenated d)) = refl
