-- What a printer of an option still has to print.
use Rattle.std.specs.Prelude.{ℕ, Bool, true, List, [], ◌∷◌}
use Rattle.scl_values.specs.declared.left.Left.{Left}
use Rattle.scl_values.specs.declared.left.Left.TheVariants as left
use Rattle.scl_values.specs.Seen.{seen}
use Rattle.scl_values.specs.Spell.{spelled}
use Rattle.scl_values.specs.Texts.{Item, alone, items_shown, is_delimited_by_ascii}

-- the words that are left
abbrev pub words_left : {T K : Type 0} → (T → K) → (T → List ℕ) → Left T → List (List ℕ)
words_left kind_of word_of (left.Whole option) = spelled (seen kind_of word_of option.now)
words_left kind_of word_of (left.Value value) = word_of value.now ∷ []
words_left kind_of word_of left.Nothing = []

-- the items that are left
abbrev pub items_left : {T : Type 0} → (T → Bool) → (T → List ℕ) → Left T → List Item
items_left is_path word_of (left.Whole option) = items_shown (seen is_path word_of option.now)
items_left is_path word_of (left.Value value) = alone (is_path value.now) (word_of value.now) ∷ []
items_left is_path word_of left.Nothing = []

-- whether the delimiter that is left to print, if there is one, is an ASCII byte
abbrev pub has_ascii_left : {T : Type 0} → Left T → Bool
has_ascii_left (left.Whole option) = is_delimited_by_ascii option.now
has_ascii_left (left.Value value) = true
has_ascii_left left.Nothing = true
