-- An object, as far as its command says whether it names the place where it is made.
use Rattle.std.specs.Prelude.{ℕ, Bool, nat_eq, nat_lt, ◌&&◌, ◌||◌, not, List, length, codes}
use Rattle.std.specs.List.{list_any, starts_with}
use Rattle.scl_catalogue.specs.Lookup.{Lexicon, naming_of}
use Rattle.scl_shared_key.specs.Namings.{is_anything, is_debug_info}

-- an object, as its command makes it
pub record Object : Type 0 where
  -- Gcc makes it
  pub is_by_gcc : Bool
  -- C is compiled, not C++
  pub is_of_c : Bool
  -- C or C++ is compiled to an object, and runs show the words of the preprocessor. Not Objective-C: Clang writes the path of the
  -- source into its objects
  pub is_of_shown_text : Bool
  -- nothing else comes out but objects and files of dependencies, which have no names but those that an object has, or are texts
  pub is_alone : Bool
  -- what a catalogue says of the words of its command
  pub lexicon : Lexicon
  -- the words of the command that may make it name something
  pub words : List (List ℕ)

-- another output comes out with it, or a word may make it name anything
abbrev pub may_name_anything : Object → Bool
may_name_anything o = not o.is_alone || list_any (λ word. is_anything (naming_of o.lexicon word)) o.words

abbrev pub has_debug_info : Object → Bool
has_debug_info o = list_any (λ word. is_debug_info (naming_of o.lexicon word)) o.words

-- Maps reach all names in debug information: not those that Clang gives lambdas and their like in C++, by their place.
abbrev pub maps_reach : Object → Bool
maps_reach o = o.is_by_gcc || o.is_of_c

-- a word that defines a macro
abbrev pub is_macro : List ℕ → Bool
is_macro word = starts_with nat_eq word (codes "-D") && nat_lt 2 (length word)
