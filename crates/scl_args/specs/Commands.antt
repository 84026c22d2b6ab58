-- Commands that are read again.
use Rattle.std.specs.Prelude.{◌≡◌, ℕ, Bool, false, List, [], ◌∷◌, ◌++◌, map, filter, cond}
use Rattle.std.specs.List.{flat_map}
use Rattle.std.specs.Str.{bytes_eq}
use Rattle.scl_values.specs.Each.{Each}
use Rattle.scl_args.specs.Options.{list, side_of_flag}
use Rattle.scl_values.specs.Row.{Row}
use Rattle.scl_values.specs.Seen.{Seen, Plain, plain_seen}
use Rattle.scl_values.specs.Seen as plain
use Rattle.scl_values.specs.Tables.{owner_in}
use Rattle.scl_args.specs.Reads.{read, cleanly}

-- ---- what a command line says

-- an inner command line: its words are the values of the options with this flag and kind; and what they are cut into
pub record Inner (K J : Type 0) : Type 0 where
  pub flag : List ℕ
  pub kind : K
  pub options : List (Seen J)

-- the options of a command line, and its inner command lines
pub record Said (K J : Type 0) : Type 0 where
  pub options : List (Seen K)
  pub inners : List (Inner K J)

-- ---- what a command is made of

-- a list of options: those that it carries of the command line, those of inner command lines, and those that it adds
pub record CommandList (K J : Type 0) : Type 0 where
  pub carries : Seen K → Bool
  pub carries_inner : Seen J → Bool
  pub added : List (Plain K)

-- own options in front, the lists, and own options at the end; the input is one of the own options
pub record Parts (K J : Type 0) : Type 0 where
  pub front : List (Plain K)
  pub lists : List (CommandList K J)
  pub back : List (Plain K)

module _ {K J : Type 0} where
  -- the words that the list passes to the inner command line
  abbrev pub handed_words : CommandList K J → Inner K J → List (List ℕ)
  handed_words l inner = list side_of_flag l.carries_inner inner.options

  -- an option for each of them
  abbrev pub handed : CommandList K J → Inner K J → List (Plain K)
  handed l inner = map (λ w. plain.value inner.flag inner.kind w) (handed_words l inner)

  -- the options of the list
  abbrev pub carried : Said K J → CommandList K J → List (Plain K)
  carried said l = map plain_seen (filter l.carries said.options) ++ flat_map (handed l) said.inners ++ l.added

  -- the options of the inner command line that the list carries
  abbrev pub carried_inner : Inner K J → CommandList K J → List (Plain J)
  carried_inner inner l = map plain_seen (filter l.carries_inner inner.options)

-- ---- the command read again

-- the value, if the option's flag is this one
abbrev pub value_at : {K : Type 0} → List ℕ → Plain K → List (List ℕ)
value_at f (plain.raw w) = []
value_at f (plain.unknown w) = []
value_at f (plain.flag g k) = []
value_at f (plain.value g k v) = cond (bytes_eq g f) (v ∷ []) []

-- the values of the flag, in order
abbrev pub values_at : {K : Type 0} → List ℕ → List (Plain K) → List (List ℕ)
values_at f os = flat_map (value_at f) os

-- the words that are no options, in order
abbrev pub raw_word : {K : Type 0} → Plain K → List (List ℕ)
raw_word (plain.raw w) = w ∷ []
raw_word (plain.unknown w) = []
raw_word (plain.flag g k) = []
raw_word (plain.value g k v) = []

abbrev pub raw_words : {K : Type 0} → List (Plain K) → List (List ℕ)
raw_words os = flat_map raw_word os

-- A command's words, cut by the tables, end cleanly, and their options are its own and those of its lists, in order and with
-- unchanged values. The values of each inner command line's flag, cut by the inner tables, are the inner options, list by
-- list. All words that are no options are own ones, as the input is.
pub record IsReadAgain {K J : Type 0} (tables : List (List (Row K))) (dashes : Bool) (inner_tables : List (List (Row J)))
    (said : Said K J) (parts : Parts K J) (words : List (List ℕ)) : Type 0 where
  pub outer : read (owner_in tables) dashes words ≡ cleanly (parts.front ++ flat_map (carried said) parts.lists ++ parts.back)
  pub inner : Each (λ inner. read (owner_in inner_tables) false (values_at inner.flag (read (owner_in tables) dashes words).options)
      ≡ cleanly (flat_map (carried_inner inner) parts.lists)) said.inners
  pub raws : raw_words (read (owner_in tables) dashes words).options ≡ raw_words (parts.front ++ parts.back)
