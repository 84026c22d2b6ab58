-- Words that are no options: the lists of a command have none.
use Rattle.std.proofs.Common.{◌≡◌, ℕ, Bool, true, false, List, [], ◌++◌, None, Some, refl, sym, ◌∙◌}
use Rattle.std.specs.List.{flat_map}
use Rattle.scl_values.specs.Each.{Each}
use Rattle.scl_values.specs.Seen.{Seen, Raw, Unknown, Known, Plain, plain_seen}
use Rattle.scl_args.specs.Commands.{Said, CommandList, carried, raw_word, raw_words}
use Rattle.scl_args.proofs.NoneLaws.{HandsNone, HasNone, own-alone}
use Rattle.scl_args.proofs.ValuesLaws.{each-all, each-map}

not-raw : {K : Type 0} (p : Seen K → Bool) → ((w : List ℕ) → p (Raw w) ≡ false) → (o : Seen K) → p o ≡ true → raw_word (plain_seen o) ≡ []
not-raw p none (Raw w) e = absurd (let no : false ≡ true = sym (none w) ∙ e in cc)
not-raw p none (Unknown w) e = refl
not-raw p none (Known f k v None) e = refl
not-raw p none (Known f k v (Some h)) e = refl

module _ {K J : Type 0} where
  -- a list that carries no raw option, and to which none is added
  pub record HasNoRaws (l : CommandList K J) : Type 0 where
    pub carries_none : (w : List ℕ) → l.carries (Raw w) ≡ false
    pub adds_none : raw_words l.added ≡ []

  has-none : (l : CommandList K J) → HasNoRaws l → HasNone raw_word l
  has-none l none = record { carries_none = not-raw l.carries none.carries_none; adds_none = none.adds_none }

  -- the raw words of own options and of such lists are those of the own options
  pub raws-own : (said : Said K J) (front back : List (Plain K)) (ls : List (CommandList K J)) → Each HasNoRaws ls →
      raw_words (front ++ flat_map (carried said) ls ++ back) ≡ raw_words (front ++ back)
  raws-own said front back ls none =
      own-alone raw_word said front back ls (each-all (HandsNone raw_word) (λ i w. refl) said.inners) (each-map HasNoRaws (HasNone raw_word) has-none ls none)
