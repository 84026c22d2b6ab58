-- What only own options have, and the lists of a command do not.
use Rattle.std.proofs.Common.{◌≡◌, ℕ, Bool, true, false, cond, List, [], ◌∷◌, ◌++◌, map, filter, refl, sym, ap, ◌∙◌}
use Rattle.std.proofs.lemmas.Grind.{flat_map-append}
use Rattle.std.proofs.lemmas.List.{append-nil}
use Rattle.std.specs.List.{flat_map}
use Rattle.scl_values.specs.Each.{Each}
use Rattle.scl_values.specs.Seen.{Seen, Plain, plain_seen}
use Rattle.scl_values.specs.Seen as plain
use Rattle.scl_args.specs.Commands.{Inner, Said, CommandList, handed_words, handed, carried}

none-passed : {K X : Type 0} (has : Plain K → List X) (p : Seen K → Bool) → ((o : Seen K) → p o ≡ true → has (plain_seen o) ≡ []) → (os : List (Seen K)) → flat_map has (map plain_seen (filter p os)) ≡ []
none-passed has p none [] = refl
none-passed has p none (o ∷ os) = elim (p o) as (λ b. p o ≡ b → flat_map has (map plain_seen (cond b (o ∷ filter p os) (filter p os))) ≡ []) [
  | true ↦ λ e. rw (none o e) (none-passed has p none os)
  | false ↦ λ e. none-passed has p none os
] refl

-- `has` gives what an option has
module _ {K J X : Type 0} (has : Plain K → List X) where
  -- an inner command line whose words are cut into options that have nothing of it
  abbrev pub HandsNone : Inner K J → Type 0
  HandsNone i = (w : List ℕ) → has (plain.value i.flag i.kind w) ≡ []

  none-values : (i : Inner K J) → HandsNone i → (ws : List (List ℕ)) → flat_map has (map (λ w. let o : Plain K = plain.value i.flag i.kind w in o) ws) ≡ []
  none-values i none [] = refl
  none-values i none (w ∷ ws) = rw (none w) (none-values i none ws)

  none-handed : (l : CommandList K J) (is : List (Inner K J)) → Each HandsNone is → flat_map has (flat_map (handed l) is) ≡ []
  none-handed l [] none = refl
  none-handed l (i ∷ is) none =
      flat_map-append has (handed l i) (flat_map (handed l) is)
      ∙ (ap (λ xs. xs ++ flat_map has (flat_map (handed l) is)) (none-values i none.0 (handed_words l i)) ∙ none-handed l is none.1)

  -- a list that carries and adds no option that has any of it
  pub record HasNone (l : CommandList K J) : Type 0 where
    pub carries_none : (o : Seen K) → l.carries o ≡ true → has (plain_seen o) ≡ []
    pub adds_none : flat_map has l.added ≡ []

  none-carried : (said : Said K J) (l : CommandList K J) → Each HandsNone said.inners → HasNone l → flat_map has (carried said l) ≡ []
  none-carried said l inners none =
      flat_map-append has (map plain_seen (filter l.carries said.options) ++ flat_map (handed l) said.inners) l.added
      ∙ (ap (λ xs. flat_map has (map plain_seen (filter l.carries said.options) ++ flat_map (handed l) said.inners) ++ xs) none.adds_none
      ∙ (ap (λ xs. xs ++ []) (flat_map-append has (map plain_seen (filter l.carries said.options)) (flat_map (handed l) said.inners))
      ∙ (ap (λ xs. xs ++ flat_map has (flat_map (handed l) said.inners) ++ []) (none-passed has l.carries none.carries_none said.options)
      ∙ ap (λ xs. xs ++ []) (none-handed l said.inners inners))))

  none-lists : (said : Said K J) (ls : List (CommandList K J)) → Each HandsNone said.inners → Each HasNone ls → flat_map has (flat_map (carried said) ls) ≡ []
  none-lists said [] inners none = refl
  none-lists said (l ∷ ls) inners none =
      flat_map-append has (carried said l) (flat_map (carried said) ls)
      ∙ (ap (λ xs. xs ++ flat_map has (flat_map (carried said) ls)) (none-carried said l inners none.0) ∙ none-lists said ls inners none.1)

  -- own options and such lists together have what the own options have
  pub own-alone : (said : Said K J) (front back : List (Plain K)) (ls : List (CommandList K J)) → Each HandsNone said.inners → Each HasNone ls →
      flat_map has (front ++ flat_map (carried said) ls ++ back) ≡ flat_map has (front ++ back)
  own-alone said front back ls inners none =
      flat_map-append has (front ++ flat_map (carried said) ls) back
      ∙ (ap (λ xs. xs ++ flat_map has back) (flat_map-append has front (flat_map (carried said) ls)
      ∙ (ap (λ xs. flat_map has front ++ xs) (none-lists said ls inners none) ∙ append-nil (flat_map has front)))
      ∙ sym (flat_map-append has front back))
