use Rattle.std.proofs.Common.{◌≡◌, ℕ, Bool, true, false, List, [], ◌∷◌, ◌++◌, map, filter, refl, ap, ◌∙◌}
use Rattle.std.proofs.lemmas.List.{append-nil}
use Rattle.std.specs.List.{flat_map}
use Rattle.scl_values.specs.declared.argument.NormalizedDisposition.{NormalizedDisposition}
use Rattle.scl_values.specs.Each.{Each}
use Rattle.scl_args.specs.Options.{list, side_of_flag}
use Rattle.scl_values.specs.Row.{Row}
use Rattle.scl_values.specs.Tables.{owner_in, all_rows}
use Rattle.scl_values.specs.Cuts.{Cut}
use Rattle.scl_values.specs.Seen.{Plain, shown, plain_seen}
use Rattle.scl_values.specs.Seen as plain
use Rattle.scl_args.specs.Checks.{PassChecks, has_no_kept}
use Rattle.scl_args.specs.Commands.{Inner, Said, CommandList, Parts, handed_words, handed, carried, carried_inner, values_at, raw_words, IsReadAgain}
use Rattle.scl_args.specs.Origins.{AreClear, IsKept}
use Rattle.scl_args.specs.Reads.{read, behind, cleanly, Reads}
use Rattle.scl_args.proofs.RawLaws.{HasNoRaws, raws-own}
use Rattle.scl_args.proofs.ReadsLaws.{reads-nil, reads-append, reads-all, reads-lists, reads-last}
use Rattle.scl_args.proofs.ValuesLaws.{each-map, each-all, each-three, values_at-append, HaveOwnFlags, values-handed}
use Rattle.scl_args.proofs.ListLaws.{listed-again, listed-none}

-- ---- the lists of a command

module _ {K J : Type 0} (tables : List (List (Row K))) (dashes : Bool) (inner_tables : List (List (Row J))) (kept : K → Bool) (inner_kept : J → Bool) (to : List ℕ → NormalizedDisposition)
    (wrapped : Inner K J → List ℕ → List (List ℕ)) where
  abbrev Again : List (List ℕ) → List (Plain K) → Type 0
  Again ws os = Reads (owner_in tables) dashes ws os

  -- what is needed of an inner command line: its options are clear, its words are read again where they are wrapped, and no
  -- other option has its flag
  pub record IsInner (i : Inner K J) : Type 0 where
    pub clear : AreClear (owner_in inner_tables) false i.options
    pub wraps : (w : List ℕ) → Again (wrapped i w) (plain.value i.flag i.kind w ∷ [])
    pub alone : has_no_kept kept i.flag (all_rows tables) ≡ true

  -- what is needed of a list: it carries only options of kept kinds and unknown ones, and adds nothing with an inner command
  -- line's flag
  pub record IsList (inners : List (Inner K J)) (l : CommandList K J) : Type 0 where
    pub keeps : (c : Cut K) → l.carries (shown c) ≡ true → IsKept dashes kept c
    pub keeps_inner : (c : Cut J) → l.carries_inner (shown c) ≡ true → IsKept false inner_kept c
    pub adds_none : Each (λ i. values_at i.flag l.added ≡ []) inners

  -- the words of a list
  abbrev pub list_words : Said K J → CommandList K J → List (List ℕ) → List (List ℕ)
  list_words said l added = list to l.carries said.options ++ flat_map (λ i. flat_map (wrapped i) (handed_words l i)) said.inners ++ added

  module _ (pass : PassChecks tables kept to) (inner_pass : PassChecks inner_tables inner_kept side_of_flag) (said : Said K J)
      (clear : AreClear (owner_in tables) dashes said.options) (inners : Each IsInner said.inners) (own_flags : HaveOwnFlags said.inners) where
    handed-again : (l : CommandList K J) (i : Inner K J) → IsInner i → Again (flat_map (wrapped i) (handed_words l i)) (handed l i)
    handed-again l i ok = reads-all (owner_in tables) dashes (wrapped i) (λ w. plain.value i.flag i.kind w) (handed_words l i)
        (each-all (λ w. Again (wrapped i w) (plain.value i.flag i.kind w ∷ [])) ok.wraps (handed_words l i))

    -- the words of a list are read as its options
    pub list-again : (l : CommandList K J) → IsList said.inners l → (added : List (List ℕ)) → Again added l.added → Again (list_words said l added) (carried said l)
    list-again l ok added add = reads-append (owner_in tables) dashes _ _ _ _ (reads-append (owner_in tables) dashes _ _ _ _
        (listed-again tables dashes kept said.options clear l.carries ok.keeps to pass)
        (reads-lists (owner_in tables) dashes (λ i. flat_map (wrapped i) (handed_words l i)) (handed l) said.inners
        (each-map IsInner (λ i. Again (flat_map (wrapped i) (handed_words l i)) (handed l i)) (handed-again l) said.inners inners))) add

    -- the inner words of a list are read as the inner options
    inner-again : (l : CommandList K J) → IsList said.inners l → (i : Inner K J) → IsInner i → Reads (owner_in inner_tables) false (handed_words l i) (carried_inner i l)
    inner-again l ok i inner = listed-again inner_tables false inner_kept i.options inner.clear l.carries_inner ok.keeps_inner side_of_flag inner_pass

    abbrev HasItsWords : CommandList K J → Inner K J → Type 0
    HasItsWords l i = values_at i.flag (carried said l) ≡ handed_words l i

    has-its-words : (l : CommandList K J) → IsList said.inners l → (i : Inner K J) → IsInner i → values_at i.flag (flat_map (handed l) said.inners) ≡ handed_words l i → values_at i.flag l.added ≡ [] → HasItsWords l i
    has-its-words l ok i inner e none =
        values_at-append i.flag (map plain_seen (filter l.carries said.options) ++ flat_map (handed l) said.inners) l.added
        ∙ (ap (λ vs. values_at i.flag (map plain_seen (filter l.carries said.options) ++ flat_map (handed l) said.inners) ++ vs) none
        ∙ (append-nil (values_at i.flag (map plain_seen (filter l.carries said.options) ++ flat_map (handed l) said.inners))
        ∙ (values_at-append i.flag (map plain_seen (filter l.carries said.options)) (flat_map (handed l) said.inners)
        ∙ (ap (λ vs. vs ++ values_at i.flag (flat_map (handed l) said.inners)) (listed-none tables dashes kept said.options clear l.carries ok.keeps i.flag inner.alone) ∙ e))))

    -- for each inner command line, what the lists have of it
    words-of : (l : CommandList K J) → IsList said.inners l → Each (HasItsWords l) said.inners
    words-of l ok = each-three IsInner (λ i. values_at i.flag (flat_map (handed l) said.inners) ≡ handed_words l i) (λ i. values_at i.flag l.added ≡ []) (HasItsWords l)
        (has-its-words l ok) said.inners inners (values-handed l said.inners own_flags) ok.adds_none

    abbrev HaveItsWords : List (CommandList K J) → Inner K J → Type 0
    HaveItsWords ls i = (values_at i.flag (flat_map (carried said) ls) ≡ flat_map (λ l. handed_words l i) ls)
        × Reads (owner_in inner_tables) false (flat_map (λ l. handed_words l i) ls) (flat_map (carried_inner i) ls)

    one-more : (l : CommandList K J) (ls : List (CommandList K J)) → IsList said.inners l → (i : Inner K J) → IsInner i → HasItsWords l i → HaveItsWords ls i → HaveItsWords (l ∷ ls) i
    one-more l ls ok i inner here there = (
      values_at-append i.flag (carried said l) (flat_map (carried said) ls)
          ∙ (ap (λ vs. vs ++ values_at i.flag (flat_map (carried said) ls)) here ∙ ap (λ vs. handed_words l i ++ vs) there.0),
      reads-append (owner_in inner_tables) false _ _ _ _ (inner-again l ok i inner) there.1,
    )

    all-words : (ls : List (CommandList K J)) → Each (IsList said.inners) ls → Each (HaveItsWords ls) said.inners
    all-words [] h = each-all (HaveItsWords []) (λ i. (refl, reads-nil (owner_in inner_tables) false)) said.inners
    all-words (l ∷ ls) h = each-three IsInner (HasItsWords l) (HaveItsWords ls) (HaveItsWords (l ∷ ls)) (one-more l ls h.0) said.inners inners (words-of l h.0) (all-words ls h.1)

    -- what is needed of the rest of a command: own options, in front or at the end, have no value of an inner command line's
    -- flag
    pub record IsRest (parts : Parts K J) (front back : List (List ℕ)) : Type 0 where
      pub lists : Each (IsList said.inners) parts.lists
      pub no_raws : Each HasNoRaws parts.lists
      pub front_read : Again front parts.front
      pub back_read : read (owner_in tables) dashes back ≡ cleanly parts.back
      pub none_in_front : Each (λ i. values_at i.flag parts.front ≡ []) said.inners
      pub none_behind : Each (λ i. values_at i.flag parts.back ≡ []) said.inners

    module _ (parts : Parts K J) (front lists back : List (List ℕ)) (rest : IsRest parts front back) (lists_read : Again lists (flat_map (carried said) parts.lists)) where
      abbrev words : List (List ℕ)
      words = front ++ lists ++ back

      abbrev all : List (Plain K)
      all = parts.front ++ flat_map (carried said) parts.lists ++ parts.back

      outer : read (owner_in tables) dashes words ≡ cleanly all
      outer = (reads-append (owner_in tables) dashes _ _ _ _ rest.front_read lists_read).before back ∙ ap (behind (parts.front ++ flat_map (carried said) parts.lists)) rest.back_read

      values-in-all : (i : Inner K J) → values_at i.flag parts.front ≡ [] → values_at i.flag parts.back ≡ [] → values_at i.flag all ≡ values_at i.flag (flat_map (carried said) parts.lists)
      values-in-all i f b =
          values_at-append i.flag (parts.front ++ flat_map (carried said) parts.lists) parts.back
          ∙ (ap (λ vs. values_at i.flag (parts.front ++ flat_map (carried said) parts.lists) ++ vs) b
          ∙ (append-nil (values_at i.flag (parts.front ++ flat_map (carried said) parts.lists))
          ∙ (values_at-append i.flag parts.front (flat_map (carried said) parts.lists) ∙ ap (λ vs. vs ++ values_at i.flag (flat_map (carried said) parts.lists)) f)))

      abbrev InnerReadAgain : Inner K J → Type 0
      InnerReadAgain i = read (owner_in inner_tables) false (values_at i.flag (read (owner_in tables) dashes words).options) ≡ cleanly (flat_map (carried_inner i) parts.lists)

      inner-read : (i : Inner K J) → values_at i.flag parts.front ≡ [] → values_at i.flag parts.back ≡ [] → HaveItsWords parts.lists i → InnerReadAgain i
      inner-read i f b h =
          ap (λ r. read (owner_in inner_tables) false (values_at i.flag r.options)) outer
          ∙ (ap (read (owner_in inner_tables) false) (values-in-all i f b ∙ h.0)
          ∙ reads-last (owner_in inner_tables) false (flat_map (λ l. handed_words l i) parts.lists) (flat_map (carried_inner i) parts.lists) h.1)

      -- the words of own options in front, of lists, and of own options at the end are read again
      pub command-again : IsReadAgain tables dashes inner_tables said parts words
      command-again = record {
        outer = outer;
        inner = each-three (λ i. values_at i.flag parts.front ≡ []) (λ i. values_at i.flag parts.back ≡ []) (HaveItsWords parts.lists) InnerReadAgain
            inner-read said.inners rest.none_in_front rest.none_behind (all-words parts.lists rest.lists);
        raws = ap (λ r. raw_words r.options) outer ∙ raws-own said parts.front parts.back parts.lists rest.no_raws;
      }
