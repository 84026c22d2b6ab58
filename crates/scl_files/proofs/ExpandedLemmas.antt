-- What is known of words before they are cut: of a walk over them, and of words that are not expanded.
use Rattle.std.proofs.Common.{◌≡◌, ℕ, suc, ◌+◌, ◌<◌, ◌≤◌, ◌&&◌, ◌||◌, Bool, true, false, List, [], ◌∷◌, ◌++◌, length, drop, get_or, replicate, Option, None, Some, Vec, ◌⊎◌, inl, inr, is_some, refl, sym, ap, subst, ◌∙◌, add-one, append_assoc, drop-cons, length-append, length-drop, ◌-◌, arith}
use Rattle.std.proofs.lemmas.Bool.{and_from}
use Rattle.std.proofs.lemmas.List.{append-nil, length-map, nil_from_length}
use Rattle.std.specs.List.{flat_map, list_any}
use Rattle.scl_files.specs.Within.{is_within}
use Rattle.std.specs.Prelude.{Result, Ok, Err}
use Rattle.std.specs.declared.alloc.Global.{Global}
use Rattle.scl_values.specs.Words.{words_of}
use Rattle.scl_files.specs.Expand.{expand}
use Rattle.scl_files.specs.Expanded.{ExpandedWords, IsExpanded, Stands, expanded_by}
use Rattle.scl_files.specs.Openings.{are_opened_within, is_expanded_within, openings, texts_once}
use Rattle.scl_files.specs.ResponseFiles.{file_name_in, named}
use Rattle.scl_files.specs.Sources.{ats_expanded, first_at}
use Rattle.scl_files.specs.Views.{File}
use Rattle.scl_files.specs.Walks.{AreTooMany, IsWithin, WalksOn}
use Rattle.scl_files.specs.Wanted.{lacked, lacked_by, wanted}
use Rattle.scl_files.specs.declared.expand.ExpansionKind.{ExpansionKind}
use Rattle.scl_files.specs.declared.expand.ExpansionKind.TheVariants as kinds
use Rattle.scl_files.specs.declared.expand.Limits.{Limits}
use Rattle.scl_files.specs.declared.expand.TooManyWords.{TooManyWords}
use Rattle.scl_files.specs.declared.line.Expanded.{Expanded}
use Rattle.scl_files.specs.declared.line.Walked.{Walked}
use Rattle.scl_files.proofs.ExpandLaws.{neither, plain_words, unnamed}
use Rattle.scl_files.proofs.ExpandLemmas.{expand-cons, expand-nil}
use Rattle.scl_files.proofs.LimitLemmas.{both_fit, both_within, not_within, too_many_more}
use Rattle.scl_files.proofs.OpenLemmas.{opened-no_name}
use Rattle.scl_files.proofs.OpeningLemmas.{openings-cons, openings-nil}

-- ---- words one by one

-- the words from an index on are the word there and those after it; from the end on there are none
pub word_at : (words : List (Vec ℕ Global)) (i : ℕ) (word : Vec ℕ Global) → i < length words → word ≡ get_or words i word → words_of (drop i words) ≡ word.items ∷ words_of (drop (i + 1) words)
word_at words i word within is =
    ap words_of (drop-cons words i word within ∙ ap (λ first. first ∷ drop (suc i) words) (sym is) ∙ ap (λ n. word ∷ drop n words) (sym (add-one i)))

pub none_from : (words : List (Vec ℕ Global)) (i : ℕ) → length words ≤ i → words_of (drop i words) ≡ []
none_from words i past =
    let count : length (drop i words) ≡ length words - i = length-drop i words in
    ap words_of (nil_from_length (drop i words) (omega arith))

module _ (kind : ExpansionKind) (directory : List ℕ) (files : List File) where
  expand_first : (word : List ℕ) (words : List (List ℕ)) → expand kind directory files (word ∷ words) ≡ expand kind directory files (word ∷ []) ++ expand kind directory files words
  expand_first word words =
      rw (expand-cons kind directory files word words, expand-cons kind directory files word [], expand-nil kind directory files) (simp append-nil refl)

  openings_first : (word : List ℕ) (words : List (List ℕ)) → openings kind directory files (word ∷ words) ≡ openings kind directory files (word ∷ []) ++ openings kind directory files words
  openings_first word words =
      rw (openings-cons kind directory files word words, openings-cons kind directory files word [], openings-nil kind directory files) (simp append-nil refl)

  -- the walk has come to the end of these words; these are left, with their indices
  pub record IsWalking (most : Limits) (words left : List (List ℕ)) (ats ats_left : List (Option ℕ)) (old new : Walked) : Type 0 where
    pub words_are : words_of new.words.items ++ expand kind directory files left ≡ words_of old.words.items ++ expand kind directory files words
    pub openings_are : words_of new.openings.items ++ openings kind directory files left ≡ words_of old.openings.items ++ openings kind directory files words
    pub ats_are : new.ats.items ++ ats_expanded kind directory files left ats_left ≡ old.ats.items ++ ats_expanded kind directory files words ats
    pub within : IsWithin most files new

  pub walk_begins : (most : Limits) (words : List (List ℕ)) (ats : List (Option ℕ)) (w : Walked) → IsWithin most files w → IsWalking most words words ats ats w w
  walk_begins most words ats w h = record { words_are = refl; openings_are = refl; ats_are = refl; within = h }

  module _ (most : Limits) (words : List (List ℕ)) (word : List ℕ) (rest : List (List ℕ)) (ats left next : List (Option ℕ)) (old before : Walked) (walking : IsWalking most words (word ∷ rest) ats left old before) where
    words_come : (words_of before.words.items ++ expand kind directory files (word ∷ [])) ++ expand kind directory files rest ≡ words_of old.words.items ++ expand kind directory files words
    words_come =
        append_assoc (words_of before.words.items) (expand kind directory files (word ∷ [])) (expand kind directory files rest)
        ∙ ap (λ ws. words_of before.words.items ++ ws) (sym (expand_first word rest)) ∙ walking.words_are

    openings_come : (words_of before.openings.items ++ openings kind directory files (word ∷ [])) ++ openings kind directory files rest ≡ words_of old.openings.items ++ openings kind directory files words
    openings_come =
        append_assoc (words_of before.openings.items) (openings kind directory files (word ∷ [])) (openings kind directory files rest)
        ∙ ap (λ ps. words_of before.openings.items ++ ps) (sym (openings_first word rest)) ∙ walking.openings_are

    pub walk_goes_on : (at : Option ℕ) (new : Walked) → at ≡ first_at left → next ≡ drop 1 left
        → WalksOn most kind directory files (word ∷ []) (before.ats.items ++ replicate (length (expand kind directory files (word ∷ []))) at) before (Ok tt) new → IsWalking most words rest ats next old new
    walk_goes_on at new first behind on =
        let here = replicate (length (expand kind directory files (word ∷ []))) at in
        record {
          words_are = ap (λ ws. ws ++ expand kind directory files rest) on.0 ∙ words_come;
          openings_are = ap (λ ps. ps ++ openings kind directory files rest) on.1 ∙ openings_come;
          ats_are =
              ap (λ own. own ++ ats_expanded kind directory files rest next) on.2
              ∙ append_assoc before.ats.items here (ats_expanded kind directory files rest next)
              ∙ ap (λ a. before.ats.items ++ (replicate (length (expand kind directory files (word ∷ []))) a ++ ats_expanded kind directory files rest next)) first
              ∙ ap (λ l. before.ats.items ++ (replicate (length (expand kind directory files (word ∷ []))) (first_at left) ++ ats_expanded kind directory files rest l)) behind
              ∙ walking.ats_are;
          within = on.3;
        }

    pub walk_stops : AreTooMany most files (words_of before.words.items ++ expand kind directory files (word ∷ [])) (words_of before.openings.items ++ openings kind directory files (word ∷ []))
        → AreTooMany most files (words_of old.words.items ++ expand kind directory files words) (words_of old.openings.items ++ openings kind directory files words)
    walk_stops many =
        too_many_more most files (words_of before.words.items ++ expand kind directory files (word ∷ [])) (expand kind directory files rest) _
        (words_of before.openings.items ++ openings kind directory files (word ∷ [])) (openings kind directory files rest) _ words_come openings_come many

  pub walk_ends : (most : Limits) (words : List (List ℕ)) (ats left : List (Option ℕ)) (old new : Walked) → IsWalking most words [] ats left old new
      → WalksOn most kind directory files words (old.ats.items ++ ats_expanded kind directory files words ats) old (Ok tt) new
  walk_ends most words ats left old new walking = (
    sym (append-nil (words_of new.words.items)) ∙ ap (λ ws. words_of new.words.items ++ ws) (sym (expand-nil kind directory files)) ∙ walking.words_are,
    sym (append-nil (words_of new.openings.items)) ∙ ap (λ ps. words_of new.openings.items ++ ps) (sym (openings-nil kind directory files)) ∙ walking.openings_are,
    sym (append-nil new.ats.items) ∙ walking.ats_are,
    walking.within,
  )

  -- ---- words of which none names a file

  abbrev NamesNone : List (List ℕ) → Type 0
  NamesNone words = list_any (λ word. is_some (file_name_in kind word)) words ≡ false

  plain_openings : (words : List (List ℕ)) → NamesNone words → openings kind directory files words ≡ []
  plain_openings [] h = openings-nil kind directory files
  plain_openings (word ∷ words) h =
      let parts = neither (is_some (file_name_in kind word)) (list_any (λ w. is_some (file_name_in kind w)) words) h in
      rw (openings-cons kind directory files word words, opened-no_name kind directory files word (unnamed kind directory word parts.0)) (plain_openings words parts.1)

  plain_lacked : (words : List (List ℕ)) → NamesNone words → lacked kind directory files words ≡ []
  plain_lacked [] h = refl
  plain_lacked (word ∷ words) h =
      let parts = neither (is_some (file_name_in kind word)) (list_any (λ w. is_some (file_name_in kind w)) words) h in
      rw (unnamed kind directory word parts.0) (plain_lacked words parts.1)

  plain_ats : (words : List (List ℕ)) (ats : List (Option ℕ)) → NamesNone words → length ats ≡ length words → ats_expanded kind directory files words ats ≡ ats
  plain_ats [] [] h k = refl
  plain_ats [] (at ∷ ats) h k = absurd (omega arith)
  plain_ats (word ∷ words) [] h k = absurd (omega arith)
  plain_ats (word ∷ words) (at ∷ ats) h k =
      let parts = neither (is_some (file_name_in kind word)) (list_any (λ w. is_some (file_name_in kind w)) words) h in
      let alone : NamesNone (word ∷ []) = rw parts.0 refl in
      rw (plain_words kind directory files (word ∷ []) alone) (ap (λ l. at ∷ l) (plain_ats words ats parts.1 (omega arith)))

plain_wanted : (kind : ExpansionKind) (directory : List ℕ) (files : List File) (words : List (List ℕ)) → list_any (λ word. is_some (file_name_in kind word)) words ≡ false → wanted kind directory files words ≡ []
unfolding wanted
plain_wanted kinds.Gnu directory files words h = rw (plain_words kinds.Gnu directory files words h) (plain_lacked kinds.Gnu directory files words h)
plain_wanted kinds.Msvc directory files words h = plain_lacked kinds.Msvc directory files words h
plain_wanted kinds.Diab directory files words h = rw (plain_words kinds.Diab directory files words h) (plain_lacked kinds.Diab directory files words h)

plain_texts : (kind : ExpansionKind) (directory : List ℕ) (files : List File) (words : List (List ℕ)) → list_any (λ word. is_some (file_name_in kind word)) words ≡ false → texts_once kind directory files words ≡ []
unfolding texts_once
plain_texts kind directory files words h = rw (plain_openings kind directory files words h) refl

module _ (most : Limits) (kind : ExpansionKind) (directory : List ℕ) (files : List File) (words : List (List ℕ)) (ats : List (Option ℕ)) where
  record_is : (ws ts ls : List (List ℕ)) (own : List (Option ℕ)) → ws ≡ expand kind directory files words → own ≡ ats_expanded kind directory files words ats → ts ≡ texts_once kind directory files words → ls ≡ wanted kind directory files words
      → record { words = ws; ats = own; texts = ts; lacked = ls } ≡ expanded_by kind directory files words ats
  record_is ws ts ls own e a t l = rw (e, a, t, l) refl

  pub plain_expanded : (said : Result Expanded TooManyWords) → list_any (λ word. is_some (file_name_in kind word)) words ≡ false → length ats ≡ length words → Stands most words ats said → IsExpanded most kind directory files words ats said
  plain_expanded (Ok e) h k stands = (
    rw (plain_words kind directory files words h, plain_openings kind directory files words h) (and_from (is_within most words) (are_opened_within most files []) stands.0 (both_fit most.words most.bytes 0 0 (omega arith) (omega arith))),
    stands.1 ∙ record_is words [] [] ats (sym (plain_words kind directory files words h)) (sym (plain_ats kind directory files words ats h k)) (sym (plain_texts kind directory files words h)) (sym (plain_wanted kind directory files words h)),
  )
  plain_expanded (Err e) h k stands = rw (plain_words kind directory files words h, plain_openings kind directory files words h) (rw stands refl)

  -- the result of a walk over all words, from the start
  pub named_expanded : (old new : Walked) (texts lacking : List (List ℕ)) → old.words.items ≡ [] → old.openings.items ≡ [] → old.ats.items ≡ []
      → WalksOn most kind directory files words (old.ats.items ++ ats_expanded kind directory files words ats) old (Ok tt) new
      → texts ≡ texts_once kind directory files words → lacking ≡ wanted kind directory files words
      → (is_expanded_within most kind directory files words ≡ true) × (record { words = words_of new.words.items; ats = new.ats.items; texts = texts; lacked = lacking } ≡ expanded_by kind directory files words ats)
  named_expanded old new texts lacking ew eo ea on t l =
      let words_are : words_of new.words.items ≡ expand kind directory files words = on.0 ∙ ap (λ (ws : List (Vec ℕ Global)). words_of ws ++ expand kind directory files words) ew in
      let openings_are : words_of new.openings.items ≡ openings kind directory files words = on.1 ∙ ap (λ (ws : List (Vec ℕ Global)). words_of ws ++ openings kind directory files words) eo in
      let ats_are : new.ats.items ≡ ats_expanded kind directory files words ats = on.2 ∙ ap (λ (own : List (Option ℕ)). own ++ ats_expanded kind directory files words ats) ea in (
        rw (← words_are, ← openings_are) (both_within most files new on.3),
        record_is (words_of new.words.items) texts lacking new.ats.items words_are ats_are t l,
      )

  pub named_too_many : (old : Walked) → old.words.items ≡ [] → old.openings.items ≡ []
      → AreTooMany most files (words_of old.words.items ++ expand kind directory files words) (words_of old.openings.items ++ openings kind directory files words) → is_expanded_within most kind directory files words ≡ false
  named_too_many old ew eo many =
      not_within most files (expand kind directory files words) (openings kind directory files words)
      (too_many_more most files (words_of old.words.items ++ expand kind directory files words) [] (expand kind directory files words) (words_of old.openings.items ++ openings kind directory files words) [] (openings kind directory files words)
      (append-nil (words_of old.words.items ++ expand kind directory files words) ∙ ap (λ (ws : List (Vec ℕ Global)). words_of ws ++ expand kind directory files words) ew)
      (append-nil (words_of old.openings.items ++ openings kind directory files words) ∙ ap (λ (ws : List (Vec ℕ Global)). words_of ws ++ openings kind directory files words) eo)
      many)
