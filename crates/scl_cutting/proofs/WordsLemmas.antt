use Rattle.std.proofs.Common.{◌≡◌, ℕ, Bool, true, false, List, [], ◌∷◌, ◌++◌, map, Option, None, Some, Result, Ok, Err, Vec, refl, sym, ap, subst, ◌∙◌, ◌⊎◌, inl, inr, IsOkAnd}
use Rattle.std.proofs.lemmas.List.{append-nil}
use Rattle.std.specs.Bool.{MatchBool}
use Rattle.std.specs.Iterator.{Yields}
use Rattle.std.specs.declared.alloc.Global.{Global}
use Rattle.scl_values.specs.declared.argument.Argument.{Argument}
use Rattle.scl_values.specs.declared.error.ArgParseError.{ArgParseError}
use Rattle.scl_values.specs.declared.error.ArgParseError.TheVariants as error
use Rattle.scl_values.specs.Words.{words_of}
use Rattle.scl_values.specs.declared.argument.Argument.TheVariants as argument
use Rattle.scl_values.specs.Cuts.{Cut, raw, unknown, flag, with_value, Cutting, before, clean, dangling, is_dangling}
use Rattle.scl_values.specs.Seen.{Raw, Unknown, seen, shown}
use Rattle.scl_cutting.specs.Iter.{nothing_left, IsMadeOf, FailsAt, EndsBy, no_memory, no_word, no_value, Cutter, IsFirstOf, midway, at_end, CutsNext, AreItemsOf}
use Rattle.scl_cutting.specs.Shrinking.{TakesFirst}
use Rattle.scl_cutting.specs.Runs.{after_options, items_of, left_of, dangles_by}
use Rattle.scl_values.specs.Each.{Each}
use Rattle.scl_cutting.proofs.HoldsLemmas.{CutHolds}
use Rattle.scl_cutting.proofs.IterLemmas.{words_of-append, cut_left-ended, cut_left-none}

-- the words that are left
abbrev Words : Type 0
Words = List (Vec ℕ Global)

abbrev steps : Words → Option (Vec ℕ Global) → Words → Type 0
steps = TakesFirst

taken_all : (s t taken : Words) → Yields steps s taken t → s ≡ taken ++ t
taken_all s t [] y = y
taken_all s t (x ∷ xs) y = y.1 ∙ ap (λ w. x ∷ w) (taken_all y.0 t xs y.2)

module _ {K T : Type 0} (make : K → List ℕ → Result T ArgParseError → Type 0) where
  abbrev State : Type 0
  State = Cutter Words K

  -- a call of `next`, by what is left
  abbrev pub LeavesAfter : State → Option (Result (Argument T) ArgParseError) → State → Type 0
  LeavesAfter s None t = left_of s ≡ nothing_left
  LeavesAfter s (Some item) t = IsFirstOf steps make (left_of s) item (left_of t)

  at_none : (s : State) (t : Words) → MatchBool s.ended (t ≡ s.arguments) (steps s.arguments None t) → left_of s ≡ nothing_left
  at_none s t n =
      elim s.ended as (λ e. s.ended ≡ e → MatchBool e (t ≡ s.arguments) (steps s.arguments None t) → left_of s ≡ nothing_left) [
        | true ↦ λ e _. cut_left-ended s _ e
        | false ↦ λ e m. rw m.0 (cut_left-none s)
      ] refl n

  pub leaves_after : (s t : State) (r : Option (Result (Argument T) ArgParseError)) → CutsNext steps make s r t → LeavesAfter s r t
  leaves_after s t None n = at_none s t.arguments n.1
  leaves_after s t (Some item) (going, _, _, midway taken y f, _) =
      rw (taken_all s.arguments t.arguments taken y, words_of-append taken t.arguments) (f (words_of t.arguments))
  leaves_after s t (Some item) (going, _, _, at_end taken y ended f, _) =
      let all : s.arguments ≡ taken = taken_all s.arguments y.0 taken y.1 ∙ rw y.2.0 (append-nil taken) in
      rw (all, cut_left-ended t (words_of t.arguments) ended) f

  -- more options, before what is left
  pub after_options-append : (options : List (Argument T)) (option : Argument T) (items : List (Result (Argument T) ArgParseError)) → after_options (options ++ option ∷ []) items ≡ after_options options (Ok option ∷ items)
  after_options-append [] option items = refl
  after_options-append (x ∷ xs) option items = ap (λ o. Ok x ∷ o) (after_options-append xs option items)

-- ---- values that keep their kind and their word

module _ {K T : Type 0} (make : K → List ℕ → Result T ArgParseError → Type 0) (kind_of : T → K) (word_of : T → List ℕ)
    (keeps : (k : K) (word : List ℕ) (v : T) → make k word (Ok v) → (kind_of v ≡ k) × (word_of v ≡ word)) where
  pub seen_made : (a : Argument T) (c : Cut K) → IsMadeOf make a c → seen kind_of word_of a ≡ shown c
  seen_made (argument.Raw w) (raw word) m = ap Raw m
  seen_made (argument.UnknownFlag w) (unknown word) m = ap Unknown m
  seen_made (argument.Flag name v) (flag row) m = let k = keeps row.kind [] v m.1 in let e : kind_of v ≡ row.kind = k.0 in let f : name.now ≡ row.flag = m.0 in cc
  seen_made (argument.WithValue name v d) (with_value row word how) m = let k = keeps row.kind word v m.2 in let e : kind_of v ≡ row.kind = k.0 in let w : word_of v ≡ word = k.1 in let f : name.now ≡ row.flag = m.0 in let h : d ≡ how = m.1 in cc
  seen_made _ _ m = absurd m

  pub seen_all : (options : List (Argument T)) (left : Cutting K) → AreItemsOf make left (items_of options None) → (left.end ≡ clean) × (map (seen kind_of word_of) options ≡ map shown left.options)
  seen_all [] left h = (ap (λ l. l.end) h, sym (ap (λ l. map shown l.options) h))
  seen_all (a ∷ options) left h =
      let more = seen_all options h.1 h.4 in
      let first : seen kind_of word_of a ≡ shown h.0 = seen_made a h.0 h.3 in
      (ap (λ l. l.end) h.2 ∙ more.0, rw h.2 (rw first (ap (λ xs. shown h.0 ∷ xs) more.1)))

-- ---- values that can be made from each word, for kinds that hold one

module _ {K T : Type 0} (make : K → List ℕ → Result T ArgParseError → Type 0) (kind_of : T → K) (word_of : T → List ℕ) (holds : K → Bool)
    (keeps : (k : K) (word : List ℕ) (v : T) → make k word (Ok v) → (kind_of v ≡ k) × (word_of v ≡ word))
    (exact : (k : K) (word : List ℕ) (made : Result T ArgParseError) → (holds k ≡ true) ⊎ (word ≡ []) → make k word made → IsOkAnd made (λ v. (kind_of v ≡ k) × (word_of v ≡ word))) where
  never_fails : (c : Cut K) (e : ArgParseError) → CutHolds holds c → FailsAt make e c → ⊥
  never_fails (raw w) e h f = f
  never_fails (unknown w) e h f = f
  never_fails (flag row) e h f = exact row.kind [] (Err e) (inr refl) f
  never_fails (with_value row v how) e h f = exact row.kind v (Err e) (inl h) f

  failed_at : (c : Cut K) (others left : Cutting K) (e : ArgParseError) → left ≡ before c others → Each (CutHolds holds) left.options → FailsAt make e c → ⊥
  failed_at c others left e eq h f = let hs : Each (CutHolds holds) (before c others).options = subst (λ (l : Cutting K). Each (CutHolds holds) l.options) eq h in never_fails c e hs.0 f

  ended : (left : Cutting K) (e : ArgParseError) → (e ≡ error.Memory → ⊥) → Each (CutHolds holds) left.options → EndsBy make e left → (left.end ≡ dangling) × ([] ≡ map shown left.options)
  ended left e other h (no_memory m) = absurd (other m)
  ended left e other h (no_word w eq) = (ap (λ l. l.end) eq, sym (ap (λ l. map shown l.options) eq))
  ended left e other h (no_value c others eq f) = absurd (failed_at c others left e eq h f)

  pub seen_dangling : (options : List (Argument T)) (left : Cutting K) (e : ArgParseError) → (e ≡ error.Memory → ⊥) → Each (CutHolds holds) left.options
      → AreItemsOf make left (items_of options (Some e)) → (left.end ≡ dangling) × (map (seen kind_of word_of) options ≡ map shown left.options)
  seen_dangling [] left e other h a = ended left e other h a.0
  seen_dangling (o ∷ options) left e other h a =
      let hs : Each (CutHolds holds) (before a.0 a.1).options = subst (λ (l : Cutting K). Each (CutHolds holds) l.options) a.2 h in
      let more = seen_dangling options a.1 e other hs.1 a.4 in
      let first : seen kind_of word_of o ≡ shown a.0 = seen_made make kind_of word_of keeps o a.0 a.3 in
      (ap (λ l. l.end) a.2 ∙ more.0, rw a.2 (rw first (ap (λ xs. shown a.0 ∷ xs) more.1)))

  -- a finished run says which options there are, and whether the end dangles
  pub seen_by_end : (options : List (Argument T)) (left : Cutting K) (end : Option ArgParseError) (b : Bool) → dangles_by end ≡ Some b → Each (CutHolds holds) left.options
      → AreItemsOf make left (items_of options end) → (is_dangling left.end ≡ b) × (map (seen kind_of word_of) options ≡ map shown left.options)
  seen_by_end options left None b d h a = let all = seen_all make kind_of word_of keeps options left a in (rw all.0 (cc), all.1)
  seen_by_end options left (Some error.UnexpectedEndOfArgs) b d h a = let all = seen_dangling options left error.UnexpectedEndOfArgs (λ e. cc) h a in (rw all.0 (cc), all.1)
  seen_by_end options left (Some (error.InvalidUnicode w)) b d h a = let all = seen_dangling options left (error.InvalidUnicode w) (λ e. cc) h a in (rw all.0 (cc), all.1)
  seen_by_end options left (Some (error.Other r)) b d h a = let all = seen_dangling options left (error.Other r) (λ e. cc) h a in (rw all.0 (cc), all.1)
  seen_by_end options left (Some error.Memory) b d h a = cc
