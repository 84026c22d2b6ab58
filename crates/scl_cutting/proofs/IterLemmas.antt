use Rattle.std.proofs.Common.{◌≡◌, ℕ, Bool, true, false, cond, ◌&&◌, List, [], ◌∷◌, ◌++◌, Option, None, Some, Result, Ok, Err, OnErr, is_err, Vec, refl, sym, ap, subst, ◌⊎◌, inl, inr, append_assoc}
use Rattle.std.specs.Str.{bytes_eq}
use Rattle.std.specs.Bool.{MatchBool}
use Rattle.std.specs.Iterator.{Drains, Yields}
use Rattle.std.specs.declared.alloc.Global.{Global}
use Rattle.scl_values.specs.declared.argument.Argument.{Argument}
use Rattle.scl_values.specs.declared.argument.Argument.TheVariants as argument
use Rattle.scl_values.specs.declared.argument.ArgDisposition.{ArgDisposition}
use Rattle.scl_values.specs.declared.error.ArgParseError.{ArgParseError}
use Rattle.scl_values.specs.declared.error.ArgParseError.TheVariants as error
use Rattle.scl_values.specs.Row.{Row}
use Rattle.scl_values.specs.Words.{words_of}
use Rattle.scl_values.specs.Cuts.{Cut, raw, with_value, Cutting, Piece, whole, needs_value, ends_options, piece_of, owned_piece, before, all_raw, cut}
use Rattle.scl_cutting.specs.Iter.{nothing_left, FailsAt, Makes, EndsBy, no_memory, no_word, no_value, CutsPiece, Cutter, cut_left, CutsItem, midway, at_end, CutsNext, AreItemsOf, CutsRun, whole_run, cut_short}
use Rattle.scl_cutting.proofs.CutsLemmas.{cut_whole, cut_value, cut_last, cut_ended}

module _ {I K T : Type 0} (steps : I → Option (Vec ℕ Global) → I → Type 0) (make : K → List ℕ → Result T ArgParseError → Type 0) (own : List ℕ → Option (Row K)) (dashes : Bool) where
  -- a cutter in each of its states
  abbrev state : I → Bool → Bool → Cutter I K
  state arguments only_raw ended = record { arguments = arguments; own = own; dashes = dashes; only_raw = only_raw; ended = ended }

  pub raw_item : (a b : I) (w : Vec ℕ Global) (r e : Bool) → r ≡ true → e ≡ false → steps a (Some w) b
      → CutsItem steps make (state a r e) (Ok (argument.Raw w)) (state b r e)
  raw_item a b w true false p q h = midway (w ∷ []) (b, h, refl) (λ rest. (raw w.items, refl, refl))
  raw_item a b w true true p q h = absurd (cc)
  raw_item a b w false e p q h = absurd (cc)

  pub dashes_item : (a b : I) (w : Vec ℕ Global) (r e : Bool) → r ≡ false → e ≡ false → (dashes && bytes_eq w.items (45 ∷ 45 ∷ [])) ≡ true → steps a (Some w) b
      → CutsItem steps make (state a r e) (Ok (argument.Raw w)) (state b true e)
  dashes_item a b w false false p q d h = midway (w ∷ []) (b, h, refl) (λ rest. (raw w.items, cut_ended own dashes w.items (rw d refl) rest, refl))
  dashes_item a b w false true p q d h = absurd (cc)
  dashes_item a b w true e p q d h = absurd (cc)

  -- the result of making the first option of the words
  ends_by : (c : Cut K) (left others : Cutting K) (e : ArgParseError) → left ≡ before c others → (e ≡ error.Memory) ⊎ FailsAt make e c → EndsBy make e left
  ends_by c left others e eq (inl m) = no_memory m
  ends_by c left others e eq (inr f) = no_value c others eq f

  abbrev Gives : I → Result (Argument T) ArgParseError → Bool → I → Type 0
  Gives a item over t = OnErr item (over ≡ true) × CutsItem steps make (state a false false) item (state t false over)

  whole_item : (a t : I) (w : Vec ℕ Global) (item : Result (Argument T) ArgParseError) (c : Cut K) → steps a (Some w) t
      → piece_of own dashes w.items ≡ whole c → Makes make c item → Gives a item (is_err item) t
  whole_item a t w (Ok x) c h p m = (tt, midway (w ∷ []) (t, h, refl) (λ rest. (c, cut_whole own dashes w.items c p rest, m)))
  whole_item a t w (Err e) c h p m = (refl, midway (w ∷ []) (t, h, refl) (λ rest. ends_by c _ _ e (cut_whole own dashes w.items c p rest) m))

  value_item : (a b t : I) (w v : Vec ℕ Global) (item : Result (Argument T) ArgParseError) (row : Row K) (d : ArgDisposition) (last : Option ArgDisposition) → steps a (Some w) b → steps b (Some v) t
      → piece_of own dashes w.items ≡ needs_value row d last → Makes make (with_value row v.items d) item → Gives a item (is_err item) t
  value_item a b t w v (Ok x) row d last h k p m = (tt, midway (w ∷ (v ∷ [])) (b, h, (t, k, refl)) (λ rest. (with_value row v.items d, cut_value own dashes w.items row d last p v.items rest, m)))
  value_item a b t w v (Err e) row d last h k p m = (refl, midway (w ∷ (v ∷ [])) (b, h, (t, k, refl)) (λ rest. ends_by (with_value row v.items d) _ _ e (cut_value own dashes w.items row d last p v.items rest) m))

  last_item : (a b t : I) (w : Vec ℕ Global) (item : Result (Argument T) ArgParseError) (row : Row K) (d last : ArgDisposition) → steps a (Some w) b → steps b None t
      → piece_of own dashes w.items ≡ needs_value row d (Some last) → Makes make (with_value row [] last) item → Gives a item true t
  last_item a b t w (Ok x) row d last h k p m = (tt, at_end (w ∷ []) (b, (b, h, refl), k) refl (with_value row [] last, cut_last own dashes w.items row d (Some last) p, m))
  last_item a b t w (Err e) row d last h k p m = (refl, at_end (w ∷ []) (b, (b, h, refl), k) refl (ends_by (with_value row [] last) _ nothing_left e (cut_last own dashes w.items row d (Some last) p) m))

  dangling_item : (a b t : I) (w : Vec ℕ Global) (row : Row K) (d : ArgDisposition) → steps a (Some w) b → steps b None t
      → piece_of own dashes w.items ≡ needs_value row d None → Gives a (Err error.UnexpectedEndOfArgs) true t
  dangling_item a b t w row d h k p = (refl, at_end (w ∷ []) (b, (b, h, refl), k) refl (no_word refl (cut_last own dashes w.items row d None p)))

  piece_item : (a b t : I) (w : Vec ℕ Global) (item : Result (Argument T) ArgParseError) (over : Bool) (p : Piece K) → piece_of own dashes w.items ≡ p → steps a (Some w) b
      → CutsPiece steps make p b item over t → Gives a item over t
  piece_item a b t w item over (whole c) e h m =
      let P : I → Type 0 = λ i. Gives a item over i in subst P (sym m.0) (let Q : Bool → Type 0 = λ o. Gives a item o b in subst Q (sym m.1) (whole_item a b w item c h e m.2))
  piece_item a b t w item over (needs_value row d last) e h (inl m) =
      let Q : Bool → Type 0 = λ o. Gives a item o t in subst Q (sym m.2) (value_item a b t w m.0 item row d last h m.1 e m.3)
  piece_item a b t w item over (needs_value row d None) e h (inr m) =
      let Q : Bool → Type 0 = λ o. Gives a item o t in subst Q (sym m.1)
      (let R : Result (Argument T) ArgParseError → Type 0 = λ i. Gives a i true t in subst R (sym m.2) (dangling_item a b t w row d h m.0 e))
  piece_item a b t w item over (needs_value row d (Some last)) e h (inr m) =
      let Q : Bool → Type 0 = λ o. Gives a item o t in subst Q (sym m.1) (last_item a b t w item row d last h m.0 e m.2)
  piece_item a b t w item over ends_options e h m = absurd m

  pub option_item : (a b t : I) (w : Vec ℕ Global) (item : Result (Argument T) ArgParseError) (over r e : Bool) → r ≡ false → e ≡ false → (dashes && bytes_eq w.items (45 ∷ 45 ∷ [])) ≡ false → steps a (Some w) b
      → CutsPiece steps make (owned_piece (own w.items) w.items) b item over t
      → OnErr item (over ≡ true) × CutsItem steps make (state a r e) item (state t r over)
  option_item a b t w item over false false p q d h m = piece_item a b t w item over (owned_piece (own w.items) w.items) (rw d refl) h m
  option_item a b t w item over false true p q d h m = absurd (cc)
  option_item a b t w item over true e p q d h m = absurd (cc)

-- a row whose value is the next word
pub next_word_piece : {I K T : Type 0} (steps : I → Option (Vec ℕ Global) → I → Type 0) (make : K → List ℕ → Result T ArgParseError → Type 0) (s t : I) (v : Vec ℕ Global)
    (item made : Result (Argument T) ArgParseError) (over : Bool) (own : Option (Row K)) (word : List ℕ) (row : Row K) (d : ArgDisposition) (last : Option ArgDisposition)
    → Some row ≡ own → needs_value row d last ≡ owned_piece (Some row) word → steps s (Some v) t → item ≡ made → over ≡ is_err made → Makes make (with_value row v.items d) made
    → CutsPiece steps make (owned_piece own word) s item over t
next_word_piece {I} {K} {T} steps make s t v item made over own word row d last o p h e q m =
    let O : Option (Row K) → Type 0 = λ x. CutsPiece steps make (owned_piece x word) s item over t in subst O o
    (let P : Piece K → Type 0 = λ x. CutsPiece steps make x s item over t in subst P p
    (let R : Result (Argument T) ArgParseError → Type 0 = λ i. CutsPiece steps make (needs_value row d last) s i over t in subst R (sym e)
    (inl (v, h, q, m))))

pub words_of-append : (xs ys : List (Vec ℕ Global)) → words_of (xs ++ ys) ≡ words_of xs ++ words_of ys
words_of-append [] ys = refl
words_of-append (x ∷ xs) ys = ap (λ w. x.items ∷ w) (words_of-append xs ys)

module _ {I K : Type 0} where
  pub cut_left-ended : (s : Cutter I K) (words : List (List ℕ)) → s.ended ≡ true → cut_left s words ≡ nothing_left
  cut_left-ended s words e = rw e refl

  pub cut_left-none : (s : Cutter I K) → cut_left s [] ≡ nothing_left
  cut_left-none s = elim s.ended as (λ e. cond e nothing_left (cond s.only_raw (all_raw []) (cut s.own s.dashes [])) ≡ nothing_left) [
    | true ↦ refl
    | false ↦ elim s.only_raw as (λ r. cond r (all_raw {K = K} []) nothing_left ≡ nothing_left) [ true ↦ refl | false ↦ refl ]
  ]

module _ {I K T : Type 0} (steps : I → Option (Vec ℕ Global) → I → Type 0) (make : K → List ℕ → Result T ArgParseError → Type 0) where
  abbrev Next : Cutter I K → Option (Result (Argument T) ArgParseError) → Cutter I K → Type 0
  Next = CutsNext steps make

  Yields-append : (xs ys : List (Vec ℕ Global)) (s t u : I) → Yields steps s xs t → Yields steps t ys u → Yields steps s (xs ++ ys) u
  Yields-append [] ys s t u p q = let P : I → Type 0 = λ i. Yields steps i ys u in subst P (sym p) q
  Yields-append (x ∷ xs) ys s t u p q = (p.0, p.1, Yields-append xs ys p.0 t u p.2 q)

  -- no item comes after the end
  ended_items : (s t : Cutter I K) (items : List (Result (Argument T) ArgParseError)) → s.ended ≡ true → Yields Next s items t → items ≡ []
  ended_items s t [] e y = refl
  ended_items s t (item ∷ items) e y = let other : s.ended ≡ false = y.1.0 in absurd (cc)

  stop : (s u : Cutter I K) → Next s None u → CutsRun steps make s []
  stop s u n =
      elim s.ended as (λ e. s.ended ≡ e → MatchBool e (u.arguments ≡ s.arguments) (steps s.arguments None u.arguments) → CutsRun steps make s []) [
        | true ↦ λ e _. cut_short [] s.arguments refl (λ rest. cut_left-ended s rest e)
        | false ↦ λ e h. whole_run [] (u.arguments, (s.arguments, refl, h)) (cut_left-none s)
      ] refl n.1

  step_items : (s j t u : Cutter I K) (item : Result (Argument T) ArgParseError) (items : List (Result (Argument T) ArgParseError)) → OnErr item (j.ended ≡ true) → CutsItem steps make s item j
      → Yields Next j items t → CutsRun steps make j items → CutsRun steps make s (item ∷ items)
  step_items s j t u (Err e) items over (midway taken y f) ys run = cut_short taken j.arguments y (λ rest. (f rest, ended_items j t items over ys))
  step_items s j t u (Err e) items over (at_end taken y ended f) ys run = whole_run taken (j.arguments, y) (f, ended_items j t items over ys)
  step_items s j t u (Ok a) items over (at_end taken y ended f) ys run =
      whole_run taken (j.arguments, y) (f.0, nothing_left, f.1, f.2, let P : List (Result (Argument T) ArgParseError) → Type 0 = λ i. AreItemsOf make nothing_left i in subst P (sym (ended_items j t items ended ys)) refl)
  step_items s j t u (Ok a) items over (midway taken y f) ys (whole_run more d h) =
      whole_run (taken ++ more) (d.0, (d.1.0, Yields-append taken more s.arguments j.arguments d.1.0 y d.1.1, d.1.2))
      (let first = f (words_of more) in rw (words_of-append taken more) (first.0, cut_left j (words_of more), first.1, first.2, h))
  step_items s j t u (Ok a) items over (midway taken y f) ys (cut_short more to d h) =
      cut_short (taken ++ more) to (Yields-append taken more s.arguments j.arguments to y d)
      (λ rest. let first = f (words_of more ++ rest) in rw (words_of-append taken more, append_assoc) (first.0, cut_left j (words_of more ++ rest), first.1, first.2, h rest))

  pub run_items : (s t u : Cutter I K) (items : List (Result (Argument T) ArgParseError)) → Yields Next s items t → Next t None u → CutsRun steps make s items
  run_items s t u [] y n = let P : Cutter I K → Type 0 = λ c. CutsRun steps make c [] in subst P (sym y) (stop t u n)
  run_items s t u (item ∷ items) y n = step_items s y.0 t u item items y.1.2 y.1.3 y.2 (run_items y.0 t u items y.2 n)

  -- the same for an iterator whose state shows a cutter
  module _ {S : Type 0} (shows : S → Cutter I K) where
    abbrev NextOf : S → Option (Result (Argument T) ArgParseError) → S → Type 0
    NextOf s r t = Next (shows s) r (shows t)

    Yields-shows : (s t : S) (items : List (Result (Argument T) ArgParseError)) → Yields NextOf s items t → Yields Next (shows s) items (shows t)
    Yields-shows s t [] y = ap shows y
    Yields-shows s t (item ∷ items) y = (shows y.0, y.1, Yields-shows y.0 t items y.2)

    pub run_shown : (s : S) (items : List (Result (Argument T) ArgParseError)) → Drains NextOf s items → CutsRun steps make (shows s) items
    run_shown s items d = run_items (shows s) (shows d.1.0) (shows d.0) items (Yields-shows s d.1.0 items d.1.1) d.1.2
