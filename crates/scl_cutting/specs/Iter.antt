-- What an iterator that cuts words gives, call by call and over a whole run.
use Rattle.std.specs.Prelude.{◌≡◌, ℕ, Bool, true, false, cond, List, [], ◌∷◌, Option, None, Some, Result, Ok, Err, MatchOption, OnErr, IfOk, is_err, Vec, ◌⊎◌, ◌++◌}
use Rattle.std.specs.Bool.{MatchBool}
use Rattle.std.specs.Iterator.{Drains, Yields, YieldsThen}
use Rattle.std.specs.declared.alloc.Global.{Global}
use Rattle.scl_values.specs.declared.argument.Argument.{Argument}
use Rattle.scl_values.specs.declared.argument.Argument.TheVariants as argument
use Rattle.scl_values.specs.declared.error.ArgParseError.{ArgParseError}
use Rattle.scl_values.specs.declared.error.ArgParseError.TheVariants as error
use Rattle.scl_values.specs.Row.{Row}
use Rattle.scl_values.specs.Words.{words_of}
use Rattle.scl_values.specs.Texts.{is_delimited_by_ascii}
use Rattle.scl_values.specs.Cuts.{Cut, raw, unknown, flag, with_value, clean, dangling, Cutting, Piece, whole, needs_value, ends_options, before, all_raw, cut}

abbrev pub nothing_left : {K : Type 0} → Cutting K
nothing_left = record { options = []; end = clean }

abbrev pub nothing_but_flag : {K : Type 0} → Cutting K
nothing_but_flag = record { options = []; end = dangling }

module _ {T K : Type 0} (make : K → List ℕ → Result T ArgParseError → Type 0) where
  -- the argument is the option, with a value that was made from its word
  abbrev pub IsMadeOf : Argument T → Cut K → Type 0
  IsMadeOf (argument.Raw w) (raw word) = w.items ≡ word
  IsMadeOf (argument.UnknownFlag w) (unknown word) = w.items ≡ word
  IsMadeOf (argument.Flag name value) (flag row) = (name.now ≡ row.flag) × make row.kind [] (Ok value)
  IsMadeOf (argument.WithValue name value d) (with_value row word how) = (name.now ≡ row.flag) × (d ≡ how) × make row.kind word (Ok value)
  IsMadeOf _ _ = ⊥

  -- the option's value can't be made
  abbrev pub FailsAt : ArgParseError → Cut K → Type 0
  FailsAt e (raw w) = ⊥
  FailsAt e (unknown w) = ⊥
  FailsAt e (flag row) = make row.kind [] (Err e)
  FailsAt e (with_value row word how) = make row.kind word (Err e)

  -- the result of making an option: it, or an error of its value, or a failed allocation
  abbrev pub Makes : Cut K → Result (Argument T) ArgParseError → Type 0
  Makes c (Ok a) = IsMadeOf a c
  Makes c (Err e) = (e ≡ error.Memory) ⊎ FailsAt e c

  -- why cutting ends early: an allocation failed, the last flag has no value, or the first option's value can't be made
  pub data EndsBy (e : ArgParseError) (left : Cutting K) : Type 0 where
    no_memory : e ≡ error.Memory → EndsBy e left
    no_word : e ≡ error.UnexpectedEndOfArgs → left ≡ nothing_but_flag → EndsBy e left
    no_value : (c : Cut K) (others : Cutting K) → left ≡ before c others → FailsAt e c → EndsBy e left

  -- the items are the options in order; if there are fewer, an error ends them
  abbrev pub AreItemsOf : Cutting K → List (Result (Argument T) ArgParseError) → Type 0
  AreItemsOf left [] = left ≡ nothing_left
  AreItemsOf left (Ok a ∷ items) = (c : Cut K) × (others : Cutting K) × (left ≡ before c others) × IsMadeOf a c × AreItemsOf others items
  AreItemsOf left (Err e ∷ items) = EndsBy e left × (items ≡ [])

module _ {I K T : Type 0} (steps : I → Option (Vec ℕ Global) → I → Type 0) (make : K → List ℕ → Result T ArgParseError → Type 0) where
  -- a piece gave the item, with the next word if it needs one; `over` says that the item is the last
  abbrev pub CutsPiece : Piece K → I → Result (Argument T) ArgParseError → Bool → I → Type 0
  CutsPiece (whole c) s item over t = (t ≡ s) × (over ≡ is_err item) × Makes make c item
  CutsPiece (needs_value row how last) s item over t =
      ((v : Vec ℕ Global) × steps s (Some v) t × (over ≡ is_err item) × Makes make (with_value row v.items how) item)
      ⊎ (steps s None t × (over ≡ true) × MatchOption last (item ≡ Err error.UnexpectedEndOfArgs) (λ d. Makes make (with_value row [] d) item))
  CutsPiece ends_options s item over t = ⊥

-- an iterator that cuts the words of another
pub record Cutter (I K : Type 0) : Type 0 where
  pub arguments : I
  pub own : List ℕ → Option (Row K)
  pub dashes : Bool
  pub only_raw : Bool
  pub ended : Bool

abbrev pub cutter : {I K : Type 0} → I → (List ℕ → Option (Row K)) → Bool → Bool → Bool → Cutter I K
cutter arguments own dashes only_raw ended = record { arguments = arguments; own = own; dashes = dashes; only_raw = only_raw; ended = ended }

-- what it makes of these words, if they are all that is left
abbrev pub cut_left : {I K : Type 0} → Cutter I K → List (List ℕ) → Cutting K
cut_left s words = cond s.ended nothing_left (cond s.only_raw (all_raw words) (cut s.own s.dashes words))

module _ {I K T : Type 0} (steps : I → Option (Vec ℕ Global) → I → Type 0) (make : K → List ℕ → Result T ArgParseError → Type 0) where
  -- the item is the first option of what was left, and the others are left after it; or it is the error for which there is
  -- none
  abbrev pub IsFirstOf : Cutting K → Result (Argument T) ArgParseError → Cutting K → Type 0
  IsFirstOf left (Ok a) after = (c : Cut K) × (left ≡ before c after) × IsMadeOf make a c
  IsFirstOf left (Err e) after = EndsBy make e left

  -- a call took these words and gave their first option, whatever words follow; or it reached the end
  pub data CutsItem (s : Cutter I K) (item : Result (Argument T) ArgParseError) (t : Cutter I K) : Type 0 where
    midway : (taken : List (Vec ℕ Global)) → Yields steps s.arguments taken t.arguments
        → ((rest : List (List ℕ)) → IsFirstOf (cut_left s (words_of taken ++ rest)) item (cut_left t rest)) → CutsItem s item t
    at_end : (taken : List (Vec ℕ Global)) → YieldsThen steps s.arguments taken None t.arguments → t.ended ≡ true
        → IsFirstOf (cut_left s (words_of taken)) item nothing_left → CutsItem s item t

  -- a call of `next`: the item is the first of what was left, and an option can be printed as texts
  abbrev pub CutsNext : Cutter I K → Option (Result (Argument T) ArgParseError) → Cutter I K → Type 0
  CutsNext s None t = (t.ended ≡ true) × MatchBool s.ended (t.arguments ≡ s.arguments) (steps s.arguments None t.arguments)
  CutsNext s (Some item) t = (s.ended ≡ false) × (t.own ≡ s.own) × OnErr item (t.ended ≡ true) × CutsItem s item t × IfOk item (λ option. is_delimited_by_ascii option ≡ true)

module _ {I K T : Type 0} (steps : I → Option (Vec ℕ Global) → I → Type 0) (make : K → List ℕ → Result T ArgParseError → Type 0) where
  -- the items are those of the words: of all that the inner iterator gives; or, if an error came first, of those so far,
  -- whatever words follow
  pub data CutsRun (s : Cutter I K) (items : List (Result (Argument T) ArgParseError)) : Type 0 where
    whole_run : (taken : List (Vec ℕ Global)) → Drains steps s.arguments taken → AreItemsOf make (cut_left s (words_of taken)) items → CutsRun s items
    cut_short : (taken : List (Vec ℕ Global)) (to : I) → Yields steps s.arguments taken to
        → ((rest : List (List ℕ)) → AreItemsOf make (cut_left s (words_of taken ++ rest)) items) → CutsRun s items
