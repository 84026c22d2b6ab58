-- A request read line by line.
use Rattle.std.proofs.Common.{◌≡◌, ℕ, ◌+◌, Bool, true, false, ◌||◌, cond, List, [], ◌∷◌, ◌++◌, reverse, length, Option, Some, None, Result, Err, refl, ap, sym, ◌∙◌, arith, append-nil, append_assoc}
use Rattle.std.specs.List.{flat_map, filter_map, list_any, cons_option}
use Rattle.std.specs.Option.{ok_or, option_to_list}
use Rattle.std.proofs.lemmas.Grind.{flat_map-append, fold-append}
use Rattle.std.proofs.lemmas.List.{reverse-append}
use Rattle.scl_reader.specs.CommandLines.{Request}
use Rattle.scl_cl.specs.Sayings.{Saying, said}
use Rattle.scl_cl.specs.Sayings as sayings
use Rattle.scl_cl.specs.Requests.{Gathered, gathered, breaks, first_broken, request_from, request_of, request_unless, viewed_directory_in, path_in}
use Rattle.scl_cl.specs.Drafts.{with_line}

or-comm : (a b : Bool) → a || b ≡ b || a
or-comm true true = refl
or-comm true false = refl
or-comm false true = refl
or-comm false false = refl

or-assoc : (a b c : Bool) → (a || b) || c ≡ a || (b || c)
or-assoc true b c = refl
or-assoc false b c = refl

any_more : (p : Saying → Bool) (xs : List Saying) (y : Saying) → list_any p (xs ++ y ∷ []) ≡ p y || list_any p xs
any_more p [] y = refl
any_more p (x ∷ xs) y =
    ap (λ b. p x || b) (any_more p xs y) ∙ sym (or-assoc (p x) (p y) (list_any p xs)) ∙ ap (λ b. b || list_any p xs) (or-comm (p x) (p y)) ∙ or-assoc (p y) (p x) (list_any p xs)

flat_more : {A : Type 0} (f : Saying → List A) (xs : List Saying) (y : Saying) → flat_map f (xs ++ y ∷ []) ≡ flat_map f xs ++ f y
flat_more f xs y = flat_map-append f xs (y ∷ []) ∙ ap (λ zs. flat_map f xs ++ zs) (append-nil (f y))

-- one line's part of a list is the same in reverse
viewed_directory_in-turned : (y : Saying) → reverse (viewed_directory_in y) ≡ viewed_directory_in y
viewed_directory_in-turned sayings.Blank = refl
viewed_directory_in-turned (sayings.Compiler _) = refl
viewed_directory_in-turned (sayings.Directory _) = refl
viewed_directory_in-turned (sayings.Word _) = refl
viewed_directory_in-turned (sayings.File _ _) = refl
viewed_directory_in-turned (sayings.ViewedDirectory _) = refl
viewed_directory_in-turned (sayings.Existing _) = refl
viewed_directory_in-turned (sayings.Variable _ _) = refl
viewed_directory_in-turned sayings.Multiarch = refl

path_in-turned : (y : Saying) → reverse (path_in y) ≡ path_in y
path_in-turned sayings.Blank = refl
path_in-turned (sayings.Compiler _) = refl
path_in-turned (sayings.Directory _) = refl
path_in-turned (sayings.Word _) = refl
path_in-turned (sayings.File _ _) = refl
path_in-turned (sayings.ViewedDirectory _) = refl
path_in-turned (sayings.Existing _) = refl
path_in-turned (sayings.Variable _ _) = refl
path_in-turned sayings.Multiarch = refl

-- one more line adds what it names
pub gathered-more : (before : List Saying) (line : Saying) → with_line (gathered before) line ≡ gathered (before ++ line ∷ [])
gathered-more before line = simp (flat_more, reverse-append, fold-append, viewed_directory_in-turned, path_in-turned, any_more)

-- ---- lines read one by one

-- Of all lines these are left, after lines that named this; the next one has this number.
pub record Passed (first : ℕ) (earlier : List Saying) (all left : List (List ℕ)) (number : ℕ) (kept : Gathered) : Type 0 where
  pub before : List Saying
  pub kept_is : kept ≡ gathered before
  pub told : request_from number before left ≡ request_from first earlier all

module _ (n : ℕ) (before : List Saying) (line : List ℕ) (rest : List (List ℕ)) where
  abbrev told_by : Option Saying → Bool → Result Request ℕ
  told_by o broken = request_unless (cond broken (Some n) (first_broken (n + 1) (before ++ option_to_list o) rest)) (length (line ∷ rest) + n) (before ++ cons_option o (filter_map said rest))

  one_more : (s : Saying) → said line ≡ Some s → breaks (gathered before) (Some s) ≡ false → request_from n before (line ∷ rest) ≡ request_from (n + 1) (before ++ s ∷ []) rest
  one_more s says holds =
      let unbroken : Option ℕ = first_broken (n + 1) (before ++ s ∷ []) rest in
      ap (λ o. told_by o (breaks (gathered before) o)) says ∙ ap (told_by (Some s)) holds
      ∙ ap (λ end. request_unless unbroken end (before ++ s ∷ filter_map said rest)) (omega arith)
      ∙ ap (request_unless unbroken (length rest + (n + 1))) (sym (append_assoc before (s ∷ []) (filter_map said rest)))

  broken_here : breaks (gathered before) (said line) ≡ true → request_from n before (line ∷ rest) ≡ Err n
  broken_here broken = ap (told_by (said line)) broken

module _ (first : ℕ) (earlier : List Saying) (all : List (List ℕ)) (number : ℕ) (kept : Gathered) where
  pub starts : kept ≡ gathered earlier → number ≡ first → Passed first earlier all all number kept
  starts is begins = record { before = earlier; kept_is = is; told = ap (λ n. request_from n earlier all) begins }

  module _ (left : List (List ℕ)) (line : List ℕ) (rest : List (List ℕ)) (p : Passed first earlier all left number kept) (cut : left ≡ line ∷ rest) where
    -- a line was taken
    pub goes_on : (kept' : Gathered) (s : Saying) → said line ≡ Some s → breaks kept (Some s) ≡ false → kept' ≡ with_line kept s → Passed first earlier all rest (number + 1) kept'
    goes_on kept' s says keeps takes = record {
      before = p.before ++ s ∷ [];
      kept_is = takes ∙ ap (λ g. with_line g s) p.kept_is ∙ gathered-more p.before s;
      told =
          sym (one_more number p.before line rest s says (ap (λ g. breaks g (Some s)) (sym p.kept_is) ∙ keeps)) ∙ ap (request_from number p.before) (sym cut) ∙ p.told;
    }

    -- a line breaks a rule
    pub stops : breaks kept (said line) ≡ true → request_from first earlier all ≡ Err number
    stops broken = sym p.told ∙ ap (request_from number p.before) cut ∙ broken_here number p.before line rest (ap (λ g. breaks g (said line)) (sym p.kept_is) ∙ broken)

  -- all were taken
  pub ends : (left : List (List ℕ)) → Passed first earlier all left number kept → left ≡ [] → request_from first earlier all ≡ ok_or (request_of kept) number
  ends left p none =
      sym p.told ∙ ap (request_from number p.before) none ∙ ap (λ end. request_unless None end (p.before ++ [])) (omega arith) ∙ ap (λ ss. ok_or (request_of (gathered ss)) number) (append-nil p.before)
      ∙ ap (λ g. ok_or (request_of g) number) (sym p.kept_is)
