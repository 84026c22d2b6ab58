-- The base of a path: the longest of the directories that fit.
use Rattle.std.proofs.Common.{◌≡◌, ℕ, ◌+◌, true, false, List, ◌∷◌, length, filter, Option, None, Some, refl, sym, ap, ◌∙◌, arith}
use Rattle.std.proofs.lemmas.Bool.Decides.{nat_tests}
use Rattle.scl_base_dirs.specs.declared.spelling.Spelling.{Spelling}
use Rattle.scl_base_dirs.specs.Bases.{Place, placed, fits, numbered, longer, longest}

longer_none : (a : Option Place) → longer a None ≡ a
longer_none None = refl
longer_none (Some place) = refl

longer_three : (x y z : Place) (a b c : ℕ) → length x.dir ≡ a → length y.dir ≡ b → length z.dir ≡ c → longer (longer (Some x) (Some y)) (Some z) ≡ longer (Some x) (longer (Some y) (Some z))
longer_three x y z a b c p q r = grind (arith, nat_tests)

pub longer_longer : (a b c : Option Place) → longer (longer a b) c ≡ longer a (longer b c)
longer_longer None b c = refl
longer_longer (Some x) None c = refl
longer_longer (Some x) (Some y) None = longer_none _
longer_longer (Some x) (Some y) (Some z) = longer_three x y z (length x.dir) (length y.dir) (length z.dir) refl refl refl

-- the longest fit among the directories that are numbered from a number on
abbrev pub fit_from : Spelling → List ℕ → ℕ → List (List ℕ) → Option Place
fit_from spelling path number dirs = longest (filter (λ place. fits spelling place.dir path) (numbered number dirs))

pub fit_yes : (spelling : Spelling) (path : List ℕ) (number : ℕ) (dir : List ℕ) (dirs : List (List ℕ)) → fits spelling dir path ≡ true
    → fit_from spelling path number (dir ∷ dirs) ≡ longer (Some (placed number dir)) (fit_from spelling path (number + 1) dirs)
fit_yes spelling path number dir dirs h = rw h refl

pub fit_no : (spelling : Spelling) (path : List ℕ) (number : ℕ) (dir : List ℕ) (dirs : List (List ℕ)) → fits spelling dir path ≡ false
    → fit_from spelling path number (dir ∷ dirs) ≡ fit_from spelling path (number + 1) dirs
fit_no spelling path number dir dirs h = rw h refl

-- one directory that fits is found
pub found_more : (spelling : Spelling) (path : List ℕ) (number : ℕ) (dir : List ℕ) (dirs : List (List ℕ)) (found found' total : Option Place) → fits spelling dir path ≡ true
    → found' ≡ longer found (Some (placed number dir)) → longer found (fit_from spelling path number (dir ∷ dirs)) ≡ total
    → longer found' (fit_from spelling path (number + 1) dirs) ≡ total
found_more spelling path number dir dirs found found' total h e all =
    let rest = fit_from spelling path (number + 1) dirs in
    ap (λ (o : Option Place). longer o rest) e ∙ longer_longer found (Some (placed number dir)) rest ∙ sym (ap (longer found) (fit_yes spelling path number dir dirs h)) ∙ all

pub found_same : (spelling : Spelling) (path : List ℕ) (number : ℕ) (dir : List ℕ) (dirs : List (List ℕ)) (found total : Option Place) → fits spelling dir path ≡ false
    → longer found (fit_from spelling path number (dir ∷ dirs)) ≡ total → longer found (fit_from spelling path (number + 1) dirs) ≡ total
found_same spelling path number dir dirs found total h all = sym (ap (longer found) (fit_no spelling path number dir dirs h)) ∙ all

pub found_all : (found total : Option Place) → longer found None ≡ total → found ≡ total
found_all found total h = sym (longer_none found) ∙ h

pub ruleset base_rules = (found_more, found_same, found_all)
