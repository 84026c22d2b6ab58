-- What looks find, one after the other.
use Rattle.std.proofs.Common.{◌≡◌, ℕ, ◌+◌, ◌<◌, Bool, true, false, ◌||◌, List, [], ◌∷◌, ◌++◌, length, get_or, take, Option, None, Some, Vec, refl, sym, ap, ◌∙◌}
use Rattle.std.proofs.lemmas.Bool.{false≢true}
use Rattle.std.proofs.lemmas.List.{map_more}
use Rattle.std.specs.Prelude.{is_some}
use Rattle.std.specs.declared.alloc.Global.{Global}
use Rattle.scl_values.specs.Each.{Each}
use Rattle.scl_values.specs.Words.{words_of}
use Rattle.scl_files.specs.Views.{Viewed, bytes_at, is_directory, exists}
use Rattle.scl_files.specs.Wanted.{HasNone}
use Rattle.scl_reader.specs.Questions.{Questions, Extends}
use Rattle.scl_load.specs.declared.look.Sought.{Sought}
use Rattle.scl_load.specs.declared.look.Sought.TheVariants as kinds
use Rattle.scl_load.specs.Loads.{is_there, IsAbsent, AreAbsent, IsSame, AreSame, AreAllSame, HasNoneAsked, IsLookedFor}
use Rattle.scl_load.proofs.ExtendLaws.{extends-same, extends-behind}

both-false : (f g : Bool) → (f || g) ≡ false → (f ≡ false) × (g ≡ false)
both-false true g e = absurd (cc)
both-false false g e = (refl, e)

not-both : {A B : Type 0} (f g : Bool) → (f ≡ true → ¬ A) → (g ≡ true → ¬ B) → (f || g) ≡ true → ¬ (A × B)
not-both true g a b e n = a refl n.0
not-both false g a b e n = b e n.1

-- ---- one look

is-none : (o : Option (List ℕ)) → is_some o ≡ false → o ≡ None
is-none None e = refl
is-none (Some bytes) e = absurd (cc)

same-true : (d v : Bool) → v ≡ true → (v ≡ true → d ≡ true) → d ≡ v
same-true d v e f = f e ∙ sym e

-- what the view has is the same on the disk
same-there : (sought : Sought) (path : List ℕ) (disk view : Viewed) → Extends disk view → is_there sought path view ≡ true → IsSame sought path disk view
same-there kinds.File path disk view extends e =
    elim (bytes_at path view.files) as (λ o. bytes_at path view.files ≡ o → is_some o ≡ true → bytes_at path disk.files ≡ o) [
      | None ↦ λ _ k. absurd (cc)
      | Some b ↦ λ k _. extends.files path b k
    ] refl e
same-there kinds.Directory path disk view extends e = same-true (is_directory path disk) (is_directory path view) e (extends.directories path)
same-there kinds.Existing path disk view extends e = same-true (exists path disk) (exists path view) e (extends.existing path)

there-too : (sought : Sought) (path : List ℕ) (disk view : Viewed) → Extends disk view → is_there sought path view ≡ true → is_there sought path disk ≡ true
there-too kinds.File path disk view extends e =
    elim (bytes_at path view.files) as (λ o. bytes_at path view.files ≡ o → is_some o ≡ true → is_some (bytes_at path disk.files) ≡ true) [
      | None ↦ λ _ k. absurd (cc)
      | Some b ↦ λ k _. rw (extends.files path b k) refl
    ] refl e
there-too kinds.Directory path disk view extends e = extends.directories path e
there-too kinds.Existing path disk view extends e = extends.existing path e

same-absent : (sought : Sought) (path : List ℕ) (disk view : Viewed) → is_there sought path disk ≡ false → is_there sought path view ≡ false → IsSame sought path disk view
same-absent kinds.File path disk view d v = is-none (bytes_at path disk.files) d ∙ sym (is-none (bytes_at path view.files) v)
same-absent kinds.Directory path disk view d v = d ∙ sym v
same-absent kinds.Existing path disk view d v = d ∙ sym v

not-absent : (sought : Sought) (path : List ℕ) (disk : Viewed) → is_there sought path disk ≡ true → ¬ IsAbsent sought path disk
not-absent sought path disk e k = false≢true (sym k ∙ e)

module _ (holds : Viewed → Type 0) (sought : Sought) (path : List ℕ) (view : Viewed) where
  -- the view had it
  pub found-before : is_there sought path view ≡ true → IsLookedFor holds (IsAbsent sought path) (IsSame sought path) view view true
  found-before e = (
    λ _. refl,
    λ disk h extends. record {
      extends = extends;
      keeps = extends-same view;
      same = same-there sought path disk view extends e;
      none_found = λ k. absurd (cc);
      some_found = λ _. not-absent sought path disk (there-too sought path disk view extends e);
    },
  )

  -- neither the view nor the disk has it
  pub found-none : is_there sought path view ≡ false → ((disk : Viewed) → holds disk → is_there sought path disk ≡ false)
      → IsLookedFor holds (IsAbsent sought path) (IsSame sought path) view view false
  found-none e none = (
    λ _. refl,
    λ disk h extends. record {
      extends = extends;
      keeps = extends-same view;
      same = same-absent sought path disk view (none disk h) e;
      none_found = λ _. (refl, none disk h);
      some_found = λ k. absurd (cc);
    },
  )

  -- it was added to the view
  pub found-new : (after : Viewed) → is_there sought path after ≡ true
      → ((disk : Viewed) → holds disk → Extends disk view → Extends disk after × Extends after view) → IsLookedFor holds (IsAbsent sought path) (IsSame sought path) view after true
  found-new after e extended = (
    λ k. absurd (cc),
    λ disk h extends.
        let here = extended disk h extends in record {
          extends = here.0;
          keeps = here.1;
          same = same-there sought path disk after here.0 e;
          none_found = λ k. absurd (cc);
          some_found = λ _. not-absent sought path disk (there-too sought path disk after here.0 e);
        },
  )

-- ---- what is the same stays the same

bool-kept : (d m a : Bool) → (a ≡ true → d ≡ true) → (m ≡ true → a ≡ true) → d ≡ m → d ≡ a
bool-kept d m true f g e = f refl
bool-kept d true false f g e = absurd (false≢true (g refl))
bool-kept d false false f g e = e

not-both-ways : (o : Option (List ℕ)) (b : List ℕ) → o ≡ None → o ≡ Some b → ⊥
not-both-ways o b n e = absurd (cc)

pub same-kept : (sought : Sought) (path : List ℕ) (disk middle after : Viewed) → Extends disk after → Extends after middle → IsSame sought path disk middle → IsSame sought path disk after
same-kept kinds.File path disk middle after extends keeps e =
    elim (bytes_at path after.files) as (λ o. bytes_at path after.files ≡ o → bytes_at path disk.files ≡ o) [
      | None ↦ λ a. e ∙ elim (bytes_at path middle.files) as (λ m. bytes_at path middle.files ≡ m → m ≡ None) [
        | None ↦ λ _. refl
        | Some b ↦ λ m. absurd (not-both-ways (bytes_at path after.files) b a (keeps.files path b m))
      ] refl
      | Some b ↦ λ a. extends.files path b a
    ] refl
same-kept kinds.Directory path disk middle after extends keeps e =
    bool-kept (is_directory path disk) (is_directory path middle) (is_directory path after) (extends.directories path) (keeps.directories path) e
same-kept kinds.Existing path disk middle after extends keeps e = bool-kept (exists path disk) (exists path middle) (exists path after) (extends.existing path) (keeps.existing path) e

pub each-kept : (sought : Sought) (paths : List (List ℕ)) (disk middle after : Viewed) → Extends disk after → Extends after middle → AreSame sought paths disk middle → AreSame sought paths disk after
each-kept sought [] disk middle after extends keeps h = tt
each-kept sought (path ∷ paths) disk middle after extends keeps h = (same-kept sought path disk middle after extends keeps h.0, each-kept sought paths disk middle after extends keeps h.1)

-- ---- two looks

module _ (holds first second : Viewed → Type 0) (one_same other_same : Viewed → Viewed → Type 0) (before middle after : Viewed) (f g : Bool) where
  pub in-turn : ((disk : Viewed) → Extends disk after → Extends after middle → one_same disk middle → one_same disk after)
      → IsLookedFor holds first one_same before middle f → IsLookedFor holds second other_same middle after g
      → IsLookedFor holds (λ disk. first disk × second disk) (λ disk view. one_same disk view × other_same disk view) before after (f || g)
  in-turn kept one two = (
    λ k. let both = both-false f g k in two.0 both.1 ∙ one.0 both.0,
    λ disk h extends.
        let x = one.1 disk h extends in
        let y = two.1 disk h x.extends in record {
          extends = y.extends;
          keeps = extends-behind after middle before y.keeps x.keeps;
          same = (kept disk y.extends y.keeps x.same, y.same);
          none_found = λ k.
              let both = both-false f g k in
              let here = x.none_found both.0 in
              let there = y.none_found both.1 in
              (there.0 ∙ here.0, (here.1, there.1));
          some_found = not-both f g x.some_found y.some_found;
        },
  )

-- the same in other words
module _ (holds one other : Viewed → Type 0) (one_same other_same : Viewed → Viewed → Type 0) (before after : Viewed) (found : Bool) where
  pub said-otherwise : ((disk : Viewed) → one disk → other disk) → ((disk : Viewed) → other disk → one disk) → ((disk : Viewed) → one_same disk after → other_same disk after)
      → IsLookedFor holds one one_same before after found → IsLookedFor holds other other_same before after found
  said-otherwise to back same looked = (
    looked.0,
    λ disk h extends.
        let x = looked.1 disk h extends in record {
          extends = x.extends;
          keeps = x.keeps;
          same = same disk x.same;
          none_found = λ k. let here = x.none_found k in (here.0, to disk here.1);
          some_found = λ k n. x.some_found k (back disk n);
        },
  )

-- ---- the paths of a list

each-behind : (P : List ℕ → Type 0) (xs : List (List ℕ)) (x : List ℕ) → Each P xs → P x → Each P (xs ++ x ∷ [])
each-behind P [] x h k = (k, tt)
each-behind P (y ∷ xs) x h k = (h.0, each-behind P xs x h.1 k)

each-before : (P : List ℕ → Type 0) (xs : List (List ℕ)) (x : List ℕ) → Each P (xs ++ x ∷ []) → Each P xs × P x
each-before P [] x h = (tt, h.0)
each-before P (y ∷ xs) x h = let k = each-before P xs x h.1 in ((h.0, k.0), k.1)

pub one-more : (holds : Viewed → Type 0) (sought : Sought) (paths : List (List ℕ)) (path : List ℕ) (before middle after : Viewed) (f g : Bool)
    → IsLookedFor holds (AreAbsent sought paths) (AreSame sought paths) before middle f → IsLookedFor holds (IsAbsent sought path) (IsSame sought path) middle after g
    → IsLookedFor holds (AreAbsent sought (paths ++ path ∷ [])) (AreSame sought (paths ++ path ∷ [])) before after (f || g)
one-more holds sought paths path before middle after f g one two =
    said-otherwise holds (λ disk. AreAbsent sought paths disk × IsAbsent sought path disk) (AreAbsent sought (paths ++ path ∷ []))
    (λ disk view. AreSame sought paths disk view × IsSame sought path disk view) (AreSame sought (paths ++ path ∷ [])) before after (f || g)
    (λ disk h. each-behind (λ p. IsAbsent sought p disk) paths path h.0 h.1)
    (λ disk h. each-before (λ p. IsAbsent sought p disk) paths path h)
    (λ disk h. each-behind (λ p. IsSame sought p disk after) paths path h.0 h.1)
    (in-turn holds (AreAbsent sought paths) (IsAbsent sought path) (AreSame sought paths) (IsSame sought path) before middle after f g
    (λ disk extends keeps h. each-kept sought paths disk middle after extends keeps h) one two)

-- one more path of a list of the code
pub paths-more : (holds : Viewed → Type 0) (sought : Sought) (paths : List (Vec ℕ Global)) (i : ℕ) (path : Vec ℕ Global) (before middle after : Viewed) (f g any : Bool)
    → i < length paths → path ≡ get_or paths i path → any ≡ (f || g)
    → IsLookedFor holds (AreAbsent sought (words_of (take i paths))) (AreSame sought (words_of (take i paths))) before middle f
    → IsLookedFor holds (IsAbsent sought path.items) (IsSame sought path.items) middle after g
    → IsLookedFor holds (AreAbsent sought (words_of (take (i + 1) paths))) (AreSame sought (words_of (take (i + 1) paths))) before after any
paths-more holds sought paths i path before middle after f g any h is either one two =
    let taken : words_of (take (i + 1) paths) ≡ (words_of (take i paths) ++ path.items ∷ []) =
    map_more (λ word. word.items) paths i path h ∙ ap (λ p. words_of (take i paths) ++ p.items ∷ []) (sym is) in
    rw (taken, either) (one-more holds sought (words_of (take i paths)) path.items before middle after f g one two)

-- ---- all that is in question

none-at : (disk : Viewed) (paths : List (List ℕ)) → AreAbsent kinds.File paths disk → HasNone disk.files paths
none-at disk [] h = tt
none-at disk (path ∷ paths) h = (is-none (bytes_at path disk.files) h.0, none-at disk paths h.1)

absent-at : (disk : Viewed) (paths : List (List ℕ)) → HasNone disk.files paths → AreAbsent kinds.File paths disk
absent-at disk [] h = tt
absent-at disk (path ∷ paths) h = (rw h.0 refl, absent-at disk paths h.1)

pub all-asked : (holds : Viewed → Type 0) (q : Questions) (a b c d : Viewed) (f g h : Bool)
    → IsLookedFor holds (AreAbsent kinds.File q.files) (AreSame kinds.File q.files) a b f
    → IsLookedFor holds (AreAbsent kinds.Directory q.directories) (AreSame kinds.Directory q.directories) b c g
    → IsLookedFor holds (AreAbsent kinds.Existing q.existing) (AreSame kinds.Existing q.existing) c d h
    → IsLookedFor holds (HasNoneAsked q) (AreAllSame q) a d (f || (g || h))
all-asked holds q a b c d f g h one two three =
    said-otherwise holds (λ disk. AreAbsent kinds.File q.files disk × (AreAbsent kinds.Directory q.directories disk × AreAbsent kinds.Existing q.existing disk)) (HasNoneAsked q)
    (λ disk view. AreSame kinds.File q.files disk view × (AreSame kinds.Directory q.directories disk view × AreSame kinds.Existing q.existing disk view)) (AreAllSame q) a d (f || (g || h))
    (λ disk x. record { files = none-at disk q.files x.0; directories = x.1.0; existing = x.1.1 })
    (λ disk x. (absent-at disk q.files x.files, (x.directories, x.existing)))
    (λ disk x. (x.0, x.1.0, x.1.1))
    (in-turn holds (AreAbsent kinds.File q.files) (λ disk. AreAbsent kinds.Directory q.directories disk × AreAbsent kinds.Existing q.existing disk) (AreSame kinds.File q.files)
    (λ disk view. AreSame kinds.Directory q.directories disk view × AreSame kinds.Existing q.existing disk view) a b d f (g || h)
    (λ disk extends keeps x. each-kept kinds.File q.files disk b d extends keeps x) one
    (in-turn holds (AreAbsent kinds.Directory q.directories) (AreAbsent kinds.Existing q.existing) (AreSame kinds.Directory q.directories) (AreSame kinds.Existing q.existing) b c d g h
    (λ disk extends keeps x. each-kept kinds.Directory q.directories disk c d extends keeps x) two three))
