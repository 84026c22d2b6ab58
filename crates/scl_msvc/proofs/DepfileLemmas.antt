-- The files that lines name, and the set of those named before.
use Rattle.std.proofs.Common.{◌≡◌, ℕ, Bool, true, false, not, ◌||◌, List, [], ◌∷◌, ◌++◌, refl, sym, ap, ◌∙◌, subst}
use Rattle.std.proofs.lemmas.Slice.Eq.{bytes_eq-Decides}
use Rattle.std.proofs.lemmas.List.Folds.{list_any-append}
use Rattle.std.proofs.lemmas.Map.Lookups.{exact_bytes}
use Rattle.std.specs.BTreeSet.{BTreeSet, contains, insert_key}
use Rattle.std.specs.Cmp.{both_ways}
use Rattle.std.specs.Cmp.Lexicographic.{slice_cmp, nat_list_cmp_total}
use Rattle.std.specs.List.{list_any, AllByRecursion}
use Rattle.std.specs.List.Sorted.{IsStrictlySortedBy}
use Rattle.std.specs.Ordering.{nat_cmp, is_eq, match_ordering, ordering_reverse}
use Rattle.std.specs.Prelude.{Vec}
use Rattle.std.specs.Str.{bytes_eq}
use Rattle.std.specs.declared.alloc.Global.{Global}
use Rattle.std.specs.declared.cmp.Ordering.{Ordering}
use Rattle.std.specs.declared.cmp.Ordering.TheVariants.{Less, Equal, Greater}
use Rattle.scl_values.specs.Words.{words_of}
use Rattle.scl_msvc.specs.Depfile.{HasWords}

abbrev pub vec_cmp : Vec ℕ Global → Vec ℕ Global → Ordering
vec_cmp a b = slice_cmp nat_cmp a.items b.items

tied : (o : Ordering) → o ≡ ordering_reverse o → o ≡ Equal
tied Less h = cc
tied Equal h = refl
tied Greater h = cc

same_ties : (a b : List ℕ) → a ≡ b → slice_cmp nat_cmp a b ≡ Equal
same_ties a b e = subst (λ c. slice_cmp nat_cmp a c ≡ Equal) e (tied _ (nat_list_cmp_total.antisymm a a))

equal : (o : Ordering) → is_eq o ≡ true → o ≡ Equal
equal Less h = cc
equal Equal h = refl
equal Greater h = cc

pub is_eq-bytes : (a b : List ℕ) → is_eq (slice_cmp nat_cmp a b) ≡ bytes_eq a b
is_eq-bytes a b =
    both_ways (is_eq (slice_cmp nat_cmp a b)) (bytes_eq a b)
    (λ h. (bytes_eq-Decides a b).1 (exact_bytes a b (equal _ h)))
    (λ h. ap is_eq (same_ties a b ((bytes_eq-Decides a b).0 h)))

-- which words a set has, by their bytes
pub contains-words : (key : Vec ℕ Global) (keys : List (Vec ℕ Global)) → list_any (λ k. is_eq (slice_cmp nat_cmp key.items k.items)) keys ≡ list_any (bytes_eq key.items) (words_of keys)
contains-words key [] = refl
contains-words key (k ∷ keys) = rw (is_eq-bytes key.items k.items, contains-words key keys) refl

rotated : (a b c : Bool) → (a || (b || c)) ≡ ((b || c) || a)
rotated true true c = refl
rotated true false true = refl
rotated true false false = refl
rotated false true c = refl
rotated false false true = refl
rotated false false false = refl

repeated : (a b : Bool) → (a || b) ≡ ((a || b) || a)
repeated true b = refl
repeated false true = refl
repeated false false = refl

grouped : (a b c d : Bool) → b ≡ (c || d) → (a || b) ≡ ((a || c) || d)
grouped true b c d e = refl
grouped false b c d e = e

pub any-insert_key : (word : List ℕ) (keys : List (Vec ℕ Global)) (key : Vec ℕ Global) → list_any (bytes_eq word) (words_of (insert_key vec_cmp keys key)) ≡ (list_any (bytes_eq word) (words_of keys) || bytes_eq word key.items)
any-insert_key word [] key = rotated (bytes_eq word key.items) false false
any-insert_key word (x ∷ keys) key =
    elim (slice_cmp nat_cmp key.items x.items) as (λ o. slice_cmp nat_cmp key.items x.items ≡ o → list_any (bytes_eq word) (words_of (match_ordering o (key ∷ (x ∷ keys)) (x ∷ keys) (x ∷ insert_key vec_cmp keys key))) ≡ ((bytes_eq word x.items || list_any (bytes_eq word) (words_of keys)) || bytes_eq word key.items)) [
      | Less ↦ λ e. rotated (bytes_eq word key.items) (bytes_eq word x.items) (list_any (bytes_eq word) (words_of keys))
      | Equal ↦ λ e. repeated (bytes_eq word x.items) (list_any (bytes_eq word) (words_of keys)) ∙ ap (λ w. (bytes_eq word x.items || list_any (bytes_eq word) (words_of keys)) || bytes_eq word w) (sym (exact_bytes key.items x.items e))
      | Greater ↦ λ e. grouped (bytes_eq word x.items) _ (list_any (bytes_eq word) (words_of keys)) (bytes_eq word key.items) (any-insert_key word keys key)
    ] refl

pub has-none : (set : BTreeSet (Vec ℕ Global)) → set.keys ≡ [] → HasWords set []
has-none set e = record { are_the_same = λ word. rw e refl }

pub has-unchanged : (old new : BTreeSet (Vec ℕ Global)) (words : List (List ℕ)) → HasWords old words → new.keys ≡ old.keys → HasWords new words
has-unchanged old new words h e = record { are_the_same = λ word. rw e (h.are_the_same word) }

or_none : (a b c : Bool) → a ≡ c → (a || b) ≡ (c || (b || false))
or_none true b c e = rw (← e) refl
or_none false true c e = rw (← e) refl
or_none false false c e = rw (← e) refl

pub has-more : (old new : BTreeSet (Vec ℕ Global)) (key : Vec ℕ Global) (words : List (List ℕ)) → HasWords old words → new.keys ≡ insert_key vec_cmp old.keys key → HasWords new (words ++ key.items ∷ [])
has-more old new key words h e = record {
  are_the_same = λ word. ap (λ keys. list_any (bytes_eq word) (words_of keys)) e ∙ any-insert_key word old.keys key
      ∙ or_none _ (bytes_eq word key.items) _ (h.are_the_same word) ∙ sym (list_any-append (bytes_eq word) words (key.items ∷ []));
}

not_true : (b : Bool) → false ≡ not b → b ≡ true
not_true true e = refl
not_true false e = cc

not_false : (b : Bool) → true ≡ not b → b ≡ false
not_false true e = cc
not_false false e = refl

pub was-seen : (set : BTreeSet (Vec ℕ Global)) (key : Vec ℕ Global) (words : List (List ℕ)) → HasWords set words → false ≡ not (contains vec_cmp set key) → list_any (bytes_eq key.items) words ≡ true
was-seen set key words h e = sym (h.are_the_same key.items) ∙ sym (contains-words key set.keys) ∙ not_true _ e

pub was-unseen : (set : BTreeSet (Vec ℕ Global)) (key : Vec ℕ Global) (words : List (List ℕ)) → HasWords set words → true ≡ not (contains vec_cmp set key) → list_any (bytes_eq key.items) words ≡ false
was-unseen set key words h e = sym (h.are_the_same key.items) ∙ sym (contains-words key set.keys) ∙ not_false _ e

all_words : (key : Vec ℕ Global) (keys : List (Vec ℕ Global)) → AllByRecursion (λ k. vec_cmp key k ≡ Less) keys → AllByRecursion (λ word. slice_cmp nat_cmp key.items word ≡ Less) (words_of keys)
all_words key [] h = tt
all_words key (k ∷ keys) h = (h.0, all_words key keys h.1)

pub sorted-words : (keys : List (Vec ℕ Global)) → IsStrictlySortedBy vec_cmp keys → IsStrictlySortedBy (slice_cmp nat_cmp) (words_of keys)
unfolding IsStrictlySortedBy
sorted-words [] h = tt
sorted-words (key ∷ keys) h = (all_words key keys h.0, sorted-words keys h.1)
