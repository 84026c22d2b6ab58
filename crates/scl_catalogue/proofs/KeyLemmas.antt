-- What follows from the numbers of options.
use Rattle.std.proofs.Common.{◌≡◌, ◌∙◌, ℕ, zero, suc, ◌+◌, ◌*◌, ◌%◌, Bool, true, false, ◌&&◌, ◌||◌, not, cond, List, [], ◌∷◌, length, take, Option, None, Some, unwrap_or, refl, sym, ap}
use Rattle.std.proofs.lemmas.Bool.{eqb-true}
use Rattle.std.specs.List.{list_all, list_any, slice_get, starts_with}
use Rattle.std.specs.Prelude.{nat_eq, nat_lt, slice_index, slice_set}
use Rattle.std.specs.Str.{bytes_eq}
use Rattle.scl_catalogue.specs.Form.{Demand, Group, Pattern, Text, Test, Relation, Any, Two, Before, Unfollowed, Last}
use Rattle.scl_catalogue.specs.Found.{OptionSeen, behind, compared, first_is, fits, in_group, is_last, is_met, is_of, is_unfollowed, name_by, one_fits, passes, relates, test_passes}
use Rattle.scl_catalogue.specs.Keyed.{added, added_as, all_added, first_group, is_keyed, is_keyed_as, is_numbered, key_by, may_be, may_fit, may_have, may_pass, may_pass_as, number}
use Rattle.scl_catalogue.specs.declared.keys.Keys.{Keys}
use Rattle.scl_catalogue.specs.declared.seen.Standing.{Standing}
use Rattle.scl_catalogue.specs.declared.seen.Standing.TheVariants as standing
use Rattle.scl_catalogue.specs.declared.test.Class.{Class}
use Rattle.scl_catalogue.specs.declared.test.Class.TheVariants as class
use Rattle.scl_catalogue.specs.declared.text.How.{How}
use Rattle.scl_catalogue.specs.declared.text.How.TheVariants as how

pub and-left : (a b : Bool) → (a && b) ≡ true → a ≡ true
and-left true b h = refl
and-left false b h = h

pub and-right : (a b : Bool) → (a && b) ≡ true → b ≡ true
and-right true b h = h
and-right false b h = let no : false ≡ true = h in cc

both : (a b : Bool) → a ≡ true → b ≡ true → (a && b) ≡ true
both a b h k = rw (h, k) refl

pub or-true : (a b : Bool) → b ≡ true → (a || b) ≡ true
or-true true b h = refl
or-true false b h = h

-- ---- the numbers of options, put together

pub set-there : (ns : List Bool) (n : ℕ) → unwrap_or (slice_get (slice_set ns n true) n) true ≡ true
set-there [] n = refl
set-there (b ∷ bs) zero = refl
set-there (b ∷ bs) (suc n) = set-there bs n

pub set-kept : (ns : List Bool) (n m : ℕ) → unwrap_or (slice_get ns m) true ≡ true → unwrap_or (slice_get (slice_set ns n true) m) true ≡ true
set-kept [] n m h = refl
set-kept (b ∷ bs) zero zero h = refl
set-kept (b ∷ bs) zero (suc m) h = h
set-kept (b ∷ bs) (suc n) zero h = h
set-kept (b ∷ bs) (suc n) (suc m) h = set-kept bs n m h

keyed-there : (k : Keys) (s : Standing) (name kind : List ℕ) → is_keyed_as (added_as k s name kind) s name kind ≡ true
keyed-there k standing.Raw name kind = refl
keyed-there k standing.Unknown name kind = set-there k.unknown (number name)
keyed-there k standing.Known name kind = both _ _ (set-there k.flags (number name)) (set-there k.kinds (number kind))

keyed-kept : (k : Keys) (s t : Standing) (name kind other kind_of_other : List ℕ) → is_keyed_as k s name kind ≡ true → is_keyed_as (added_as k t other kind_of_other) s name kind ≡ true
keyed-kept k standing.Raw standing.Raw name kind other kind_of_other h = refl
keyed-kept k standing.Raw standing.Unknown name kind other kind_of_other h = h
keyed-kept k standing.Raw standing.Known name kind other kind_of_other h = h
keyed-kept k standing.Unknown standing.Raw name kind other kind_of_other h = h
keyed-kept k standing.Unknown standing.Unknown name kind other kind_of_other h = set-kept k.unknown (number other) (number name) (and-right k.has_unknown (is_numbered k.unknown name) h)
keyed-kept k standing.Unknown standing.Known name kind other kind_of_other h = h
keyed-kept k standing.Known standing.Raw name kind other kind_of_other h = h
keyed-kept k standing.Known standing.Unknown name kind other kind_of_other h = h
keyed-kept k standing.Known standing.Known name kind other kind_of_other h =
    let r : (is_numbered k.flags name && is_numbered k.kinds kind) ≡ true = and-right k.has_known (is_numbered k.flags name && is_numbered k.kinds kind) h in
    both _ _ (set-kept k.flags (number other) (number name) (and-left (is_numbered k.flags name) (is_numbered k.kinds kind) r)) (set-kept k.kinds (number kind_of_other) (number kind) (and-right (is_numbered k.flags name) (is_numbered k.kinds kind) r))

kept-all : (k : Keys) (o : OptionSeen) (os : List OptionSeen) → is_keyed k o ≡ true → is_keyed (all_added k os) o ≡ true
unfolding is_keyed
kept-all k o [] h = h
kept-all k o (p ∷ os) h = kept-all (added k p) o os (keyed-kept k o.standing p.standing o.name o.kind p.name p.kind h)

pub all_keyed : (k : Keys) (os : List OptionSeen) → list_all (is_keyed (all_added k os)) os ≡ true
unfolding is_keyed
all_keyed k [] = refl
all_keyed k (o ∷ os) = both _ _ (kept-all (added k o) o os (keyed-there k o.standing o.name o.kind)) (all_keyed (added k o) os)

-- ---- words that a pattern fits have its number

pub bytes-same : (xs ys : List ℕ) → bytes_eq xs ys ≡ true → xs ≡ ys
bytes-same [] [] h = refl
bytes-same [] (y ∷ ys) h = let no : false ≡ true = h in cc
bytes-same (x ∷ xs) [] h = let no : false ≡ true = h in cc
bytes-same (x ∷ xs) (y ∷ ys) h =
    let e : x ≡ y = eqb-true x y (and-left (nat_eq x y) (bytes_eq xs ys) h) in
    let r : xs ≡ ys = bytes-same xs ys (and-right (nat_eq x y) (bytes_eq xs ys) h) in
    cc

numbered-same : (ns : List Bool) (text word : List ℕ) → text ≡ word → is_numbered ns word ≡ true → is_numbered ns text ≡ true
numbered-same ns text word e h = rw e h

either : (b : Bool) (ns : List Bool) (n : ℕ) → unwrap_or (slice_get ns n) true ≡ true → may_be ns (cond b None (Some n)) ≡ true
either true ns n h = refl
either false ns n h = h

pub begins-number : (a b c : ℕ) (ts word : List ℕ) → starts_with nat_eq word (a ∷ b ∷ c ∷ ts) ≡ true → number (a ∷ b ∷ c ∷ ts) ≡ number word
begins-number a b c ts [] h = let no : false ≡ true = h in cc
begins-number a b c ts (x ∷ []) h = let no : false ≡ true = and-right (nat_eq a x) false h in cc
begins-number a b c ts (x ∷ y ∷ []) h = let no : false ≡ true = and-right (nat_eq b y) false (and-right (nat_eq a x) (nat_eq b y && false) h) in cc
begins-number a b c ts (x ∷ y ∷ z ∷ word) h =
    let r1 : (nat_eq b y && (nat_eq c z && bytes_eq ts (take (length ts) word))) ≡ true = and-right (nat_eq a x) _ h in
    let r2 : (nat_eq c z && bytes_eq ts (take (length ts) word)) ≡ true = and-right (nat_eq b y) _ r1 in
    let e1 : b ≡ y = eqb-true b y (and-left (nat_eq b y) _ r1) in
    let e2 : c ≡ z = eqb-true c z (and-left (nat_eq c z) _ r2) in
    rw (e1, e2) refl

begins-fit : (ns : List Bool) (text word : List ℕ) → is_numbered ns word ≡ true → starts_with nat_eq word text ≡ true → may_be ns (key_by how.Begins text) ≡ true
begins-fit ns [] word k h = refl
begins-fit ns (a ∷ []) word k h = refl
begins-fit ns (a ∷ b ∷ []) word k h = refl
begins-fit ns (a ∷ b ∷ c ∷ ts) word k h = either _ ns (number (a ∷ b ∷ c ∷ ts)) (let e = begins-number a b c ts word h in rw e k)

fit-by : (ns : List Bool) (h : How) (text word : List ℕ) → is_numbered ns word ≡ true → compared h text word ≡ true → may_be ns (key_by h text) ≡ true
fit-by ns how.Is text word k f = numbered-same ns text word (bytes-same text word f) k
fit-by ns how.Begins text word k f = begins-fit ns text word k f
fit-by ns how.Ends text word k f = refl
fit-by ns how.Holds text word k f = refl

-- ---- options that pass a test have one of its numbers

any-more : {X : Type 0} (p q : X → Bool) (xs : List X) → ((x : X) → p x ≡ true → q x ≡ true) → list_any p xs ≡ true → list_any q xs ≡ true
any-more p q [] more h = h
any-more p q (x ∷ xs) more h = elim (p x) as (λ b. (p x ≡ b) → (b || list_any p xs) ≡ true → (q x || list_any q xs) ≡ true) [
  | true ↦ λ e k. rw (more x e) refl
  | false ↦ λ e k. or-true (q x) (list_any q xs) (any-more p q xs more k)
] refl h

have-number : (ns : List Bool) (t : Text) (word : List ℕ) → is_numbered ns word ≡ true → passes t word ≡ true → may_have ns t ≡ true
unfolding passes
have-number ns t word k h = any-more (λ p. fits p word) (may_fit ns) t.any (λ p f. fit-by ns p.how p.text word k f) (and-left (one_fits t.any word) (not (one_fits t.but word)) h)

raw-by : (k : Keys) (s : Standing) (name kind : List ℕ) → is_keyed_as k s name kind ≡ true → is_of class.Raw s ≡ true → k.has_raw ≡ true
raw-by k standing.Raw name kind h i = h
raw-by k standing.Unknown name kind h i = let no : false ≡ true = i in cc
raw-by k standing.Known name kind h i = let no : false ≡ true = i in cc

unknown-by : (k : Keys) (s : Standing) (t : Text) (name kind : List ℕ) → is_keyed_as k s name kind ≡ true → is_of class.Unknown s ≡ true → passes t name ≡ true → (k.has_unknown && may_have k.unknown t) ≡ true
unknown-by k standing.Raw t name kind h i n = let no : false ≡ true = i in cc
unknown-by k standing.Unknown t name kind h i n = both _ _ (and-left k.has_unknown (is_numbered k.unknown name) h) (have-number k.unknown t name (and-right k.has_unknown (is_numbered k.unknown name) h) n)
unknown-by k standing.Known t name kind h i n = let no : false ≡ true = i in cc

flag-by : (k : Keys) (s : Standing) (t : Text) (name kind : List ℕ) → is_keyed_as k s name kind ≡ true → is_of class.Flag s ≡ true → passes t name ≡ true → (k.has_known && may_have k.flags t) ≡ true
flag-by k standing.Raw t name kind h i n = let no : false ≡ true = i in cc
flag-by k standing.Unknown t name kind h i n = let no : false ≡ true = i in cc
flag-by k standing.Known t name kind h i n =
    let r : (is_numbered k.flags name && is_numbered k.kinds kind) ≡ true = and-right k.has_known (is_numbered k.flags name && is_numbered k.kinds kind) h in
    both _ _ (and-left k.has_known (is_numbered k.flags name && is_numbered k.kinds kind) h) (have-number k.flags t name (and-left (is_numbered k.flags name) (is_numbered k.kinds kind) r) n)

kind-by : (k : Keys) (s : Standing) (t : Text) (name kind : List ℕ) → is_keyed_as k s name kind ≡ true → is_of class.Kind s ≡ true → passes t kind ≡ true → (k.has_known && may_have k.kinds t) ≡ true
kind-by k standing.Raw t name kind h i n = let no : false ≡ true = i in cc
kind-by k standing.Unknown t name kind h i n = let no : false ≡ true = i in cc
kind-by k standing.Known t name kind h i n =
    let r : (is_numbered k.flags name && is_numbered k.kinds kind) ≡ true = and-right k.has_known (is_numbered k.flags name && is_numbered k.kinds kind) h in
    both _ _ (and-left k.has_known (is_numbered k.flags name && is_numbered k.kinds kind) h) (have-number k.kinds t kind (and-right (is_numbered k.flags name) (is_numbered k.kinds kind) r) n)

pass-by : (k : Keys) (c : Class) (t : Text) (o : OptionSeen) → is_keyed_as k o.standing o.name o.kind ≡ true → is_of c o.standing ≡ true → passes t (name_by c o) ≡ true → may_pass_as k c t ≡ true
pass-by k class.Option t o h i n = refl
pass-by k class.Raw t o h i n = raw-by k o.standing o.name o.kind h i
pass-by k class.Unknown t o h i n = unknown-by k o.standing t o.name o.kind h i n
pass-by k class.Flag t o h i n = flag-by k o.standing t o.name o.kind h i n
pass-by k class.Kind t o h i n = kind-by k o.standing t o.name o.kind h i n

may-pass : (k : Keys) (o : OptionSeen) (t : Test) → is_keyed k o ≡ true → test_passes t o ≡ true → may_pass k t ≡ true
unfolding is_keyed test_passes may_pass
may-pass k o t h p =
    let r : (passes t.names (name_by t.class o) && list_all (is_met o) t.demands) ≡ true = and-right (is_of t.class o.standing) _ p in
    pass-by k t.class t.names o h (and-left (is_of t.class o.standing) _ p) (and-left (passes t.names (name_by t.class o)) _ r)

not-in : (b may : Bool) → (b ≡ true → may ≡ true) → may ≡ false → b ≡ false
not-in true may more h = let no : true ≡ false = sym (more refl) ∙ h in cc
not-in false may more h = refl

-- where no test may be passed by an option with these numbers, none of the options that have them is in the group
pub none_in : (k : Keys) (g : Group) (os : List OptionSeen) → list_all (is_keyed k) os ≡ true → list_any (may_pass k) g.tests ≡ false → list_any (in_group g) os ≡ false
unfolding in_group
none_in k g [] h none = refl
none_in k g (o ∷ os) h none =
    let first : in_group g o ≡ false = not-in (in_group g o) (list_any (may_pass k) g.tests) (λ p. any-more (λ t. test_passes t o) (may_pass k) g.tests (λ t q. may-pass k o t (and-left (is_keyed k o) _ h) q) p) none in
    rw (first, none_in k g os (and-right (is_keyed k o) _ h) none) refl

-- ---- relations

or-right : (a b : Bool) → (a || b) ≡ false → b ≡ false
or-right true b h = let no : true ≡ false = h in cc
or-right false b h = h

pick : (b any : Bool) (os rest : List OptionSeen) → (b || any) ≡ false → rest ≡ [] → cond b os rest ≡ []
pick true any os rest h e = let no : true ≡ false = h in cc
pick false any os rest h e = e

behind-none : (p : OptionSeen → Bool) (os : List OptionSeen) → list_any p os ≡ false → behind p os ≡ []
behind-none p [] h = refl
behind-none p (o ∷ os) h = pick (p o) (list_any p os) os (behind p os) h (behind-none p os (or-right (p o) (list_any p os) h))

step : (b x any r : Bool) → (b || any) ≡ false → r ≡ false → ((b && x) || r) ≡ false
step true x any r h e = let no : true ≡ false = h in cc
step false x any r h e = e

unfollowed-none : (p q : OptionSeen → Bool) (os : List OptionSeen) → list_any p os ≡ false → is_unfollowed p q os ≡ false
unfollowed-none p q [] h = refl
unfollowed-none p q (o ∷ os) h = step (p o) (not (first_is q os)) (list_any p os) (is_unfollowed p q os) h (unfollowed-none p q os (or-right (p o) (list_any p os) h))

last-none : (p q : OptionSeen → Bool) (os : List OptionSeen) → list_any p os ≡ false → is_last p q os ≡ false
last-none p q [] h = refl
last-none p q (o ∷ os) h = step (p o) (not (list_any (λ other. q other && not (p other)) os)) (list_any p os) (is_last p q os) h (last-none p q os (or-right (p o) (list_any p os) h))

-- where no option is of the first group, no relation holds
pub relates_none : (r : Relation) (os : List OptionSeen) → list_any (in_group (first_group r)) os ≡ false → relates r os ≡ false
relates_none (Any g) os e = e
relates_none (Two g) os e = ap (list_any (in_group g)) (behind-none (in_group g) os e)
relates_none (Before g h) os e = ap (list_any (in_group h)) (behind-none (in_group g) os e)
relates_none (Unfollowed g h) os e = unfollowed-none (in_group g) (in_group h) os e
relates_none (Last g h) os e = last-none (in_group g) (in_group h) os e
