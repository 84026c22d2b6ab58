-- Paths with the same components, and the number that they share.
use Rattle.std.proofs.Common.{◌≡◌, ℕ, true, List, ◌∷◌, refl}
use Rattle.std.proofs.lemmas.Bool.{and_parts}
use Rattle.std.specs.Str.{bytes_eq}
use Rattle.std.specs.Cmp.Lexicographic.{pointwise}
use lib.Pointwise.{pointwise_decides, bytes_decides}
use Rattle.scl_files.specs.Paths.{Components, components, same_components, same_path, start}
use Rattle.scl_files.specs.PathTrees.{parts_of}

names : List ℕ → List (List ℕ)
names path = (components path).names

components_equal : (a b : Components) → same_components a b ≡ true → (a.start ≡ b.start) × (a.names ≡ b.names)
components_equal a b h =
    let parts = and_parts (bytes_eq a.start b.start) (pointwise bytes_eq a.names b.names) h in
    ((bytes_decides a.start b.start).0 parts.0, (pointwise_decides bytes_decides a.names b.names).0 parts.1)

same_components-left : (a b c : Components) → same_components a b ≡ true → same_components b c ≡ same_components a c
same_components-left a b c h = let e = components_equal a b h in rw (e.0, e.1) refl

same_components-right : (a b c : Components) → same_components b c ≡ true → same_components a b ≡ same_components a c
same_components-right a b c h = let e = components_equal b c h in rw (e.0, e.1) refl

pub same_path-left : (a b c : List ℕ) → same_path a b ≡ true → same_path b c ≡ same_path a c
same_path-left a b c h = same_components-left (components a) (components b) (components c) h

pub same_path-right : (a b c : List ℕ) → same_path b c ≡ true → same_path a b ≡ same_path a c
same_path-right a b c h = same_components-right (components a) (components b) (components c) h

same_components-same : (a : Components) → same_components a a ≡ true
same_components-same a = rw ((bytes_decides a.start a.start).1 refl, (pointwise_decides bytes_decides a.names a.names).1 refl) refl

pub same_path-same : (a : List ℕ) → same_path a a ≡ true
same_path-same a = same_components-same (components a)

-- ---- the parts that they share

pub parts-same : (a b : List ℕ) → same_path a b ≡ true → parts_of a ≡ parts_of b
parts-same a b h = let e = components_equal (components a) (components b) h in rw (e.0, e.1) refl

cons_equal : {X : Type 0} {x y : X} {xs ys : List X} → x ∷ xs ≡ y ∷ ys → (x ≡ y) × (xs ≡ ys)
cons_equal e = (cc, cc)

pub same_path-parts : (a b : List ℕ) → parts_of a ≡ parts_of b → same_path a b ≡ true
same_path-parts a b e = let both = cons_equal e in
    rw ((bytes_decides (start a) (start b)).1 both.0, (pointwise_decides bytes_decides (components a).names (components b).names).1 both.1) refl
