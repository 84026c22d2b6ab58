-- What makes the verdicts of two checkouts equal.
use Rattle.std.proofs.Common.{◌≡◌, ◌≢◌, ℕ, nat_eq, ◌==◌, ◌&&◌, ◌||◌, not, Bool, true, false, cond, List, [], ◌∷◌, ◌++◌, length, map, Some, None, refl, sym, ap, subst, ◌∙◌, arith}
use Rattle.std.proofs.lemmas.Bool.{ne_eqb}
use Rattle.std.proofs.lemmas.Bool.Decides.{Decides-eqb}
use Rattle.std.proofs.lemmas.List.{drop_at}
use Rattle.std.proofs.lemmas.Slice.Eq.{starts_is}
use Rattle.std.specs.List.{list_all, list_any, starts_with}
use Rattle.std.specs.Option.{option_map, unwrap_or}
use Rattle.scl_base_dirs.specs.declared.spelling.Spelling.TheVariants as spelled
use Rattle.scl_base_dirs.specs.Bases.{placed, base_of, ends_component, fits}
use Rattle.scl_base_dirs.specs.Cuts.{has_none}
use Rattle.scl_catalogue.specs.Lookup.{Lexicon, naming_of}
use Rattle.scl_catalogue.specs.declared.entry.Naming.{Naming}
use Rattle.scl_shared_key.specs.declared.said.InObject.{InObject}
use Rattle.scl_shared_key.specs.declared.said.InObject.TheVariants.{No, Yes, Mapped}
use Rattle.scl_shared_key.specs.Fields.{flags, value_at}
use Rattle.scl_shared_key.specs.Maps.{debug_info_is_free, macros_are_free, maps_among}
use Rattle.scl_shared_key.specs.Namings.{is_anything, is_debug_info}
use Rattle.scl_shared_key.specs.Objects.{Object, has_debug_info, maps_reach, may_name_anything}
use Rattle.scl_shared_key.specs.Usuals.{are_usual}
use Rattle.scl_shared_key.specs.Verdicts.{Verdict, named_in, names_planned, names_shown}
use Rattle.scl_shared_key.proofs.FrontLaws.{find_alike, fronts_tell_namings, starts_alike}
use Rattle.scl_requests.specs.SharedLaws.{Path, below, beside, path_at, place_at, IsPathOf, OneBaseSuffices, FrontsTell, AreMadeAlike, ObjectsMadeAlikeSayTheSame}

-- ---- one base

not_empty : (dir : List ℕ) → dir ≢ [] → (length dir == 0) ≡ false
not_empty [] h = absurd (h refl)
not_empty (x ∷ dir) h = ne_eqb (length (x ∷ dir)) 0 (λ e. omega arith)

fits_below : (dir rest : List ℕ) → dir ≢ [] → ends_component spelled.Word rest ≡ true → fits spelled.Word dir (dir ++ rest) ≡ true
fits_below dir rest some ends =
    let begins : starts_with nat_eq (dir ++ rest) dir ≡ true = (starts_is Decides-eqb (dir ++ rest) dir (starts_with nat_eq (dir ++ rest) dir) refl).1 rest refl in
    rw (not_empty dir some, begins, drop_at dir rest (length dir) refl) ends

base_yes : (dir path : List ℕ) → fits spelled.Word dir path ≡ true → base_of spelled.Word (dir ∷ []) path ≡ Some (placed 0 dir)
base_yes dir path h = rw h refl

base_no : (dir path : List ℕ) → fits spelled.Word dir path ≡ false → base_of spelled.Word (dir ∷ []) path ≡ None
base_no dir path h = rw h refl

first_base : (dir : List ℕ) (number : ℕ) (rest : List ℕ) → dir ≢ [] → ends_component spelled.Word rest ≡ true → 0 ≡ number
    → base_of spelled.Word (dir ∷ []) (path_at (dir ∷ []) (below number rest)) ≡ place_at (dir ∷ []) (below number rest)
first_base dir number rest some ends zero =
    let P : ℕ → Type 0 = λ n. base_of spelled.Word (dir ∷ []) (path_at (dir ∷ []) (below n rest)) ≡ place_at (dir ∷ []) (below n rest) in
    subst P zero (base_yes dir (dir ++ rest) (fits_below dir rest some ends))

one_base : (dir : List ℕ) (path : Path) → dir ≢ [] → IsPathOf dir path → base_of spelled.Word (dir ∷ []) (path_at (dir ∷ []) path) ≡ place_at (dir ∷ []) path
one_base dir (below number rest) some h = first_base dir number rest some h.1 (sym h.0)
one_base dir (beside path) some h = base_no dir path h

pub one_base_suffices : OneBaseSuffices
one_base_suffices = one_base

-- ---- fronts

flags_plain : list_all (has_none 0x2f) flags ≡ true
unfolding flags
flags_plain = refl

value_alike : (front one other : List ℕ) → value_at (front ++ 0x2f ∷ one) ≡ value_at (front ++ 0x2f ∷ other)
value_alike front one other =
    ap (λ o. unwrap_or (option_map length o) 0)
    (find_alike (has_none 0x2f) (starts_with nat_eq (front ++ 0x2f ∷ one)) (starts_with nat_eq (front ++ 0x2f ∷ other)) (starts_alike front one other) flags flags_plain)

pub fronts_tell : FrontsTell
fronts_tell = λ front one other. (value_alike front one other, λ l. fronts_tell_namings l front one other)

-- ---- objects

any_naming : (test : Naming → Bool) (l : Lexicon) (words : List (List ℕ)) → list_any (λ word. test (naming_of l word)) words ≡ list_any test (map (naming_of l) words)
any_naming test l [] = refl
any_naming test l (word ∷ words) = ap (λ (b : Bool). test (naming_of l word) || b) (any_naming test l words)

any_alike : (test : Naming → Bool) (o o' : Object) → map (naming_of o.lexicon) o.words ≡ map (naming_of o'.lexicon) o'.words
    → list_any (λ word. test (naming_of o.lexicon word)) o.words ≡ list_any (λ word. test (naming_of o'.lexicon word)) o'.words
any_alike test o o' e = any_naming test o.lexicon o.words ∙ ap (list_any test) e ∙ sym (any_naming test o'.lexicon o'.words)

either_alike : (a b c d : Bool) → a ≡ c → b ≡ d → (a || b) ≡ (c || d)
either_alike a b c d h k = ap (λ (x : Bool). x || b) h ∙ ap (λ (x : Bool). c || x) k

both_alike : (a b c d : Bool) → a ≡ c → b ≡ d → (a && b) ≡ (c && d)
both_alike a b c d h k = ap (λ (x : Bool). x && b) h ∙ ap (λ (x : Bool). c && x) k

-- what is named by what is looked at
abbrev named_from : (known debug free : Bool) → InObject
named_from known debug free = cond known (cond debug (cond free Mapped Yes) No) Yes

abbrev said_from : InObject → (gcc free : Bool) → Verdict
said_from named gcc free = record { in_object = named; shown = names_shown gcc free; planned = names_planned named }

named_alike : (dirs others : List (List ℕ)) (o o' : Object) → AreMadeAlike dirs others o o' → named_in dirs o ≡ named_in others o'
named_alike dirs others o o' h =
    let anything = either_alike (not o.is_alone) _ (not o'.is_alone) _ (ap not h.alone) (any_alike is_anything o o' h.namings) in
    let known = both_alike (are_usual dirs) _ (are_usual others) _ h.usual (both_alike o.is_of_shown_text _ o'.is_of_shown_text _ h.of_shown_text (ap not anything)) in
    let known' = are_usual others && (o'.is_of_shown_text && not (may_name_anything o')) in
    let free = both_alike (maps_reach o) _ (maps_reach o') _ (either_alike o.is_by_gcc _ o'.is_by_gcc _ h.by_gcc h.of_c) h.debug_info in
    let left = maps_reach o && debug_info_is_free dirs (maps_among o.lexicon o.words) in
    ap (λ (b : Bool). named_from b (has_debug_info o) left) known
    ∙ ap (λ (b : Bool). named_from known' b left) (any_alike is_debug_info o o' h.namings)
    ∙ ap (named_from known' (has_debug_info o')) free

pub objects_made_alike_say_the_same : ObjectsMadeAlikeSayTheSame
objects_made_alike_say_the_same = λ dirs others o o' h none. record {
  verdicts =
      ap (λ (named : InObject). said_from named o.is_by_gcc (macros_are_free dirs (maps_among o.lexicon o.words))) (named_alike dirs others o o' h)
      ∙ ap (λ (gcc : Bool). said_from (named_in others o') gcc (macros_are_free dirs (maps_among o.lexicon o.words))) h.by_gcc
      ∙ ap (said_from (named_in others o') o'.is_by_gcc) h.macros;
  name_none = none;
}

pub ruleset verdict_laws = (one_base_suffices, fronts_tell, objects_made_alike_say_the_same)
