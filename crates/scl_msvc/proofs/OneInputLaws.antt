-- The command of a record of Msvc has one input.
use Rattle.std.proofs.Common.{◌≡◌, ℕ, Bool, true, false, cond, ◌⊎◌, inl, inr, List, [], ◌∷◌, ◌++◌, map, filter, None, Some, Ok, refl, sym, ap, subst, ◌∙◌}
use Rattle.std.specs.List.{flat_map}
use Rattle.std.specs.Option.{option_and_then}
use Rattle.scl_values.specs.Cuts.{Cut, raw, unknown, flag, with_value, cut}
use Rattle.scl_values.specs.Each.{Each}
use Rattle.scl_args.specs.Options.{texts}
use Rattle.scl_values.specs.Seen.{Seen, Raw, Unknown, Known, Plain, plain, plain_seen, shown, text_of}
use Rattle.scl_values.specs.Seen as plain
use Rattle.scl_values.specs.Tables.{owner_in}
use Rattle.scl_args.specs.Promises.{said_by}
use Rattle.scl_args.proofs.FilterLaws.{any-none, has-last}
use Rattle.scl_args.proofs.NoneLaws.{HasNone, own-alone}
use Rattle.scl_text.specs.declared.language.Language.{Language}
use Rattle.scl_text.specs.declared.language.Language.TheVariants as languages
use Rattle.scl_text.specs.Commands.{object_of}
use Rattle.scl_text.specs.Records.{Parsed}
use Rattle.scl_files.specs.Views.{Viewed}
use Rattle.scl_msvc_reading.specs.declared.msvc.data.Kind.{Kind}
use Rattle.scl_msvc_reading.specs.declared.msvc.data.Kind.TheVariants as kind
use Rattle.scl_msvc_reading.specs.declared.msvc.place.Place.{Place}
use Rattle.scl_msvc_reading.specs.declared.msvc.place.Place.TheVariants as places
use Rattle.scl_msvc_reading.specs.Again.{is_list}
use Rattle.scl_msvc.specs.Building.{command_words}
use Rattle.scl_msvc_reading.specs.FixedTests.{Found}
use Rattle.scl_msvc_reading.specs.Inners.{BothInner}
use Rattle.scl_msvc_reading.specs.Kinds.{any, is_input, language_said, language_inputs}
use Rattle.scl_msvc_reading.specs.Places.{place, goes_to}
use Rattle.scl_msvc.specs.Promises.{msvc_line}
use Rattle.scl_msvc.specs.ReadAgain.{list_of, parts, mark_option, input_option, HasOneInput, outer_options_of, inner_options_of}
use Rattle.scl_msvc_reading.specs.Readings.{reading}
use Rattle.scl_msvc_reading.specs.Recordings.{record_of}
use Rattle.scl_msvc_reading.specs.Rows.{msvc_tables}
use Rattle.scl_msvc.proofs.KeptLaws.{same-list}
use Rattle.scl_msvc.proofs.ReadAgainLaws.{command-read}
use Rattle.scl_msvc.proofs.ReadingLaws.{names_language, each-tt, HasFound, is-read}

-- the input that an option is, if it is one
abbrev named_input : Plain Kind → List (List ℕ)
named_input (plain.raw w) = cond (is_input (Raw w)) (w ∷ []) []
named_input (plain.unknown w) = []
named_input (plain.flag f k) = cond (is_input (Known f k [] None)) ([] ∷ []) []
named_input (plain.value f k v) = cond (is_input (Known f k v None)) (v ∷ []) []

one-more : (b : Bool) (o : Seen Kind) (os : List (Seen Kind)) (xs : List (List ℕ)) → map text_of os ≡ xs → map text_of (cond b (o ∷ os) os) ≡ cond b (text_of o ∷ []) [] ++ xs
one-more true o os xs e = ap (λ ys. text_of o ∷ ys) e
one-more false o os xs e = e

texts-named : (cs : List (Cut Kind)) → texts is_input (map shown cs) ≡ flat_map named_input (map plain cs)
texts-named [] = refl
texts-named (raw w ∷ cs) = one-more (is_input (Raw w)) (Raw w) (filter is_input (map shown cs)) _ (texts-named cs)
texts-named (unknown w ∷ cs) = texts-named cs
texts-named (flag row ∷ cs) = one-more (is_input (shown (flag row))) (shown (flag row)) (filter is_input (map shown cs)) _ (texts-named cs)
texts-named (with_value row v h ∷ cs) = one-more (is_input (shown (with_value row v h))) (shown (with_value row v h)) (filter is_input (map shown cs)) _ (texts-named cs)

-- ---- no list has an input

not-listed : (f : List ℕ) (k : Kind) (v : List ℕ) → is_list (place k) ≡ true → is_input (Known f k v None) ≡ false
not-listed f kind.CInput v e = absurd (cc)
not-listed f kind.CxxInput v e = absurd (cc)
not-listed f _ v e = refl

module _ (there : Place) (lists : is_list there ≡ true) where
  no-input : (o : Seen Kind) → goes_to there o ≡ true → named_input (plain_seen o) ≡ []
  no-input (Raw w) e = absurd (let no : false ≡ true = same-list places.Nowhere there lists e in cc)
  no-input (Unknown w) e = refl
  no-input (Known f k v None) e = rw (not-listed f k [] (same-list (place k) there lists e)) refl
  no-input (Known f k v (Some h)) e = rw (not-listed f k v (same-list (place k) there lists e)) refl

  list-none : HasNone named_input (list_of there)
  list-none = record { carries_none = no-input; adds_none = refl }

-- ---- the only one of its own

said-one : (o : Seen Kind) (l : Language) → language_said o ≡ Some l → (l ≡ languages.C) ⊎ (l ≡ languages.Cxx)
said-one (Raw w) l e = absurd (cc)
said-one (Unknown w) l e = absurd (cc)
said-one (Known f kind.CInput v h) l e = inl (cc)
said-one (Known f kind.CxxInput v h) l e = inr (cc)
said-one (Known f _ v h) l e = absurd (cc)

raw-one : (o : Seen Kind) (x : List ℕ) → names_language o ≡ false → is_input o ≡ true → text_of o ≡ x → is_input (Raw x) ≡ true
raw-one (Raw w) x n e t = subst (λ y. is_input (Raw y) ≡ true) t e
raw-one (Unknown w) x n e t = absurd (cc)
raw-one (Known f k v h) x n e t = absurd (let no : false ≡ true = sym n ∙ e in cc)

raw-input : (os : List (Seen Kind)) (x : List ℕ) → Each (λ o. names_language o ≡ false) os → texts is_input os ≡ x ∷ [] → is_input (Raw x) ≡ true
raw-input [] x n t = absurd (cc)
raw-input (o ∷ os) x n t = elim (is_input o) as (λ b. is_input o ≡ b → map text_of (cond b (o ∷ filter is_input os) (filter is_input os)) ≡ x ∷ [] → is_input (Raw x) ≡ true) [
  | true ↦ λ e k. raw-one o x n.0 e (cc)
  | false ↦ λ e k. raw-input os x n.1 k
] refl t

module _ (os : List (Seen Kind)) (f : Found) (has : HasFound os f) where
  abbrev says : Bool
  says = any language_inputs os

  of-language : (l : Language) (x : List ℕ) → (l ≡ languages.C) ⊎ (l ≡ languages.Cxx) → named_input (input_option true l x) ≡ x ∷ []
  of-language l x (inl e) = rw e refl
  of-language l x (inr e) = rw e refl

  own-input : named_input (input_option says f.language f.input) ≡ f.input ∷ []
  own-input = elim says as (λ b. says ≡ b → named_input (input_option b f.language f.input) ≡ f.input ∷ []) [
    | true ↦ λ e.
        let o = has-last (λ o. Unit {0}) names_language os (each-tt os) e in
        of-language f.language f.input (said-one o.option f.language (sym (ap (λ y. option_and_then language_said y) o.is) ∙ has.language_is e))
    | false ↦ λ e. rw (raw-input os f.input (any-none names_language os e) has.input_is) refl
  ] refl

  marked-input : (marked : Bool) → flat_map named_input (mark_option marked ++ input_option says f.language f.input ∷ []) ≡ f.input ∷ []
  marked-input true = ap (λ xs. xs ++ []) own-input
  marked-input false = ap (λ xs. xs ++ []) own-input

pub one-input : (is_clang : Bool) (directory : List ℕ) (view : Viewed) (words : List (List ℕ)) (p : Parsed) (object : List ℕ) → reading is_clang directory view words ≡ Ok p → object_of p ≡ Some object
    → HasOneInput is_clang p (command_words p object)
one-input is_clang directory view words p object e has_object =
    let again = command-read is_clang directory view words p object e has_object in
    let os = map shown (outer_options_of is_clang directory view words) in
    let inside : BothInner = record { xclang = map shown (inner_options_of kind.XClang directory view os); clang = map shown (inner_options_of kind.Clang directory view os) } in
    let made = parts p object in
    let r = is-read is_clang directory view words p e in
    texts-named (cut (owner_in msvc_tables) is_clang (command_words p object)).options
    ∙ (ap (λ s. flat_map named_input s.options) again.outer
    ∙ (own-alone named_input (said_by (msvc_line is_clang directory view words)) made.front made.back made.lists ((λ w. refl), ((λ w. refl), tt))
    (list-none places.Preprocessor refl, (list-none places.Dependency refl, (list-none places.Unhashed refl, (list-none places.Common refl, tt))))
    ∙ subst (λ q. flat_map named_input (mark_option q.double_dash_input ++ input_option q.msvc_explicit_language q.language q.input ∷ []) ≡ q.input ∷ []) r.is
    (marked-input os r.tested r.has (record_of directory view os inside r.tested).double_dash_input)))
