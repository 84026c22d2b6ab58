-- The laws of keys as they are delivered.
use Rattle.std.proofs.Common.{◌≡◌, ℕ, ◌^◌, ◌<◌, ◌==◌, Bool, true, false, ◌&&◌, not, List, [], ◌∷◌, ◌++◌, length, map, filter, Option, Some, None, is_some, refl, sym, ap, subst, ◌∙◌, if◌then◌else◌}
use Rattle.std.proofs.lemmas.Bool.{and_parts, false≢true}
use Rattle.std.proofs.lemmas.Grind.{flat_map-append}
use Rattle.std.proofs.lemmas.Slice.Eq.{bytes_eq-Decides, slice_eq-Decides}
use Rattle.std.specs.Cmp.Lexicographic.{pointwise}
use Rattle.std.specs.List.{flat_map, list_all}
use Rattle.std.specs.Str.{bytes_eq}
use Rattle.scl_values.specs.Each.{Each}
use Rattle.scl_catalogue.specs.Lookup.{Lexicon}
use Rattle.scl_text.specs.Records.{Parsed}
use Rattle.scl_base_dirs.specs.Unmapped.{unmapped}
use Rattle.scl_reader.specs.declared.compiler.Compiler.{Compiler}
use Rattle.scl_key.specs.Keys.{Key}
use Rattle.scl_key.specs.Parts.{Part, is, output, directory, compiler, plan, asked, run, run_else, pch, sources, times}
use Rattle.scl_shared_key.specs.declared.said.InObject.{InObject}
use Rattle.scl_shared_key.specs.declared.said.InObject.TheVariants.{Yes}
use Rattle.scl_shared_key.specs.Fields.{told_row}
use Rattle.scl_shared_key.specs.Objects.{is_macro}
use Rattle.scl_shared_key.specs.Verdicts.{Verdict, verdict}
use Rattle.scl_delivered.specs.Delivered.{Delivered, leaves_macros_out, names_none, object_by, texts_show_macros, told_by, told_part, with_macros}
use Rattle.scl_delivered.specs.Laws.{AreOneButForPlaces, DeliveredKeysDecide, HasTheRowsOf, KeptMacrosStand, MacrosStandInRuns, NamedKeysStand, untold_part}
use Rattle.scl_delivered.specs.Macros.{are_defined, defines, left_of, macro_told, macros_in, reads_macros, run_in, runs_in, without_macros}
use Rattle.scl_delivered.proofs.ToldLaws.{row_back, told_parts_are_read_back}

-- ---- named keys stand

told_if_named : (in_object : InObject) → in_object ≡ Yes → names_none in_object ≡ false
told_if_named in_object h = ap names_none h

-- a delivered key, by whether it is told
abbrev pub by : Bool → List (List ℕ) → Verdict → Delivered → Delivered
by told dirs said d =
    if told
    then record { verdict = Some said; parts = map (told_part dirs) d.parts; direct = []; shown = told_row dirs d.shown }
    else record d { verdict = Some said }

stands_by : (told : Bool) (dirs : List (List ℕ)) (said : Verdict) (d : Delivered) → told ≡ false → HasTheRowsOf (by told dirs said d) d
stands_by true dirs said d h = absurd (false≢true (sym h))
stands_by false dirs said d h = record { parts_are = refl; direct_is = refl; shown_are = refl }

stands_if : (none told : Bool) (dirs : List (List ℕ)) (said : Verdict) (d : Delivered) → told ≡ false → HasTheRowsOf (if none then d else by told dirs said d) d
stands_if true told dirs said d h = record { parts_are = refl; direct_is = refl; shown_are = refl }
stands_if false told dirs said d h = stands_by told dirs said d h

pub named_keys_stand : NamedKeysStand
named_keys_stand = λ lexicon c p dirs keeps key h.
    let said = verdict dirs (object_by lexicon c p key) in
    stands_if (length dirs == 0) (names_none said.in_object) dirs said (with_macros (not keeps && leaves_macros_out lexicon c p key) key) (told_if_named said.in_object h)

-- ---- kept macros stand

shown_by : (told : Bool) (dirs : List (List ℕ)) (said : Verdict) (d : Delivered) → d.shown ≡ [] → (by told dirs said d).shown ≡ []
shown_by true dirs said d h = ap (told_row dirs) h
shown_by false dirs said d h = h

shown_if : (none told : Bool) (dirs : List (List ℕ)) (said : Verdict) (d : Delivered) → d.shown ≡ [] → (if none then d else by told dirs said d).shown ≡ []
shown_if true told dirs said d h = h
shown_if false told dirs said d h = shown_by told dirs said d h

pub kept_macros_stand : KeptMacrosStand
kept_macros_stand = λ lexicon c p dirs key.
    let said = verdict dirs (object_by lexicon c p key) in
    (shown_if (length dirs == 0) (names_none said.in_object) dirs said (with_macros false key) refl, refl)

-- ---- macros stand in runs

defines_is : (macros words : List (List ℕ)) → defines macros words ≡ true → filter is_macro words ≡ macros
defines_is macros words h =
    let same = pointwise bytes_eq (filter is_macro words) macros in
    (slice_eq-Decides bytes_eq-Decides (filter is_macro words) macros same refl).0 (and_parts same (not (reads_macros words)) h).0

each_defines : (macros : List (List ℕ)) (runs : List (List (List ℕ))) → list_all (defines macros) runs ≡ true → Each (λ words. filter is_macro words ≡ macros) runs
each_defines macros [] h = tt
each_defines macros (words ∷ runs) h =
    let both = and_parts (defines macros words) (list_all (defines macros) runs) h in
    (defines_is macros words both.0, each_defines macros runs both.1)

run_or_fact : (b : Bool) (row : List (List ℕ)) → flat_map run_in (if b then [] else is row ∷ []) ≡ []
run_or_fact true row = refl
run_or_fact false row = refl

run_left : (part : Part) → flat_map run_in (left_of part) ≡ run_in part
run_left (is row) = run_or_fact (is_some (macro_told row)) row
run_left (output made) = refl
run_left directory = refl
run_left compiler = refl
run_left (plan words) = refl
run_left (asked ask name) = refl
run_left (run words) = refl
run_left (run_else words) = refl
run_left (pch searched) = refl
run_left sources = refl
run_left times = refl

-- the same runs are left
runs_left : (parts : List Part) → runs_in (without_macros parts) ≡ runs_in parts
runs_left [] = refl
runs_left (part ∷ parts) =
    flat_map-append run_in (left_of part) (without_macros parts)
    ∙ ap (λ (runs : List (List (List ℕ))). runs ++ runs_in (without_macros parts)) (run_left part)
    ∙ ap (λ (runs : List (List (List ℕ))). run_in part ++ runs) (runs_left parts)

-- the macros that stand at the end are defined in each run, if there are any
defined_if : (last : Bool) (key : Key) → (last ≡ true → are_defined (macros_in key.parts) (runs_in key.parts) ≡ true)
    → ((with_macros last key).shown ≡ [] → ⊥) → Each (λ words. filter is_macro words ≡ (with_macros last key).shown) (runs_in (with_macros last key).parts)
defined_if true key h some =
    let macros = macros_in key.parts in
    let runs = runs_in key.parts in
    let has = and_parts (not (length macros == 0)) (not (length runs == 0) && list_all (defines macros) runs) (h refl) in
    subst (Each (λ (words : List (List ℕ)). filter is_macro words ≡ macros)) (sym (runs_left key.parts))
    (each_defines macros runs (and_parts (not (length runs == 0)) (list_all (defines macros) runs) has.1).1)
defined_if false key h some = absurd (some refl)

pub leaving : (lexicon : Lexicon) (c : Compiler) (p : Parsed) (key : Key) (keeps : Bool) → (not keeps && leaves_macros_out lexicon c p key) ≡ true → are_defined (macros_in key.parts) (runs_in key.parts) ≡ true
leaving lexicon c p key keeps h =
    let defined = are_defined (macros_in key.parts) (runs_in key.parts) in
    let show = texts_show_macros c p key.parts (object_by lexicon c p key) in
    (and_parts show defined (and_parts (not keeps) (show && defined) h).1).1

pub macros_stand_in_runs : MacrosStandInRuns
macros_stand_in_runs = λ lexicon c p keeps key. defined_if (not keeps && leaves_macros_out lexicon c p key) key (leaving lexicon c p key keeps)

-- ---- delivered keys decide

-- they have the same parts and macros at the end
abbrev AreAlike : Delivered → Delivered → Type 0
AreAlike d e = (d.parts ≡ e.parts) × (d.shown ≡ e.shown)

alike_by : (told : Bool) (dirs : List (List ℕ)) (said other : Verdict) (d e : Delivered) → length dirs < 2 ^ 64
    → by told dirs said d ≡ by told dirs other e → AreAlike d e
alike_by true dirs said other d e few same = (
  sym (told_parts_are_read_back dirs d.parts few)
      ∙ ap (λ (x : Delivered). map (untold_part dirs) x.parts) same
      ∙ told_parts_are_read_back dirs e.parts few,
  sym (row_back dirs d.shown few)
      ∙ ap (λ (x : Delivered). map (unmapped dirs) x.shown) same
      ∙ row_back dirs e.shown few,
)
alike_by false dirs said other d e few same = (ap (λ (x : Delivered). x.parts) same, ap (λ (x : Delivered). x.shown) same)

said_by : (told : Bool) (dirs : List (List ℕ)) (said : Verdict) (d : Delivered) → (by told dirs said d).verdict ≡ Some said
said_by true dirs said d = refl
said_by false dirs said d = refl

abbrev said_or : Verdict → Option Verdict → Verdict
said_or other None = other
said_or other (Some said) = said

one_said : (told tells : Bool) (dirs : List (List ℕ)) (said other : Verdict) (d e : Delivered) → by told dirs said d ≡ by tells dirs other e → said ≡ other
one_said told tells dirs said other d e same =
    ap (said_or said) (sym (said_by told dirs said d) ∙ ap (λ (x : Delivered). x.verdict) same ∙ said_by tells dirs other e)

alike_if : (none : Bool) (dirs : List (List ℕ)) (said other : Verdict) (d e : Delivered) → length dirs < 2 ^ 64
    → (if none then d else told_by dirs said d) ≡ (if none then e else told_by dirs other e) → AreAlike d e
alike_if true dirs said other d e few same = (ap (λ (x : Delivered). x.parts) same, ap (λ (x : Delivered). x.shown) same)
alike_if false dirs said other d e few same =
    let told = names_none said.in_object in
    let one = one_said told (names_none other.in_object) dirs said other d e same in
    alike_by told dirs said other d e few (subst (λ (s : Verdict). by told dirs said d ≡ by (names_none s.in_object) dirs other e) (sym one) same)

not_none : (macros : List (List ℕ)) → not (length macros == 0) ≡ true → macros ≡ [] → ⊥
not_none macros some none = false≢true (ap (λ (ms : List (List ℕ)). not (length ms == 0)) (sym none) ∙ some)

-- where macros stand at the end, there are some
last_some : (last : Bool) (key : Key) → (last ≡ true → are_defined (macros_in key.parts) (runs_in key.parts) ≡ true) → last ≡ true → macros_in key.parts ≡ [] → ⊥
last_some last key h k =
    let macros = macros_in key.parts in
    let runs = runs_in key.parts in
    not_none macros (and_parts (not (length macros == 0)) (not (length runs == 0) && list_all (defines macros) runs) (h k)).0

decided : (last ends : Bool) (one other : Key)
    → (last ≡ true → macros_in one.parts ≡ [] → ⊥) → (ends ≡ true → macros_in other.parts ≡ [] → ⊥)
    → AreAlike (with_macros last one) (with_macros ends other) → AreOneButForPlaces one other
decided true true one other some more alike = record { parts_are = alike.0; macros_are = alike.1 }
decided true false one other some more alike = absurd (some refl alike.1)
decided false true one other some more alike = absurd (more refl (sym alike.1))
decided false false one other some more alike = record { parts_are = ap without_macros alike.0; macros_are = ap macros_in alike.0 }

pub delivered_keys_decide : DeliveredKeysDecide
delivered_keys_decide = λ lexicon other_lexicon c d p q dirs keeps also_keeps one other few same.
    let last = not keeps && leaves_macros_out lexicon c p one in
    let ends = not also_keeps && leaves_macros_out other_lexicon d q other in
    decided last ends one other
    (last_some last one (leaving lexicon c p one keeps)) (last_some ends other (leaving other_lexicon d q other also_keeps))
    (alike_if (length dirs == 0) dirs (verdict dirs (object_by lexicon c p one)) (verdict dirs (object_by other_lexicon d q other)) (with_macros last one) (with_macros ends other) few same)
