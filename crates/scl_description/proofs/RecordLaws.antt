-- A record is read back from its rows.
use Rattle.std.proofs.Common.{◌≡◌, ℕ, Bool, true, false, cond, List, [], ◌∷◌, ◌++◌, map, codes, Option, Some, None, refl, ap, sym, ◌∙◌, append-nil, arith}
use Rattle.std.specs.List.{flat_map, list_any}
use Rattle.std.specs.Str.{bytes_eq}
use Rattle.std.specs.Option.{option_to_list}
use Rattle.std.proofs.lemmas.Grind.{flat_map-append}
use Rattle.std.proofs.lemmas.Slice.Eq.{bytes_eq-Decides}
use Rattle.scl_values.specs.Each.{Each}
use Rattle.scl_text.specs.declared.language.Language.{Language}
use Rattle.scl_text.specs.declared.records.ColorMode.{ColorMode}
use Rattle.scl_text.specs.Records.{Artifact, artifact, Parsed}
use Rattle.scl_description.specs.Laws.{IsBeside, DescriptionReadsBack, DescriptionReadsBackAmong}
use Rattle.scl_description.specs.Rows.{Entry, yes_rests, entry_rows, rows_of, behind, rests_at, lone, row_text, rows_text, entry_text, entries_text}
use Rattle.scl_description.specs.Lines.{line}
use Rattle.scl_description.specs.Records.{record_entries, record_names, output_rest, words_back, maybe_back, yes_back, output_back, language_text, language_back, color_text, color_back, record_by, record_in}
use Rattle.scl_description.proofs.RowLaws.{rows-back}

-- what follows the name in the entries
abbrev pub found : List Entry → List ℕ → List (List (List ℕ))
found entries name = flat_map (λ e. cond (bytes_eq e.name name) e.rests []) entries

one-entry : (name other : List ℕ) (rests : List (List (List ℕ))) → flat_map (behind name) (map (λ rest. other ∷ rest) rests) ≡ cond (bytes_eq other name) rests []
one-entry name other rests = either (bytes_eq other name) refl where
  given : (rests : List (List (List ℕ))) → bytes_eq other name ≡ true → flat_map (behind name) (map (λ rest. other ∷ rest) rests) ≡ rests
  given [] e = refl
  given (rest ∷ rests) e = rw (e, given rests e) refl

  lacking : (rests : List (List (List ℕ))) → bytes_eq other name ≡ false → flat_map (behind name) (map (λ rest. other ∷ rest) rests) ≡ []
  lacking [] e = refl
  lacking (rest ∷ rests) e = rw (e, lacking rests e) refl

  either : (b : Bool) → bytes_eq other name ≡ b → flat_map (behind name) (map (λ rest. other ∷ rest) rests) ≡ cond b rests []
  either true e = given rests e
  either false e = lacking rests e

pub rests-found : (entries : List Entry) (name : List ℕ) → rests_at (rows_of entries) name ≡ found entries name
rests-found [] name = refl
rests-found (e ∷ es) name =
    flat_map-append (behind name) (entry_rows e) (rows_of es)
    ∙ ap (λ rs. rs ++ rests_at (rows_of es) name) (one-entry name e.name e.rests)
    ∙ ap (λ rs. cond (bytes_eq e.name name) e.rests [] ++ rs) (rests-found es name)

-- ---- an entry gives the field back

words-given : (words : List (List ℕ)) → words_back (map lone words ++ []) ≡ words
words-given [] = refl
words-given (word ∷ words) = ap (λ ws. word ∷ ws) (words-given words)

maybe-given : (o : Option (List ℕ)) → maybe_back (map lone (option_to_list o) ++ []) ≡ o
maybe-given None = refl
maybe-given (Some word) = refl

yes-given : (holds : Bool) → yes_back (yes_rests holds ++ []) ≡ holds
yes-given true = refl
yes-given false = refl

pub output-given : (a : Artifact) → output_back (output_rest a) ≡ a
output-given a = elim (a.optional) as (λ o. output_back (output_rest (artifact a.name a.path o)) ≡ artifact a.name a.path o) [ true ↦ refl | false ↦ refl ]

outputs-given : (outputs : List Artifact) → map output_back (map output_rest outputs ++ []) ≡ outputs
outputs-given [] = refl
outputs-given (a ∷ as_) = rw (output-given a, outputs-given as_) refl

language-given : (l : Language) → language_back ((language_text l ∷ []) ∷ []) ≡ l
language-given l = grind arith

color-given : (c : ColorMode) → color_back ((color_text c ∷ []) ∷ []) ≡ c
color-given c = grind arith

pub record-found : (p : Parsed) → record_by (found (record_entries p)) ≡ p
record-found p =
    rw (
      yes-given p.double_dash_input,
      language-given p.language,
      maybe-given p.depfile,
      outputs-given p.outputs,
      words-given p.dependency_args,
      words-given p.preprocessor_args,
      words-given p.common_args,
      words-given p.arch_args,
      words-given p.unhashed_args,
      words-given p.extra_dist_files,
      words-given p.extra_hash_files,
      yes-given p.uses_external_assembler,
      yes-given p.msvc_show_includes,
      yes-given p.msvc_explicit_language,
      yes-given p.profile_generate,
      color-given p.color_mode,
      yes-given p.suppress_rewrite_includes_only,
      maybe-given p.too_hard_for_preprocessor_cache_mode,
    ) refl

-- the lines of entries are those of their rows
pub entries-rows : (es : List Entry) → entries_text es ≡ rows_text (rows_of es)
unfolding entry_text
entries-rows [] = refl
entries-rows (e ∷ es) = ap (λ t. entry_text e ++ t) (entries-rows es) ∙ sym (flat_map-append (λ row. line (row_text row)) (entry_rows e) (rows_of es))

pub description-back : DescriptionReadsBack
description-back p are =
    ap record_in (entries-rows (record_entries p))
    ∙ ap (λ rows. record_by (rests_at rows)) (rows-back (rows_of (record_entries p)) are)
    ∙ ap record_by (λ i name. rests-found (record_entries p) name i)
    ∙ record-found p

-- ---- among rows of other names

abbrev is_named : List ℕ → Bool
is_named name = list_any (bytes_eq name) record_names

-- rows with other names say nothing of a field
lacking : (es : List Entry) (name : List ℕ) → is_named name ≡ true → Each IsBeside es → found es name ≡ []
lacking [] name is beside = refl
lacking (e ∷ es) name is beside = either (bytes_eq e.name name) refl (lacking es name is beside.1) where
  either : (b : Bool) → bytes_eq e.name name ≡ b → found es name ≡ [] → found (e ∷ es) name ≡ []
  either false h others = ap (λ b. cond b e.rests [] ++ found es name) h ∙ others
  either true h others = absurd (let no : true ≡ false = sym is ∙ ap is_named (sym ((bytes_eq-Decides e.name name).0 h)) ∙ beside.0 in cc)

among : (before after : List Entry) (p : Parsed) (name : List ℕ) → is_named name ≡ true → Each IsBeside before → Each IsBeside after
    → found (before ++ record_entries p ++ after) name ≡ found (record_entries p) name
among before after p name is first last =
    let at : Entry → List (List (List ℕ)) = λ e. cond (bytes_eq e.name name) e.rests [] in
    flat_map-append at (before ++ record_entries p) after
    ∙ ap (λ rs. found (before ++ record_entries p) name ++ rs) (lacking after name is last)
    ∙ append-nil (found (before ++ record_entries p) name)
    ∙ flat_map-append at before (record_entries p)
    ∙ ap (λ rs. rs ++ found (record_entries p) name) (lacking before name is first)

same_record : (f g : List ℕ → List (List (List ℕ))) → ((name : List ℕ) → is_named name ≡ true → f name ≡ g name) → record_by f ≡ record_by g
same_record f g same =
    rw (
      same (codes "input") refl,
      same (codes "double-dash-input") refl,
      same (codes "language") refl,
      same (codes "compilation-flag") refl,
      same (codes "depfile") refl,
      same (codes "output") refl,
      same (codes "dependency") refl,
      same (codes "preprocessor") refl,
      same (codes "common") refl,
      same (codes "arch") refl,
      same (codes "unhashed") refl,
      same (codes "dist") refl,
      same (codes "hash") refl,
      same (codes "external-assembler") refl,
      same (codes "show-includes") refl,
      same (codes "explicit-language") refl,
      same (codes "profile-generate") refl,
      same (codes "color") refl,
      same (codes "no-rewrite-includes-only") refl,
      same (codes "too-hard") refl,
    ) refl

pub description-back-among : DescriptionReadsBackAmong
description-back-among before after p first last are =
    let all : List Entry = before ++ record_entries p ++ after in
    ap record_in (entries-rows all)
    ∙ ap (λ rows. record_by (rests_at rows)) (rows-back (rows_of all) are)
    ∙ ap record_by (λ i name. rests-found all name i)
    ∙ same_record (found all) (found (record_entries p)) (λ name is. among before after p name is first last)
    ∙ record-found p
