-- The input of a command is read again: raw, after the mark or before any mark, or as the value of the flag of its language.
use Rattle.std.proofs.Common.{◌≡◌, ℕ, Bool, true, false, cond, ◌||◌, List, [], ◌∷◌, ◌++◌, map, Option, None, Some, refl, sym, ap, subst, ◌∙◌}
use Rattle.std.specs.Option.{option_and_then}
use Rattle.std.specs.Prelude.{codes, unwrap_or}
use Rattle.scl_values.specs.Cuts.{cut}
use Rattle.scl_values.specs.Each.{Each}
use Rattle.scl_args.specs.Options.{dash_words, first_is, is_behind_dashes, is_dashes, texts}
use Rattle.scl_values.specs.Row.{Row, row, either, joined}
use Rattle.scl_values.specs.Seen.{Seen, Raw, Unknown, Known, shown, text_of}
use Rattle.scl_values.specs.Seen as plain
use Rattle.scl_values.specs.Tables.{owner_in, all_rows}
use Rattle.scl_args.proofs.OwnerLaws.{owner_in-is}
use Rattle.scl_args.specs.Origins.{input_words}
use Rattle.scl_args.specs.Reads.{read, cleanly, Reads}
use Rattle.scl_args.proofs.FilterLaws.{filter-same, any-none, has-last, last-text}
use Rattle.scl_args.proofs.FreshLaws.{own-joined, own-either}
use Rattle.scl_args.proofs.InputLaws.{ends-input}
use Rattle.scl_args.proofs.MarkLaws.{raw_input, raw-is_input, marked-dashes, known-first}
use Rattle.scl_args.proofs.OriginLaws.{has_row}
use Rattle.scl_args.proofs.ReadsLaws.{reads-nil, reads-last}
use Rattle.scl_text.specs.declared.language.Language.{Language}
use Rattle.scl_text.specs.declared.language.Language.TheVariants as languages
use Rattle.scl_msvc_reading.specs.declared.msvc.data.Kind.{Kind}
use Rattle.scl_msvc_reading.specs.declared.msvc.data.Kind.TheVariants as kind
use Rattle.scl_msvc.specs.Building.{language_flag}
use Rattle.scl_msvc_reading.specs.Kinds.{any, is_input, language_said, explicit_language, language_inputs}
use Rattle.scl_msvc.specs.ReadAgain.{input_option, mark_option}
use Rattle.scl_msvc_reading.specs.Rows.{msvc_rows, msvc_tables}
use Rattle.scl_msvc_reading.specs.Verdicts.{verdict}
use Rattle.scl_msvc_reading.proofs.CheckLaws.{own_joins}
use Rattle.scl_msvc.proofs.ReadingLaws.{names_language}

abbrev own : List ℕ → Option (Row Kind)
own = owner_in msvc_tables

-- ---- own words that are joined

output_row : Row Kind
output_row = row (codes "-Fo") kind.Output (joined None)

c_row : Row Kind
c_row = row (codes "-Tc") kind.CInput (either None)

cxx_row : Row Kind
cxx_row = row (codes "-Tp") kind.CxxInput (either None)

clang_row : Row Kind
clang_row = row (codes "-clang:") kind.Clang (joined None)

module _ (dashes : Bool) where
  pub reads-output : (object : List ℕ) → Reads own dashes ((codes "-Fo" ++ object) ∷ []) (plain.value (codes "-Fo") kind.Output object ∷ [])
  unfolding msvc_rows output_row
  reads-output object = own-joined msvc_tables dashes _ own_joins output_row
      (has_row own false (all_rows msvc_tables) (owner_in-is msvc_tables) output_row (codes "-Fo") (record { is = refl; no_mark = refl })) refl refl object

  pub reads-clang : (word : List ℕ) → Reads own dashes ((codes "-clang:" ++ word) ∷ []) (plain.value (codes "-clang:") kind.Clang word ∷ [])
  unfolding msvc_rows clang_row
  reads-clang word = own-joined msvc_tables dashes _ own_joins clang_row
      (has_row own false (all_rows msvc_tables) (owner_in-is msvc_tables) clang_row (codes "-clang:") (record { is = refl; no_mark = refl })) refl refl word

  reads-c : (x : ℕ) (xs : List ℕ) → Reads own dashes ((codes "-Tc" ++ (x ∷ xs)) ∷ []) (plain.value (codes "-Tc") kind.CInput (x ∷ xs) ∷ [])
  unfolding msvc_rows c_row
  reads-c x xs = own-either msvc_tables dashes _ own_joins c_row
      (has_row own false (all_rows msvc_tables) (owner_in-is msvc_tables) c_row (codes "-Tc") (record { is = refl; no_mark = refl })) refl refl x xs

  reads-cxx : (x : ℕ) (xs : List ℕ) → Reads own dashes ((codes "-Tp" ++ (x ∷ xs)) ∷ []) (plain.value (codes "-Tp") kind.CxxInput (x ∷ xs) ∷ [])
  unfolding msvc_rows cxx_row
  reads-cxx x xs = own-either msvc_tables dashes _ own_joins cxx_row
      (has_row own false (all_rows msvc_tables) (owner_in-is msvc_tables) cxx_row (codes "-Tp") (record { is = refl; no_mark = refl })) refl refl x xs

-- ---- at the end

abbrev InputRead : Bool → Language → List ℕ → (is_said marked : Bool) → Type 0
InputRead dashes l x is_said marked =
    read own dashes (dash_words marked ++ cond is_said (unwrap_or (language_flag l) [] ++ x) x ∷ []) ≡ cleanly (mark_option marked ++ input_option is_said l x ∷ [])

-- an option that gives its input's language, and is not refused
said-again : (is_clang : Bool) (l : Language) (x : List ℕ) (o : Seen Kind) → names_language o ≡ true → language_said o ≡ Some l → text_of o ≡ x → verdict is_clang [] o ≡ None
    → InputRead is_clang l x true false
said-again is_clang l x (Raw w) e s t v = absurd (cc)
said-again is_clang l x (Unknown w) e s t v = absurd (cc)
said-again is_clang l x (Known f kind.CInput [] h) e s t v = absurd (cc)
said-again is_clang l x (Known f kind.CInput (y ∷ ys) h) e s t v =
    let same : languages.C ≡ l = cc in
    subst (λ m. InputRead is_clang m x true false) same
    (subst (λ z. InputRead is_clang languages.C z true false) t (reads-last own is_clang _ _ (reads-c is_clang y ys)))
said-again is_clang l x (Known f kind.CxxInput [] h) e s t v = absurd (cc)
said-again is_clang l x (Known f kind.CxxInput (y ∷ ys) h) e s t v =
    let same : languages.Cxx ≡ l = cc in
    subst (λ m. InputRead is_clang m x true false) same
    (subst (λ z. InputRead is_clang languages.Cxx z true false) t (reads-last own is_clang _ _ (reads-cxx is_clang y ys)))
said-again is_clang l x (Known f _ w h) e s t v = absurd (cc)

or-false : (b : Bool) → (b || false) ≡ b
or-false true = refl
or-false false = refl

module _ (is_clang : Bool) (ws : List (List ℕ)) where
  abbrev os : List (Seen Kind)
  os = map shown (cut own is_clang ws).options

  -- if no flag gives the language, the inputs are raw words
  raw-only : (os : List (Seen Kind)) → Each (λ o. names_language o ≡ false) os → Each (λ o. is_input o ≡ raw_input o) os
  raw-only [] h = tt
  raw-only (o ∷ os) h = (ap (λ b. raw_input o || b) h.0 ∙ or-false (raw_input o), raw-only os h.1)

  raw-counts : (os : List (Seen Kind)) → Each (λ o. is_input o ≡ raw_input o) os → Each (λ o. (is_dashes o || is_input o) ≡ (is_dashes o || raw_input o)) os
  raw-counts [] h = tt
  raw-counts (o ∷ os) h = (ap (λ b. is_dashes o || b) h.0, raw-counts os h.1)

  is-an-input : (o : Seen Kind) → names_language o ≡ true → is_input o ≡ true
  is-an-input (Raw w) e = absurd (cc)
  is-an-input (Unknown w) e = absurd (cc)
  is-an-input (Known f k v h) e = e

  marks : (marked : Bool) (x : List ℕ) → dash_words marked ++ x ∷ [] ≡ input_words marked x
  marks true x = refl
  marks false x = refl

  raw-marks : (marked : Bool) (l : Language) (x : List ℕ) → map plain.raw (input_words marked x) ≡ mark_option marked ++ input_option false l x ∷ []
  raw-marks true l x = refl
  raw-marks false l x = refl

  module _ (l : Language) (x : List ℕ) (is_text : texts is_input os ≡ x ∷ []) where
    raw-again : any language_inputs os ≡ false → InputRead is_clang l x false (is_behind_dashes is_input os)
    raw-again e =
        let marked = is_behind_dashes is_input os in
        let raws = raw-only os (any-none names_language os e) in
        let first : marked ≡ is_behind_dashes raw_input os = ap (first_is is_dashes) (filter-same _ _ os (raw-counts os raws)) in
        let text : texts raw_input os ≡ x ∷ [] = ap (map text_of) (sym (filter-same is_input raw_input os raws)) ∙ is_text in
        ap (read own is_clang) (marks marked x)
        ∙ (ends-input own is_clang [] [] marked x (reads-nil own is_clang) (marked-dashes msvc_tables is_clang ws is_input) (λ no. raw-is_input own is_clang ws x text (sym first ∙ no))
        ∙ ap cleanly (raw-marks marked l x))

    pub reads-input : Each (λ o. verdict is_clang [] o ≡ None) os → (any language_inputs os ≡ true → explicit_language os ≡ Some l)
        → InputRead is_clang l x (any language_inputs os) (is_behind_dashes is_input os)
    reads-input unrefused said =
        let says = any language_inputs os in
        elim says as (λ b. says ≡ b → InputRead is_clang l x b (is_behind_dashes is_input os)) [
          | true ↦ λ e.
              let o = has-last (λ o. verdict is_clang [] o ≡ None) names_language os unrefused e in
              let first = known-first msvc_tables is_clang names_language is_input (λ w. refl) is-an-input ws e in
              subst (λ m. InputRead is_clang l x true m) (sym first)
              (said-again is_clang l x o.option o.passes (sym (ap (λ y. option_and_then language_said y) o.is) ∙ said e)
              (last-text names_language is_input is-an-input os x o.option is_text o.is) o.so)
          | false ↦ λ e. raw-again e
        ] refl
