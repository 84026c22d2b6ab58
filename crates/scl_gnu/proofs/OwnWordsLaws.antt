-- What is needed of a compiler's own words and inner command lines, and what its own options are not.
use Rattle.std.proofs.Common.{◌≡◌, ℕ, Bool, true, false, not, ◌||◌, List, [], ◌∷◌, ◌++◌, map, Option, None, Some, refl, ap, ◌∙◌, append_assoc}
use Rattle.std.proofs.lemmas.List.{append-nil}
use Rattle.std.specs.List.{flat_map, list_all}
use Rattle.std.specs.Prelude.{codes}
use Rattle.std.specs.Str.{bytes_eq}
use Rattle.scl_values.specs.Each.{Each}
use Rattle.scl_args.specs.Options.{list, side_of_flag}
use Rattle.scl_values.specs.Row.{Row}
use Rattle.scl_values.specs.Seen.{Seen, Plain}
use Rattle.scl_values.specs.Seen as plain
use Rattle.scl_values.specs.Tables.{owner_in, all_rows}
use Rattle.scl_args.specs.Wrapped.{wrapped_apart}
use Rattle.scl_args.specs.Checks.{PassChecks}
use Rattle.scl_args.specs.OwnWords.{is_bare, may_stand_apart}
use Rattle.scl_args.specs.Commands.{Inner, values_at, raw_words}
use Rattle.scl_args.specs.Origins.{input_words}
use Rattle.scl_args.specs.Reads.{Reads}
use Rattle.scl_args.proofs.CommandLaws.{IsInner}
use Rattle.scl_args.proofs.ValuesLaws.{HaveOwnFlags}
use Rattle.scl_text.specs.declared.records.ColorMode.{ColorMode}
use Rattle.scl_text.specs.declared.records.ColorMode.TheVariants as colors
use Rattle.scl_gnu_reading.specs.declared.gcc.data.Kind.{Kind}
use Rattle.scl_gnu_reading.specs.declared.gcc.data.Kind.TheVariants as kind
use Rattle.scl_gnu_reading.specs.declared.gcc.place.Place.{Place}
use Rattle.scl_gnu_reading.specs.Again as again
use Rattle.scl_gnu_reading.specs.ClangRows.{clang_tables}
use Rattle.scl_gnu_reading.specs.Inners.{goes_inside_to, inner_words_at}
use Rattle.scl_gnu.specs.ReadAgain.{language_option, color_option, split_dwarf_option, depfile_option, target_options}
use Rattle.scl_gnu.specs.OwnTables.{is_kind}

abbrev pub xclang : List ℕ
xclang = codes "-Xclang"

abbrev pub wrapped : Inner Kind Kind → List ℕ → List (List ℕ)
wrapped i w = wrapped_apart xclang w

-- what is needed of a compiler's tables: its own words are read by evaluation, and two facts of rows
module _ (tables : List (List (Row Kind))) (dashes : Bool) where
  abbrev Again : List (List ℕ) → List (Plain Kind) → Type 0
  Again ws os = Reads (owner_in tables) dashes ws os

  pub record OwnWords : Type 0 where
    pub pass : PassChecks tables again.carried side_of_flag
    pub language : (text : List ℕ) → Again (codes "-x" ∷ text ∷ []) (plain.value (codes "-x") kind.Language text ∷ [])
    pub output : (object : List ℕ) → Again (codes "-o" ∷ object ∷ []) (plain.value (codes "-o") kind.Output object ∷ [])
    pub color : Again (codes "-fdiagnostics-color=always" ∷ []) (plain.value (codes "-fdiagnostics-color") kind.DiagnosticsColor (codes "always") ∷ [])
    pub define : (path : List ℕ) → Again ((codes "-D_gsplit_dwarf_path=" ++ path) ∷ []) (plain.value (codes "-D") kind.PassThrough (codes "_gsplit_dwarf_path=" ++ path) ∷ [])
    pub depfile : (path : List ℕ) → Again (codes "-MF" ∷ path ∷ []) (plain.value (codes "-MF") kind.DepArgumentPath path ∷ [])
    pub target : (path : List ℕ) → Again (codes "-MT" ∷ path ∷ []) (plain.value (codes "-MT") kind.DepTarget path ∷ [])
    pub compile_flags : list_all (λ row. not (is_kind kind.DoCompilation row.kind) || is_bare row.shape) (all_rows tables) ≡ true
    pub target_flags : list_all (λ row. not (is_kind kind.DepTarget row.kind) || may_stand_apart row.shape) (all_rows tables) ≡ true
    pub other_flags : list_all (λ row. not (is_kind kind.DepTarget row.kind) || not (bytes_eq row.flag xclang)) (all_rows tables) ≡ true

  -- the inner command lines; the lists have these inner options of them
  pub record AreInners (inner : List (Seen Kind)) (inners : List (Inner Kind Kind)) : Type 0 where
    pub are : Each (IsInner tables dashes clang_tables again.carried again.carried_inner side_of_flag wrapped) inners
    pub own_flags : HaveOwnFlags inners
    pub flags : Each (λ i. i.flag ≡ xclang) inners
    pub words_are : (there : Place) → flat_map (λ i. flat_map (wrapped i) (list side_of_flag (goes_inside_to there) i.options)) inners ≡ inner_words_at there inner

-- ---- no own option is the flag for inner words

pub not-so : (b : Bool) → not b ≡ true → b ≡ false
not-so true e = absurd (cc)
not-so false e = refl

pub none-front : (text : Option (List ℕ)) (f object : List ℕ) →
    values_at xclang (language_option text ++ plain.flag f kind.DoCompilation ∷ plain.value (codes "-o") kind.Output object ∷ []) ≡ []
none-front None f object = refl
none-front (Some text) f object = refl

pub none-back : (color : ColorMode) (marked : Bool) (x : List ℕ) → values_at xclang (color_option color ++ map plain.raw (input_words marked x)) ≡ []
none-back colors.Off true x = refl
none-back colors.On true x = refl
none-back colors.Auto true x = refl
none-back colors.Off false x = refl
none-back colors.On false x = refl
none-back colors.Auto false x = refl

pub none-define : (is_split : Bool) (object : List ℕ) → values_at xclang (split_dwarf_option is_split object) ≡ []
none-define true object = refl
none-define false object = refl

pub no_raw-define : (is_split : Bool) (object : List ℕ) → raw_words (split_dwarf_option is_split object) ≡ []
no_raw-define true object = refl
no_raw-define false object = refl

pub no_raw-target : (needed has_path : Bool) (flag_at target : Option (List ℕ)) (object : List ℕ) → raw_words (target_options needed has_path flag_at target object) ≡ []
no_raw-target true true flag_at target object = refl
no_raw-target true false flag_at target object = refl
no_raw-target false has_path flag_at target object = refl

pub none-depfile : (has_path : Bool) (object : List ℕ) → values_at xclang (depfile_option has_path object) ≡ []
none-depfile true object = refl
none-depfile false object = refl

pub five : {A : Type 0} (a b c d e : List A) → a ++ (b ++ (c ++ (d ++ (e ++ [])))) ≡ a ++ b ++ c ++ d ++ e
five a b c d e = ap (λ x. a ++ (b ++ (c ++ (d ++ x)))) (append-nil e) ∙ simp append_assoc
