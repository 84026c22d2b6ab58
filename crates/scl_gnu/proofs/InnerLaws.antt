-- Gcc has no inner command lines.
use Rattle.std.proofs.Common.{◌≡◌, ℕ, true, false, not, ◌||◌, List, [], ◌∷◌, map, refl, ap, ◌∙◌}
use Rattle.std.specs.List.{list_all}
use Rattle.scl_values.specs.Cuts.{cut}
use Rattle.scl_values.specs.Each.{Each}
use Rattle.scl_values.specs.Seen.{Seen, shown, text_of}
use Rattle.scl_values.specs.Tables.{owner_in, all_rows}
use Rattle.scl_args.proofs.FoundLaws.{IsFound, found}
use Rattle.scl_args.proofs.OtherValueLaws.{flag-so}
use Rattle.scl_files.specs.declared.expand.ExpansionKind.TheVariants as expansions
use Rattle.scl_files.specs.Expand.{expand}
use Rattle.scl_files.specs.Views.{Viewed}
use Rattle.scl_text.specs.JudgedWords.{options_of}
use Rattle.scl_files.proofs.ExpandLemmas.{expand-nil}
use Rattle.scl_gnu_reading.specs.declared.gcc.data.Kind.{Kind}
use Rattle.scl_gnu_reading.specs.declared.gcc.data.Kind.TheVariants as kind
use Rattle.scl_gnu_reading.specs.ClangRows.{clang_tables}
use Rattle.scl_gnu_reading.specs.GccRows.{gcc_rows}
use Rattle.scl_gnu_reading.specs.Kinds.{of}
use Rattle.scl_gnu.specs.ReadAgain.{inner_options_of}
use Rattle.scl_gnu.specs.OwnTables.{is_kind}

-- no row of Gcc has the flag for inner words

no_row : list_all (λ row. not (is_kind kind.XClang row.kind) || false) (all_rows (gcc_rows ∷ [])) ≡ true
unfolding gcc_rows
no_row = refl

none-found : (os : List (Seen Kind)) → Each (IsFound (gcc_rows ∷ []) false (of (kind.XClang ∷ []))) os → map text_of os ≡ []
none-found [] h = refl
none-found (o ∷ os) h = absurd (let no : false ≡ true = flag-so (gcc_rows ∷ []) false (is_kind kind.XClang) (λ f. false) no_row (of (kind.XClang ∷ [])) (λ x. refl) o h.0 in cc)

pub no_inner : (directory : List ℕ) (view : Viewed) (words : List (List ℕ)) → map shown (inner_options_of directory view (map shown (options_of expansions.Gnu (gcc_rows ∷ []) false directory view words))) ≡ []
no_inner directory view words =
    let none = none-found _ (found (gcc_rows ∷ []) false (of (kind.XClang ∷ [])) (expand expansions.Gnu directory view.files words)) in
    ap (λ ws. map shown (options_of expansions.Gnu clang_tables false directory view ws)) none
    ∙ ap (λ ws. map shown (cut (owner_in clang_tables) false ws).options) (expand-nil expansions.Gnu directory view.files)
