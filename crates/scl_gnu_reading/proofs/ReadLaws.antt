-- The outcome of a reading is that of its words.
use Rattle.std.proofs.Common.{◌≡◌, ℕ, Bool, true, false, List, [], ◌∷◌, Option, None, Some, Ok, refl, ap, subst, ◌∙◌}
use Rattle.std.specs.Prelude.{Result}
use Rattle.scl_args.specs.Options.{unless, ◌>>=◌}
use Rattle.scl_files.specs.Expand.{expand}
use Rattle.scl_files.specs.Expanded.{ExpandedWords, expanded_by}
use Rattle.scl_files.specs.Openings.{is_expanded_within}
use Rattle.scl_files.specs.Sources.{ats_expanded}
use Rattle.scl_files.specs.Views.{Viewed}
use Rattle.scl_files.specs.declared.expand.ExpansionKind.TheVariants as expansions
use Rattle.scl_files.specs.declared.expand.Limits.{Limits}
use Rattle.scl_gnu_reading.specs.ClangRows.{clang_tables}
use Rattle.scl_gnu_reading.specs.Inners.{inner_verdict}
use Rattle.scl_gnu_reading.specs.Readings.{read, reading, recorded}
use Rattle.scl_gnu_reading.specs.Reads.{GnuRead, handed_ats, handed_words, inner_read, is_inner_within, outcome_by, outer_read, read_by}
use Rattle.scl_gnu_reading.specs.Recordings.{is_clang}
use Rattle.scl_gnu_reading.specs.Verdicts.{verdict}
use Rattle.scl_gnu_reading.specs.declared.gcc.data.Kind.{Kind}
use Rattle.scl_text.proofs.LineLaws.{line-options}
use Rattle.scl_text.specs.JudgedWords.{judged_cut}
use Rattle.scl_text.specs.Lines.{line_options, line_refusal}
use Rattle.scl_text.specs.ReadLines.{LineRead}
use Rattle.scl_text.specs.Records.{Parsed, Verdict}
use Rattle.scl_text.specs.declared.records.CCompilerKind.{CCompilerKind}
use Rattle.scl_values.specs.Row.{Row}
use Rattle.scl_values.specs.Seen.{Seen}
use Rattle.scl_values.specs.Tables.{owner_in}

-- two steps that give the same for the options of a line that is not refused
same-step : (said : Option Verdict) (options : List (Seen Kind)) (f g : List (Seen Kind) → Result Parsed Verdict) → f options ≡ g options → unless said (Ok options) >>= f ≡ unless said (Ok options) >>= g
same-step None options f g e = e
same-step (Some v) options f g e = refl

-- the outcome of a reading is that of its words, by the tables, in the view
pub outcome_read : (compiler : CCompilerKind) (plusplus : Bool) (tables : List (List (Row Kind))) (directory : List ℕ) (view : Viewed) (words : List (List ℕ)) (ats : List (Option ℕ))
    → (read_by compiler plusplus tables directory view (expanded_by expansions.Gnu directory view.files words ats)).outcome ≡ reading compiler plusplus tables directory view words
outcome_read compiler plusplus tables directory view words ats =
    let outer = (outer_read compiler tables view (expanded_by expansions.Gnu directory view.files words ats)).line in
    let handed = handed_words outer in
    let inner = (inner_read inner_verdict directory view handed (handed_ats outer)).line in
    same-step (line_refusal outer) outer.options
    (λ os. line_options inner >>= (λ is. recorded compiler plusplus directory view os is))
    (λ os. read compiler plusplus directory view os)
    (ap (λ r. r >>= (λ is. recorded compiler plusplus directory view outer.options is))
    (line-options inner_verdict (owner_in clang_tables) false (expand expansions.Gnu directory view.files handed) (ats_expanded expansions.Gnu directory view.files handed (handed_ats outer))))
    ∙ ap (λ r. r >>= (λ os. read compiler plusplus directory view os))
    (line-options (verdict view.is_multiarch) (owner_in tables) (is_clang compiler) (expand expansions.Gnu directory view.files words) (ats_expanded expansions.Gnu directory view.files words ats))

-- a reading is its lines, the words for the inner line, and its outcome
pub read_is : (compiler : CCompilerKind) (plusplus : Bool) (tables : List (List (Row Kind))) (directory : List ℕ) (view : Viewed) (e : ExpandedWords) (outer inner : LineRead Kind) (handed : List (List ℕ)) (ats : List (Option ℕ)) (said : Result Parsed Verdict)
    → outer ≡ outer_read compiler tables view e → handed ≡ handed_words outer.line → ats ≡ handed_ats outer.line → inner ≡ inner_read inner_verdict directory view handed ats → said ≡ outcome_by compiler plusplus directory view outer.line inner.line
    → record { compiler = compiler; plusplus = plusplus; outer = outer; handed = handed; inner = inner; outcome = said } ≡ read_by compiler plusplus tables directory view e
read_is compiler plusplus tables directory view e outer inner handed ats said eo eh ea ei es = rw (es, ei, ea, eh, eo) refl

-- the same if the inner line is within the limit, and if it is not
module _ (most : Limits) (compiler : CCompilerKind) (plusplus : Bool) (tables : List (List (Row Kind))) (directory : List ℕ) (view : Viewed) (e : ExpandedWords) (outer : LineRead Kind) (handed : List (List ℕ))
    (is_outer : outer ≡ outer_read compiler tables view e) (are_handed : handed ≡ handed_words outer.line) where
  inner_within_is : (within : Bool) → is_expanded_within most expansions.Gnu directory view.files handed ≡ within → is_inner_within most compiler tables directory view e ≡ within
  inner_within_is within h =
      let given : is_expanded_within most expansions.Gnu directory view.files (handed_words outer.line) ≡ within = subst (λ words. is_expanded_within most expansions.Gnu directory view.files words ≡ within) are_handed h in
      subst (λ (o : LineRead Kind). is_expanded_within most expansions.Gnu directory view.files (handed_words o.line) ≡ within) is_outer given

  pub read_said : (ats : List (Option ℕ)) (copied : List (List ℕ)) (inner : LineRead Kind) (said : Result Parsed Verdict) → ats ≡ handed_ats outer.line → copied ≡ handed
      → is_expanded_within most expansions.Gnu directory view.files handed ≡ true → inner ≡ inner_read inner_verdict directory view handed ats → said ≡ outcome_by compiler plusplus directory view outer.line inner.line
      → (is_inner_within most compiler tables directory view e ≡ true) × (record { compiler = compiler; plusplus = plusplus; outer = outer; handed = copied; inner = inner; outcome = said } ≡ read_by compiler plusplus tables directory view e)
  read_said ats copied inner said ea ec within ei es = (
    inner_within_is true within,
    rw ec (read_is compiler plusplus tables directory view e outer inner handed ats said is_outer are_handed ea ei es),
  )

  pub too_many_said : is_expanded_within most expansions.Gnu directory view.files handed ≡ false → is_inner_within most compiler tables directory view e ≡ false
  too_many_said h = inner_within_is false h
