-- The outcome of a reading is that of its words.
use Rattle.std.proofs.Common.{◌≡◌, ℕ, ◌&&◌, Bool, true, false, List, [], ◌∷◌, Option, None, Some, Ok, refl, ap, subst, ◌∙◌}
use Rattle.std.specs.Prelude.{Result, Err}
use Rattle.scl_args.specs.Options.{unless, ◌>>=◌}
use Rattle.scl_files.specs.Expand.{expand}
use Rattle.scl_files.specs.Expanded.{ExpandedWords, expanded_by}
use Rattle.scl_files.specs.Sources.{ats_expanded}
use Rattle.scl_files.specs.Views.{Viewed}
use Rattle.scl_files.specs.declared.expand.ExpansionKind.TheVariants as expansions
use Rattle.scl_files.specs.declared.expand.Limits.{Limits}
use Rattle.scl_gnu_reading.specs.ClangRows.{clang_tables}
use Rattle.scl_gnu_reading.specs.Reads.{inner_read}
use Rattle.scl_gnu_reading.specs.declared.gcc.data.Kind as gnu
use Rattle.scl_msvc_reading.specs.Inners.{BothInner, inner_verdict}
use Rattle.scl_msvc_reading.specs.ReadBy.{AreInnerLines}
use Rattle.scl_msvc_reading.specs.Readings.{inner_options, read, reading, recorded}
use Rattle.scl_msvc_reading.specs.Reads.{are_behind_within, are_inner_within, either, handed_ats, handed_words, line_behind, only_clang, only_xclang, outcome_by, outer_read, read_by}
use Rattle.scl_msvc_reading.specs.Rows.{msvc_tables}
use Rattle.scl_msvc_reading.specs.Verdicts.{verdict}
use Rattle.scl_msvc_reading.specs.declared.msvc.data.Kind.{Kind}
use Rattle.scl_msvc_reading.specs.declared.msvc.data.Kind.TheVariants as kind
use Rattle.scl_msvc_reading.specs.declared.msvc.reading.InnerLines.{InnerLines}
use Rattle.scl_text.proofs.LineLaws.{line-options}
use Rattle.scl_text.specs.Lines.{JudgedLine, line_options, line_refusal}
use Rattle.scl_text.specs.ReadLines.{LineRead}
use Rattle.scl_text.specs.Records.{Parsed, Verdict}
use Rattle.scl_values.specs.Seen.{Seen}
use Rattle.scl_values.specs.Tables.{owner_in}
use Rattle.scl_values.specs.Words.{words_of}

-- two steps that give the same for the options of a line that is not refused
same-step : (said : Option Verdict) (options : List (Seen Kind)) (f g : List (Seen Kind) → Result Parsed Verdict) → f options ≡ g options → unless said (Ok options) >>= f ≡ unless said (Ok options) >>= g
same-step None options f g e = e
same-step (Some v) options f g e = refl

-- two inner lines, read one after the other, and then both recorded
in-turn : (xs cs : Result (List (Seen gnu.Kind)) Verdict) (f : BothInner → Result Parsed Verdict)
    → xs >>= (λ x. cs >>= (λ c. f (record { xclang = x; clang = c }))) ≡ (xs >>= (λ x. cs >>= (λ c. Ok (record { xclang = x; clang = c })))) >>= f
in-turn (Err v) cs f = refl
in-turn (Ok x) (Err v) f = refl
in-turn (Ok x) (Ok c) f = refl

module _ (is_clang : Bool) (directory : List ℕ) (view : Viewed) where
  -- the options of an inner line are those of its words, judged
  behind-options : (k : Kind) (outer : JudgedLine Kind) → line_options (line_behind (k ∷ []) directory view outer).line ≡ inner_options k directory view outer.options
  behind-options k outer =
      line-options inner_verdict (owner_in clang_tables) false (expand expansions.Gnu directory view.files (handed_words (k ∷ []) outer)) (ats_expanded expansions.Gnu directory view.files (handed_words (k ∷ []) outer) (handed_ats (k ∷ []) outer))

  -- the outcome of a reading is that of its words, in the view
  pub outcome_read : (environment words : List (List ℕ)) (ats : List (Option ℕ))
      → (read_by is_clang directory view environment (expanded_by expansions.Msvc directory view.files words ats)).outcome ≡ reading is_clang directory view words
  outcome_read environment words ats =
      let outer = (outer_read is_clang (expanded_by expansions.Msvc directory view.files words ats)).line in
      let xs = line_options (line_behind only_xclang directory view outer).line in
      let cs = line_options (line_behind only_clang directory view outer).line in
      same-step (line_refusal outer) outer.options
      (λ os. xs >>= (λ x. cs >>= (λ c. recorded is_clang directory view os (record { xclang = x; clang = c }))))
      (λ os. read is_clang directory view os)
      (in-turn xs cs (λ inner. recorded is_clang directory view outer.options inner)
      ∙ ap (λ r. (r >>= (λ x. cs >>= (λ c. Ok (record { xclang = x; clang = c })))) >>= (λ inner. recorded is_clang directory view outer.options inner)) (behind-options kind.XClang outer)
      ∙ ap (λ r. (inner_options kind.XClang directory view outer.options >>= (λ x. r >>= (λ c. Ok (record { xclang = x; clang = c })))) >>= (λ inner. recorded is_clang directory view outer.options inner)) (behind-options kind.Clang outer))
      ∙ ap (λ r. r >>= (λ os. read is_clang directory view os))
      (line-options (verdict is_clang) (owner_in msvc_tables) is_clang (expand expansions.Msvc directory view.files words) (ats_expanded expansions.Msvc directory view.files words ats))

  -- a reading is its lines, the words for the inner lines, and its outcome
  pub read_is : (environment : List (List ℕ)) (e : ExpandedWords) (outer : LineRead Kind) (xclang clang inner : LineRead gnu.Kind) (handed : List (List ℕ)) (said : Result Parsed Verdict)
      → outer ≡ outer_read is_clang e → xclang ≡ line_behind only_xclang directory view outer.line → clang ≡ line_behind only_clang directory view outer.line
      → handed ≡ handed_words either outer.line → inner ≡ line_behind either directory view outer.line → said ≡ outcome_by is_clang directory view outer.line xclang.line clang.line
      → record { is_clang = is_clang; environment = environment; outer = outer; xclang = xclang; clang = clang; handed = handed; inner = inner; outcome = said } ≡ read_by is_clang directory view environment e
  read_is environment e outer xclang clang inner handed said eo ex ec eh ei es = rw (es, ei, eh, ec, ex, eo) refl

pub all_true : (a b c : Bool) → a ≡ true → b ≡ true → c ≡ true → (a && (b && c)) ≡ true
all_true a b c ea eb ec = rw (ea, eb, ec) refl

-- the same if each inner line is within the limit, and if one is not
module _ (most : Limits) (is_clang : Bool) (directory : List ℕ) (view : Viewed) (e : ExpandedWords) (outer : LineRead Kind) (is_outer : outer ≡ outer_read is_clang e) (l : JudgedLine Kind) (is_line : l ≡ outer.line) where
  pub within_is : (within : Bool) → are_behind_within most directory view l ≡ within → are_inner_within most is_clang directory view e ≡ within
  within_is within h =
      let given : are_behind_within most directory view outer.line ≡ within = subst (λ (o : JudgedLine Kind). are_behind_within most directory view o ≡ within) is_line h in
      subst (λ (o : LineRead Kind). are_behind_within most directory view o.line ≡ within) is_outer given

  pub read_said : (environment : List (List ℕ)) (lines : InnerLines) (said : Result Parsed Verdict)
      → are_behind_within most directory view l ≡ true → AreInnerLines directory view l lines → said ≡ outcome_by is_clang directory view outer.line lines.xclang.line lines.clang.line
      → (are_inner_within most is_clang directory view e ≡ true)
      × (record { is_clang = is_clang; environment = environment; outer = outer; xclang = lines.xclang; clang = lines.clang; handed = words_of lines.handed.items; inner = lines.either; outcome = said }
      ≡ read_by is_clang directory view environment e)
  read_said environment lines said within are es =
      let here : AreInnerLines directory view outer.line lines = subst (λ (o : JudgedLine Kind). AreInnerLines directory view o lines) is_line are in (
        within_is true within,
        read_is is_clang directory view environment e outer lines.xclang lines.clang lines.either (words_of lines.handed.items) said is_outer here.0 here.1 here.2 here.3 es,
      )
