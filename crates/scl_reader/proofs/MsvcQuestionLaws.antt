-- Where the disk has none of the questions of cl and clang-cl, it gives the same reading, and the same answer.
use Rattle.std.proofs.Common.{◌≡◌, ℕ, Bool, true, false, ◌||◌, List, ◌++◌, Option, None, Some, Result, Ok, Err, refl, ap, subst, ◌∙◌}
use Rattle.std.specs.Prelude.{codes, if◌then◌else◌}
use Rattle.scl_args.specs.Options.{◌>>=◌}
use Rattle.scl_values.specs.Each.{Each}
use Rattle.scl_values.specs.Seen.{Seen, Raw, Unknown, Known}
use Rattle.scl_values.specs.Tables.{owner_in}
use Rattle.scl_files.specs.declared.expand.ExpansionKind.TheVariants as expansions
use Rattle.scl_files.specs.Expanded.{ExpandedWords}
use Rattle.scl_files.specs.Paths.{join}
use Rattle.scl_files.specs.Views.{Viewed, exists, bytes_at}
use Rattle.scl_files.specs.Wanted.{wanted, HasNone}
use Rattle.scl_text.specs.Lines.{JudgedLine, line_options}
use Rattle.scl_text.specs.Outputs.{path_at}
use Rattle.scl_text.specs.ReadLines.{LineRead, line_read}
use Rattle.scl_text.specs.Records.{Parsed, Verdict, CannotCache, NotCompilation}
use Rattle.scl_text.specs.declared.records.Cacheable.TheVariants as cacheables
use Rattle.scl_gnu_reading.specs.ClangRows.{clang_tables}
use Rattle.scl_gnu_reading.specs.declared.gcc.data.Kind as gnu
use Rattle.scl_msvc_reading.specs.FixedTests as tests
use Rattle.scl_msvc_reading.specs.Inners.{BothInner, inner_verdict}
use Rattle.scl_msvc_reading.specs.Kinds.{of}
use Rattle.scl_msvc_reading.specs.Readings.{recorded}
use Rattle.scl_msvc_reading.specs.Reads.{MsvcRead, either, handed_ats, handed_words, line_behind, only_clang, only_xclang, outcome_by, outer_read}
use Rattle.scl_msvc_reading.specs.Recordings.{record_of, all_hashed}
use Rattle.scl_msvc_reading.specs.declared.msvc.data.Kind.{Kind}
use Rattle.scl_msvc_reading.specs.declared.msvc.data.Kind.TheVariants as kind
use Rattle.scl_msvc_reading.specs.contracts.msvc.data.KindPartialEq.TheImpl.{ghosts}
use Rattle.scl_msvc.specs.Building.{command, kept_unless, cacheable}
use Rattle.scl_msvc.specs.Environment.{surroundings}
use Rattle.scl_msvc.specs.Reads.{ats_between, expanded_between, read_by_both, surrounded_read, words_between}
use Rattle.scl_reader.specs.Answers.{answer_with, answer_from}
use Rattle.scl_reader.specs.Questions.{Extends, if_none, hash_files, database_asked, database_in}
use Rattle.scl_reader.proofs.DecidedLaws.{IsGnuSettled, expanded-decided, gnu-settled, settled-wanted}
use Rattle.scl_reader.proofs.ExpandedSameLaws.{each-front, each-back}
use Rattle.scl_reader.proofs.GnuQuestionLaws.{NoneAsked, same-paths, bind-same}
use Rattle.scl_reader.proofs.HandedLaws.{texts-either}

-- the files that a reading's lines lack
abbrev pub lacked_in : MsvcRead → List (List ℕ)
lacked_in r = r.outer.lacked ++ (r.xclang.lacked ++ r.clang.lacked)

-- an option that passes on a word to either inner line does so to one of the two
either-bit : (a b : Bool) → (a || (b || false)) ≡ true → ((a || false) || (b || false)) ≡ true
either-bit true b e = refl
either-bit false b e = e

one-of-two : (o : Seen Kind) → of either o ≡ true → (of only_xclang o || of only_clang o) ≡ true
one-of-two (Raw word) e = absurd (cc)
one-of-two (Unknown word) e = absurd (cc)
one-of-two (Known f k value how) e = either-bit (ghosts.eq kind.XClang k) (ghosts.eq kind.Clang k) e

module _ (is_clang : Bool) (directory : List ℕ) (disk view : Viewed) (extends : Extends disk view) where
  abbrev NoneFound : List (List ℕ) → Type 0
  NoneFound paths = HasNone disk.files paths

  none-front : (xs ys : List (List ℕ)) → NoneFound (xs ++ ys) → NoneFound xs
  none-front xs ys n = each-front (λ path. bytes_at path disk.files ≡ None) xs ys n

  none-back : (xs ys : List (List ℕ)) → NoneFound (xs ++ ys) → NoneFound ys
  none-back xs ys n = each-back (λ path. bytes_at path disk.files ≡ None) xs ys n

  -- ---- what the lines say

  recorded-same : (os : List (Seen Kind)) (inner : BothInner) → NoneAsked directory disk view extends (hash_files (recorded is_clang directory view os inner))
      → recorded is_clang directory disk os inner ≡ recorded is_clang directory view os inner
  recorded-same os inner n =
      elim (tests.found is_clang os) as (λ r. NoneAsked directory disk view extends (hash_files (r >>= (λ f. Ok (record_of directory view os inner f))))
      → (r >>= (λ f. Ok (record_of directory disk os inner f))) ≡ (r >>= (λ f. Ok (record_of directory view os inner f)))) [
        | Ok f ↦ λ k. ap (λ paths. Ok (record (record_of directory view os inner f) { extra_hash_files = paths })) (same-paths directory disk view extends (all_hashed os inner) k)
        | Err v ↦ λ k. refl
      ] n

  abbrev recorded_at : Viewed → List (Seen Kind) → List (Seen gnu.Kind) → List (Seen gnu.Kind) → Result Parsed Verdict
  recorded_at files os xs cs = recorded is_clang directory files os (record { xclang = xs; clang = cs })

  abbrev outcome_at : Viewed → JudgedLine Kind → JudgedLine gnu.Kind → JudgedLine gnu.Kind → Result Parsed Verdict
  outcome_at files outer xclang clang = outcome_by is_clang directory files outer xclang clang

  abbrev NoneIn : Result Parsed Verdict → Type 0
  NoneIn r = NoneAsked directory disk view extends (hash_files r)

  outcome-same : (outer : JudgedLine Kind) (xclang clang : JudgedLine gnu.Kind) → NoneIn (outcome_at view outer xclang clang) → outcome_at disk outer xclang clang ≡ outcome_at view outer xclang clang
  outcome-same outer xclang clang n =
      bind-same (line_options outer) _ _ (λ os e.
      let m : NoneIn (line_options xclang >>= (λ xs. line_options clang >>= recorded_at view os xs)) =
      subst (λ r. NoneIn (r >>= (λ os. line_options xclang >>= (λ xs. line_options clang >>= recorded_at view os xs)))) e n in
      bind-same (line_options xclang) _ _ (λ xs f.
      let l : NoneIn (line_options clang >>= recorded_at view os xs) = subst (λ r. NoneIn (r >>= (λ xs. line_options clang >>= recorded_at view os xs))) f m in
      bind-same (line_options clang) _ _ (λ cs g.
      recorded-same os (record { xclang = xs; clang = cs }) (subst (λ r. NoneIn (r >>= recorded_at view os xs)) g l))))

  -- ---- the lines

  behind-same : (kinds : List Kind) (outer : JudgedLine Kind) → NoneFound (wanted expansions.Gnu directory view.files (handed_words kinds outer))
      → line_behind kinds directory disk outer ≡ line_behind kinds directory view outer
  behind-same kinds outer n =
      ap (line_read inner_verdict (owner_in clang_tables) false)
      (expanded-decided directory view.files disk.files extends.files expansions.Gnu (handed_words kinds outer) (handed_ats kinds outer) n)

  -- what neither line asks for, their words in one line do not
  either-wanted : (outer : JudgedLine Kind) → NoneFound (wanted expansions.Gnu directory view.files (handed_words only_xclang outer))
      → NoneFound (wanted expansions.Gnu directory view.files (handed_words only_clang outer)) → NoneFound (wanted expansions.Gnu directory view.files (handed_words either outer))
  either-wanted outer n m =
      settled-wanted directory view.files disk.files extends.files (handed_words either outer)
      (texts-either (IsGnuSettled directory view.files disk.files extends.files) (of only_xclang) (of only_clang) (of either) one-of-two outer.options
      (gnu-settled directory view.files disk.files extends.files (handed_words only_xclang outer) n)
      (gnu-settled directory view.files disk.files extends.files (handed_words only_clang outer) m))

  abbrev built : List (List ℕ) → LineRead Kind → LineRead gnu.Kind → LineRead gnu.Kind → LineRead gnu.Kind → Result Parsed Verdict → MsvcRead
  built environment outer xclang clang inner said = record {
    is_clang = is_clang;
    environment = environment;
    outer = outer;
    xclang = xclang;
    clang = clang;
    handed = handed_words either outer.line;
    inner = inner;
    outcome = said;
  }

  module _ (words : List (List ℕ)) where
    both-decided : (r : Result (List (List ℕ) × List (List ℕ)) Verdict) → NoneFound (lacked_in (read_by_both is_clang directory view words r)) → NoneIn (read_by_both is_clang directory view words r).outcome
        → read_by_both is_clang directory disk words r ≡ read_by_both is_clang directory view words r
    both-decided (Err broken) n d = refl
    both-decided (Ok both) n d =
        let environment : List (List ℕ) = both.0 ++ both.1 in
        let outer : LineRead Kind = outer_read is_clang (expanded_between directory view words both) in
        let line : JudgedLine Kind = outer.line in
        let xclang : LineRead gnu.Kind = line_behind only_xclang directory view line in
        let clang : LineRead gnu.Kind = line_behind only_clang directory view line in
        let inner : LineRead gnu.Kind = line_behind either directory view line in
        let behind = none-back outer.lacked (xclang.lacked ++ clang.lacked) n in
        let one = none-front xclang.lacked clang.lacked behind in
        let two = none-back xclang.lacked clang.lacked behind in
        let same : expanded_between directory disk words both ≡ expanded_between directory view words both =
        expanded-decided directory view.files disk.files extends.files expansions.Msvc (words_between words both) (ats_between words both) (none-front outer.lacked (xclang.lacked ++ clang.lacked) n) in
        ap (λ (e : ExpandedWords). let o : LineRead Kind = outer_read is_clang e in
        let x : LineRead gnu.Kind = line_behind only_xclang directory disk o.line in
        let c : LineRead gnu.Kind = line_behind only_clang directory disk o.line in
        built environment o x c (line_behind either directory disk o.line) (outcome_at disk o.line x.line c.line)) same
        ∙ ap (λ (x : LineRead gnu.Kind). let c : LineRead gnu.Kind = line_behind only_clang directory disk line in
        built environment outer x c (line_behind either directory disk line) (outcome_at disk line x.line c.line)) (behind-same only_xclang line one)
        ∙ ap (λ (c : LineRead gnu.Kind). built environment outer xclang c (line_behind either directory disk line) (outcome_at disk line xclang.line c.line)) (behind-same only_clang line two)
        ∙ ap (λ (i : LineRead gnu.Kind). built environment outer xclang clang i (outcome_at disk line xclang.line clang.line)) (behind-same either line (either-wanted line one two))
        ∙ ap (built environment outer xclang clang inner) (outcome-same line xclang.line clang.line d)

    -- the whole reading is the same
    pub msvc-decided : (pairs : List (List ℕ × List ℕ)) → NoneFound (lacked_in (surrounded_read is_clang directory pairs view words)) → NoneIn (surrounded_read is_clang directory pairs view words).outcome
        → surrounded_read is_clang directory pairs disk words ≡ surrounded_read is_clang directory pairs view words
    msvc-decided pairs n d = both-decided (surroundings pairs) n d

  -- ---- whether the outcome may be kept

  pub exists-same : (path : List ℕ) → Each (λ p. exists p disk ≡ false) (if_none (exists path view) path) → exists path disk ≡ exists path view
  exists-same path n = elim (exists path view) as (λ b. exists path view ≡ b → Each (λ p. exists p disk ≡ false) (if_none b path) → exists path disk ≡ b) [
    | true ↦ λ e _. extends.existing path e
    | false ↦ λ e k. k.0
  ] refl n

  kept-same : (database : Option (List ℕ)) → Each (λ p. exists p disk ≡ false) (database_asked directory view database) → kept_unless database directory disk ≡ kept_unless database directory view
  kept-same None n = refl
  kept-same (Some database) n = ap (λ b. if b then cacheables.No else cacheables.Yes) (exists-same (join directory database) n)

  pub answer-same : (r : Result Parsed Verdict) → Each (λ p. exists p disk ≡ false) (database_asked directory view (database_in r))
      → answer_from command (λ p. cacheable p directory disk) r ≡ answer_from command (λ p. cacheable p directory view) r
  answer-same (Ok p) n = ap (answer_with (command p)) (kept-same (path_at p.outputs (codes "pdb")) n)
  answer-same (Err (CannotCache reason beside)) n = refl
  answer-same (Err NotCompilation) n = refl
