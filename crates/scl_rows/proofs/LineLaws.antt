-- The rows of a line: its first refusal, the words of its lists, and the words that they were cut from.
use Rattle.std.proofs.Common.{◌≡◌, ℕ, suc, Bool, true, false, cond, List, [], ◌∷◌, ◌++◌, ◌+◌, ◌<◌, add-one, append_assoc, drop, drop-cons, filter, get_or, length, map, take, Option, None, Some, Vec, refl, sym, ap, subst, ◌∙◌, arith}
use Rattle.std.proofs.Math.Seq.{drop-append_seam}
use Rattle.std.proofs.lemmas.Grind.{flat_map-append}
use Rattle.std.proofs.lemmas.List.{append-nil, drop-map, map-id, take-append-drop, take-map}
use Rattle.std.proofs.lemmas.List.Concat.{flat_map_single}
use Rattle.std.specs.List.{flat_map}
use Rattle.std.specs.Option.{option_map, option_or}
use Rattle.std.specs.Prelude.{unwrap_or}
use Rattle.std.specs.declared.alloc.Global.{Global}
use Rattle.scl_args.proofs.OutcomeLaws.{option_or-none}
use Rattle.scl_args.proofs.OptionLaws.{last-append}
use Rattle.scl_args.proofs.PrintLaws.{prints_what_was_cut}
use Rattle.scl_args.specs.Empties.{refusing_empty}
use Rattle.scl_args.specs.Options.{last, list, spelled_on}
use Rattle.scl_args.specs.Printed.{AllCutFrom, CutFrom, IsLeftAt, as_printed, delimiter_of, with_delimiter}
use Rattle.scl_files.specs.Expanded.{ExpandedWords}
use Rattle.scl_files.specs.Sources.{first_at}
use Rattle.scl_text.specs.Lines.{Dangled, ats_cut, dangled_by, first_some, line_by, line_refusal, refusals_after}
use Rattle.scl_text.specs.ReadLines.{LineRead, line_read}
use Rattle.scl_text.specs.Reasons.{argument_parse, empty_value}
use Rattle.scl_text.specs.Records.{Verdict}
use Rattle.scl_values.specs.Cuts.{Cut, End, clean, cut, dangling, is_dangling, with_value}
use Rattle.scl_values.specs.Row.{Row}
use Rattle.scl_values.specs.Seen.{Seen, shown}
use Rattle.scl_values.specs.Spell.{spelled}
use Rattle.scl_values.specs.Tables.{owner_in}
use Rattle.scl_values.specs.Words.{words_of}
use Rattle.scl_values.specs.declared.argument.ArgDisposition.{ArgDisposition}
use Rattle.scl_values.specs.declared.argument.ArgDisposition.TheVariants as how
use Rattle.scl_values.specs.declared.argument.NormalizedDisposition.{NormalizedDisposition}
use Rattle.scl_rows.specs.Lines.{Ways, first_row, line_rows, row_end, row_of, rows_judged}
use Rattle.scl_rows.specs.Rows.{Told, first_refusal, handed, is_list, printed_at, words_given, words_to}
use Rattle.scl_rows.specs.contracts.destination.DestinationPartialEq.TheImpl.{ghosts}
use Rattle.scl_rows.specs.declared.destination.Destination.{Destination}
use Rattle.scl_rows.specs.declared.origin.Origin.{Origin}
use Rattle.scl_rows.specs.declared.origin.Origin.TheVariants as origins
use Rattle.scl_rows.proofs.TellLaws.{first_refusal-append, words_given-append, words_to-append}

-- ---- words of the program

pub words_taken : (n : ℕ) (words : List (Vec ℕ Global)) → words_of (take n words) ≡ take n (words_of words)
words_taken n words = sym (take-map (λ word. word.items) n words)

pub words_dropped : (n : ℕ) (words : List (Vec ℕ Global)) → words_of (drop n words) ≡ drop n (words_of words)
words_dropped n words = sym (drop-map (λ word. word.items) n words)

pub options-at : {A B : Type 0} (see : A → B) (options : List A) (i : ℕ) (option : A) → i < length options → option ≡ get_or options i option → map see (drop i options) ≡ see option ∷ map see (drop (i + 1) options)
options-at see options i option within is =
    ap (map see) (drop-cons options i option within ∙ ap (λ first. first ∷ drop (suc i) options) (sym is) ∙ ap (λ n. option ∷ drop n options) (sym (add-one i)))

-- one more row, of the options of a loop
pub judged-more : {K : Type 0} (ways : Ways K) (old new all : List Told) (row : Told) (words next : List (List ℕ)) (count : ℕ) (ats left : List (Option ℕ)) (said after : List (Option Verdict))
    (o : Seen K) (os rest : List (Seen K)) → new ≡ old ++ row ∷ [] → row ≡ first_row ways words ats said o → count ≡ length (spelled o)
    → next ≡ drop count words → left ≡ drop 1 ats → after ≡ drop 1 said → os ≡ o ∷ rest → old ++ rows_judged ways words ats said os ≡ all → new ++ rows_judged ways next left after rest ≡ all
judged-more ways old new all row words next count ats left said after o os rest pushed is_row is_count is_next is_left is_after is_os before =
    let same : row ∷ rows_judged ways next left after rest ≡ rows_judged ways words ats said os = rw (is_os, is_row, is_next, is_left, is_after, is_count) refl in
    ap (λ rows. rows ++ rows_judged ways next left after rest) pushed
    ∙ append_assoc old (row ∷ []) (rows_judged ways next left after rest)
    ∙ ap (λ rows. old ++ rows) same
    ∙ before

-- ---- lists

pub same-list : (a there : Destination) → is_list there ≡ true → ghosts.eq a there ≡ true → is_list a ≡ true
same-list a there l e = grind arith

pub other-list : (a there : Destination) → is_list there ≡ true → is_list a ≡ false → ghosts.eq a there ≡ false
other-list a there l n = elim (ghosts.eq a there) as (λ b. ghosts.eq a there ≡ b → b ≡ false) [
  | true ↦ λ e. absurd (let no = same-list a there l e in cc)
  | false ↦ λ e. refl
] refl

printed-list : (a : Destination) (origin : Origin) (words : List (List ℕ)) → is_list a ≡ true → printed_at a origin words ≡ flat_map (handed origin) words
printed-list a origin words e = ap (λ b. cond b (flat_map (handed origin) words) []) e

-- words of the given line are unchanged
pub given-words : (words : List (List ℕ)) → flat_map (handed origins.Given) words ≡ words
given-words words = flat_map_single (λ word. word) words ∙ map-id words

module _ {K : Type 0} (p q : Seen K → Bool) (same : (o : Seen K) → p o ≡ q o) where
  filter-same : (os : List (Seen K)) → filter p os ≡ filter q os
  filter-same [] = refl
  filter-same (o ∷ os) = ap (λ b. cond b (o ∷ filter p os) (filter p os)) (same o) ∙ ap (λ rest. cond (q o) (o ∷ rest) rest) (filter-same os)

  pub list-same : (side : List ℕ → NormalizedDisposition) (os : List (Seen K)) → list side p os ≡ list side q os
  list-same side os = ap (flat_map (spelled_on side)) (filter-same os)

nothing : {K : Type 0} (side : List ℕ → NormalizedDisposition) (os : List (Seen K)) → list side (λ o. false) os ≡ []
nothing side [] = refl
nothing side (o ∷ os) = nothing side os

-- ---- the rows of options

module _ {K : Type 0} (ways : Ways K) where
  -- the words of the options with this destination
  abbrev pub listed : Destination → List (Seen K) → List (List ℕ)
  listed there os = flat_map (handed ways.origin) (list ways.side (λ o. ghosts.eq (ways.goes o) there) os)

  -- no option has this destination
  pub none-listed : (there : Destination) → ((o : Seen K) → ghosts.eq (ways.goes o) there ≡ false) → (os : List (Seen K)) → listed there os ≡ []
  none-listed there none os = ap (flat_map (handed ways.origin)) (list-same (λ o. ghosts.eq (ways.goes o) there) (λ o. false) none ways.side os ∙ nothing ways.side os)

  module _ (there : Destination) (lists : is_list there ≡ true) where
    one-more : (words : List (List ℕ)) (at : Option ℕ) (said : Option Verdict) → said ≡ None → (o : Seen K) (rows : List Told) (os : List (Seen K)) → words_to there rows ≡ listed there os
        → words_to there (row_of ways words at said o ∷ rows) ≡ listed there (o ∷ os)
    one-more words at None e o rows os rest = elim (ghosts.eq (ways.goes o) there) as (λ b. ghosts.eq (ways.goes o) there ≡ b →
        flat_map (λ row. row.printed) (cond b (row_of ways words at None o ∷ filter (λ row. ghosts.eq row.destination there) rows) (filter (λ row. ghosts.eq row.destination there) rows))
        ≡ flat_map (handed ways.origin) (flat_map (spelled_on ways.side) (cond b (o ∷ filter (λ o. ghosts.eq (ways.goes o) there) os) (filter (λ o. ghosts.eq (ways.goes o) there) os)))) [
          | true ↦ λ is. ap (λ ws. ws ++ words_to there rows) (printed-list (ways.goes o) ways.origin (spelled_on ways.side o) (same-list (ways.goes o) there lists is))
              ∙ ap (λ ws. flat_map (handed ways.origin) (spelled_on ways.side o) ++ ws) rest
              ∙ sym (flat_map-append (handed ways.origin) (spelled_on ways.side o) (list ways.side (λ o. ghosts.eq (ways.goes o) there) os))
          | false ↦ λ is. rest
        ] refl
    one-more words at (Some v) e o rows os rest = absurd (cc)

    -- if no option is refused
    words-judged : (said : List (Option Verdict)) (os : List (Seen K)) (words : List (List ℕ)) (ats : List (Option ℕ)) → length said ≡ length os → first_some said ≡ None
        → words_to there (rows_judged ways words ats said os) ≡ listed there os
    words-judged [] [] words ats n e = refl
    words-judged [] (o ∷ os) words ats n e = absurd (omega (arith, n))
    words-judged (s ∷ ss) [] words ats n e = absurd (omega (arith, n))
    words-judged (s ∷ ss) (o ∷ os) words ats n e =
        let count = length (spelled o) in
        let both = option_or-none s (first_some ss) e in
        one-more (take count words) (first_at ats) s both.0 o (rows_judged ways (drop count words) (drop 1 ats) ss os) os
        (words-judged ss os (drop count words) (drop 1 ats) (omega (arith, n)) both.1)

  -- the first refusal of the rows is the first of the refusals
  refused-first : (said : List (Option Verdict)) (os : List (Seen K)) (words : List (List ℕ)) (ats : List (Option ℕ)) → length said ≡ length os → first_refusal (rows_judged ways words ats said os) ≡ first_some said
  refused-first [] [] words ats n = refl
  refused-first [] (o ∷ os) words ats n = absurd (omega (arith, n))
  refused-first (s ∷ ss) [] words ats n = absurd (omega (arith, n))
  refused-first (s ∷ ss) (o ∷ os) words ats n = ap (option_or s) (refused-first ss os (drop (length (spelled o)) words) (drop 1 ats) (omega (arith, n)))

-- ---- the rows of a line

end-refused : {K : Type 0} (name : K → List ℕ) (origin : Origin) (end : Option (Dangled K)) → first_refusal (row_end name origin end) ≡ option_map (λ d. argument_parse) end
end-refused name origin None = refl
end-refused name origin (Some d) = refl

no-end : {K : Type 0} (name : K → List ℕ) (origin : Origin) (end : Option (Dangled K)) → option_map (λ d. argument_parse) end ≡ None → row_end name origin end ≡ []
no-end name origin None e = refl
no-end name origin (Some d) e = absurd (cc)

-- a line with a refusal, or none, for each option
module _ {K : Type 0} (ways : Ways K) (l : LineRead K) (whole : length l.line.refusals ≡ length l.line.options) where
  abbrev judged : List Told
  judged = rows_judged ways l.words l.line.ats l.line.refusals l.line.options

  abbrev last_row : List Told
  last_row = row_end ways.name ways.origin l.line.dangling

  -- the first refusal of the rows is the line's
  pub line-refused : first_refusal (line_rows ways l) ≡ line_refusal l.line
  line-refused =
      first_refusal-append judged last_row
      ∙ ap (λ v. option_or v (first_refusal last_row)) (refused-first ways l.line.refusals l.line.options l.words l.line.ats whole)
      ∙ ap (option_or (first_some l.line.refusals)) (end-refused ways.name ways.origin l.line.dangling)

  -- if the line is not refused, its rows make its lists
  pub line-listed : (there : Destination) → is_list there ≡ true → line_refusal l.line ≡ None → words_to there (line_rows ways l) ≡ listed ways there l.line.options
  line-listed there lists e =
      let both = option_or-none (first_some l.line.refusals) (option_map (λ d. argument_parse) l.line.dangling) e in
      words_to-append there judged last_row
      ∙ ap (λ rows. words_to there judged ++ words_to there rows) (no-end ways.name ways.origin l.line.dangling both.1)
      ∙ append-nil (words_to there judged)
      ∙ words-judged ways there lists l.line.refusals l.line.options l.words l.line.ats whole both.0

said-count : {K : Type 0} (verdict : List (Seen K) → Seen K → Option Verdict) (before os : List (Seen K)) → length (refusals_after verdict before os) ≡ length os
said-count verdict before [] = refl
said-count verdict before (o ∷ os) = ap suc (said-count verdict (before ++ o ∷ []) os)

-- a line that was read has a refusal, or none, for each option
pub read-whole : {K : Type 0} (verdict : List (Seen K) → Seen K → Option Verdict) (own : List ℕ → Option (Row K)) (dashes : Bool) (e : ExpandedWords) →
    let l = line_read verdict own dashes e in
    length l.line.refusals ≡ length l.line.options
unfolding line_by
read-whole verdict own dashes e = said-count (refusing_empty own empty_value verdict) [] (map shown (cut own dashes e.words).options)

-- ---- the words that rows were cut from

no-delimiter : {A : Type 0} (d : ℕ) → None ≡ Some d → A
no-delimiter d e = absurd (cc)

-- an option was cut from as many words as it prints
delimited-count : {K : Type 0} (row : Row K) (d : ℕ) (h : ArgDisposition) (words : List (List ℕ)) → delimiter_of h ≡ Some d → words ≡ (row.flag ++ d ∷ []) ∷ [] → length words ≡ length (spelled (shown (with_value row [] h)))
delimited-count row d how.Separated words is e = no-delimiter d is
delimited-count row d (how.CanBeConcatenated x) words is e = no-delimiter d is
delimited-count row d (how.CanBeSeparated x) words is e = ap length e
delimited-count row d (how.Concatenated x) words is e = ap length e

cut-count : {K : Type 0} (c : Cut K) (words : List (List ℕ)) → CutFrom c words → length words ≡ length (spelled (shown c))
cut-count c words (as_printed e) = ap length e
cut-count c words (with_delimiter row d h is delimiter e) = delimited-count row d h words delimiter e ∙ ap (λ o. length (spelled (shown o))) (sym is)

module _ {K : Type 0} (ways : Ways K) where
  judged-given : (cs : List (Cut K)) (words left : List (List ℕ)) (ats : List (Option ℕ)) (said : List (Option Verdict)) → AllCutFrom cs words left
      → words_given (rows_judged ways words ats said (map shown cs)) ++ left ≡ words
  judged-given [] words left ats said e = sym e
  judged-given (c ∷ cs) words left ats said from =
      let n = length (spelled (shown c)) in
      let behind : drop n words ≡ from.1 = ap (drop n) from.2 ∙ ap (λ m. drop m (from.0 ++ from.1)) (sym (cut-count c from.0 from.3)) ∙ drop-append_seam from.0 from.1 in
      let others = rows_judged ways (drop n words) (drop 1 ats) (drop 1 said) (map shown cs) in
      append_assoc (take n words) (words_given others) left
      ∙ ap (λ ws. take n words ++ ws) (judged-given cs (drop n words) left (drop 1 ats) (drop 1 said) (subst (λ ws. AllCutFrom cs ws left) (sym behind) from.4))
      ∙ take-append-drop n words

last-behind : (words : List (List ℕ)) (word : List ℕ) → last (words ++ word ∷ []) ≡ Some word
last-behind words word = last-append words (word ∷ [])

end-given : {K : Type 0} (name : K → List ℕ) (origin : Origin) (own : List ℕ → Option (Row K)) (end : End) (words given left : List (List ℕ)) (ats : List (Option ℕ)) → IsLeftAt own end left → given ++ left ≡ words
    → words_given (row_end name origin (dangled_by own (is_dangling end) words ats)) ≡ left
end-given name origin own clean words given left ats is e = sym is
end-given name origin own dangling words given left ats is e =
    ap (λ o. unwrap_or o [] ∷ []) (ap last (sym e ∙ ap (λ ws. given ++ ws) is.2) ∙ last-behind given is.0.flag) ∙ sym is.2

-- the words that the rows of a line were cut from, in order, are its words
pub line-given : {K : Type 0} (ways : Ways K) (verdict : List (Seen K) → Seen K → Option Verdict) (tables : List (List (Row K))) (dashes : Bool) (e : ExpandedWords)
    → words_given (line_rows ways (line_read verdict (owner_in tables) dashes e)) ≡ e.words
unfolding line_by
line-given ways verdict tables dashes e =
    let own = owner_in tables in
    let c = cut own dashes e.words in
    let os = map shown c.options in
    let from = prints_what_was_cut tables dashes e.words in
    let ats = ats_cut os e.ats in
    let said = refusals_after (refusing_empty own empty_value verdict) [] os in
    let rows = rows_judged ways e.words ats said os in
    let given = judged-given ways c.options e.words from.0 ats said from.1 in
    words_given-append rows (row_end ways.name ways.origin (dangled_by own (is_dangling c.end) e.words e.ats))
    ∙ ap (λ ws. words_given rows ++ ws) (end-given ways.name ways.origin own c.end e.words (words_given rows) from.0 e.ats from.2 given)
    ∙ given
