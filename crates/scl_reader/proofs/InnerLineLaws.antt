-- Clang's inner command lines have at most n words.
use Rattle.std.proofs.Common.{◌≡◌, ℕ, ◌≤◌, suc, Bool, true, false, cond, List, [], ◌∷◌, length, map, filter, Option, None, Some, Ok, sym, subst, arith}
use Rattle.std.proofs.lemmas.Bool.{leb-true, le-leb}
use Rattle.std.proofs.lemmas.List.{length-map}
use Rattle.scl_values.specs.Cuts.{Cut, raw, with_value, clean, Cutting, whole, needs_value, ends_options, piece_of, is_dangling, last_piece, before, all_raw, cut}
use Rattle.scl_values.specs.Row.{Row}
use Rattle.scl_values.specs.Seen.{Seen, shown, text_of}
use Rattle.scl_values.specs.Tables.{owner_in}
use Rattle.scl_values.specs.declared.argument.ArgDisposition.{ArgDisposition}
use Rattle.scl_args.specs.Empties.{refusing_empty}
use Rattle.scl_args.specs.Options.{first_verdict, texts}
use Rattle.scl_args.proofs.EmptyLaws.{judged-else}
use Rattle.scl_args.proofs.OutcomeLaws.{judged-ok, unless-none}
use Rattle.scl_files.specs.Expand.{expand}
use Rattle.std.specs.Prelude.{nat_le}
use Rattle.scl_files.specs.declared.expand.ExpansionKind.TheVariants as expansions
use Rattle.scl_text.specs.Reasons.{argument_parse, empty_value}
use Rattle.scl_gnu_reading.specs.ClangRows.{clang_tables}
use Rattle.scl_gnu_reading.specs.Kinds.{of}
use Rattle.scl_gnu_reading.specs.Verdicts.{verdict}
use Rattle.scl_gnu_reading.specs.declared.gcc.data.Kind.{Kind}
use Rattle.scl_gnu_reading.specs.declared.gcc.data.Kind.TheVariants as kind
use Rattle.scl_reader.specs.CommandLines.{Request}
use Rattle.scl_reader.specs.Within.{clang_options, handed_on, ClangInnerIsWithin}
use Rattle.scl_reader.proofs.GnuQuestionLaws.{clang-apart, handed-none, none-named, stand}

-- ---- options are no more than words

module _ {K : Type 0} (own : List ℕ → Option (Row K)) (dashes : Bool) where
  abbrev raw_word : List ℕ → Cut K
  raw_word word = raw word

  last-few : (row : Row K) (last : Option ArgDisposition) → length (last_piece row last).options ≤ 1
  last-few row None = omega arith
  last-few row (Some d) = omega arith

  options-few : (words : List (List ℕ)) → length (cut own dashes words).options ≤ length words
  options-few [] = omega arith
  options-few (word ∷ []) = elim (piece_of own dashes word) as (λ p. (let x : Cutting K = elim p [
    | whole c ↦ record { options = c ∷ []; end = clean }
    | needs_value row d last ↦ last_piece row last
    | ends_options ↦ all_raw (word ∷ [])
  ] in length x.options ≤ 1)) [
    | whole c ↦ omega arith
    | needs_value row d last ↦ last-few row last
    | ends_options ↦ omega arith
  ]
  options-few (word ∷ (next ∷ words)) = elim (piece_of own dashes word) as (λ p. (let x : Cutting K = elim p [
    | whole c ↦ before c (cut own dashes (next ∷ words))
    | needs_value row d last ↦ before (with_value row next d) (cut own dashes words)
    | ends_options ↦ all_raw (word ∷ (next ∷ words))
  ] in length x.options ≤ suc (suc (length words)))) [
    | whole c ↦ let few = options-few (next ∷ words) in omega arith
    | needs_value row d last ↦ let few = options-few words in omega arith
    | ends_options ↦ let same : length (map raw_word words) ≡ length words = length-map words raw_word in omega arith
  ]

filter-few : {A : Type 0} (p : A → Bool) (xs : List A) → length (filter p xs) ≤ length xs
filter-few p [] = omega arith
filter-few p (x ∷ xs) = elim (p x) as (λ b. length (cond b (x ∷ filter p xs) (filter p xs)) ≤ suc (length xs)) [
  | true ↦ let few = filter-few p xs in omega arith
  | false ↦ let few = filter-few p xs in omega arith
]

texts-few : {K : Type 0} (own : List ℕ → Option (Row K)) (dashes : Bool) (p : Seen K → Bool) (words : List (List ℕ)) → length (texts p (map shown (cut own dashes words).options)) ≤ length words
texts-few own dashes p words =
    let c = cut own dashes words in
    let few : length c.options ≤ length words = options-few own dashes words in
    let passed : length (filter p (map shown c.options)) ≤ length (map shown c.options) = filter-few p (map shown c.options) in
    let seen : length (map shown c.options) ≡ length c.options = length-map c.options shown in
    let said : length (map text_of (filter p (map shown c.options))) ≡ length (filter p (map shown c.options)) = length-map (filter p (map shown c.options)) text_of in
    omega arith

-- ---- the inner command line

within-fewer : (most : ℕ) (words others : List (List ℕ)) → length others ≤ length words → nat_le (length words) most ≡ true → nat_le (length others) most ≡ true
within-fewer most words others few within =
    let here : length words ≤ most = leb-true (length words) most within in
    le-leb (length others) most (omega arith)

module _ (most : ℕ) (request : Request) where
  abbrev words : List (List ℕ)
  words = expand expansions.Gnu request.directory request.view.files request.words

  abbrev options : List (Seen Kind)
  options = map shown (cut (owner_in clang_tables) true words).options

  judged-within : nat_le (length words) most ≡ true → (xs : List (Seen Kind)) → clang_options request ≡ Ok xs → nat_le (length (handed_on request xs)) most ≡ true
  judged-within within xs e =
      let says = verdict request.view.is_multiarch in
      let dangles = is_dangling (cut (owner_in clang_tables) true words).end in
      let is : options ≡ xs = judged-ok (refusing_empty (owner_in clang_tables) empty_value says) argument_parse options dangles xs e in
      let else_ = judged-else (owner_in clang_tables) empty_value says argument_parse options dangles xs e in
      let named = none-named request.view.is_multiarch [] options (unless-none (first_verdict says [] options) _ xs else_) in
      let handed : List (List ℕ) = texts (of (kind.XClang ∷ [])) options in
      let none = handed-none clang_tables true clang-apart words named in
      let stands : handed_on request options ≡ handed = stand request.directory request.view.files handed none in
      let few : length handed ≤ length words = texts-few (owner_in clang_tables) true (of (kind.XClang ∷ [])) words in
      subst (λ os. nat_le (length (handed_on request os)) most ≡ true) is
      (subst (λ ws. nat_le (length ws) most ≡ true) (sym stands) (within-fewer most words handed few within))

pub clang-inner-within : ClangInnerIsWithin
clang-inner-within most request options driver within e = judged-within most request within options e
