-- What follows from the definitions of tables, cutting and printing, in the terms of the subject.
use Rattle.std.specs.Prelude.{◌≡◌, ℕ, ◌*◌, ◌+◌, ◌^◌, ◌<◌, ◌≤◌, Bool, true, false, List, [], ◌∷◌, ◌++◌, length, map, IsPermutation, slice_index_or, Option, Some, MatchOption, ◌⊎◌, ◌↔◌}
use Rattle.std.specs.Cmp.Lexicographic.{slice_cmp}
use Rattle.std.specs.List.{flat_map}
use Rattle.std.specs.Option.{option_map}
use Rattle.std.specs.Ordering.{nat_cmp}
use Rattle.std.specs.declared.cmp.Ordering.TheVariants.{Less}
use Rattle.scl_values.specs.declared.argument.Argument.{Argument}
use Rattle.scl_values.specs.declared.argument.NormalizedDisposition.{NormalizedDisposition}
use Rattle.scl_values.specs.Row.{Row, fits}
use Rattle.scl_values.specs.Tables.{is_table, longer, owner, owner_in, all_rows}
use Rattle.scl_tables.specs.Probes.{bits, looks_in}
use Rattle.scl_values.specs.Cuts.{Cutting, cut}
use Rattle.scl_cutting.specs.Relation.{CutsInto}
use Rattle.scl_values.specs.Seen.{Seen, seen}
use Rattle.scl_values.specs.Spell.{spelled}
use Rattle.scl_values.specs.Texts.{items_shown, word_shown}
use Rattle.scl_args.specs.Options.{normal_on}
use Rattle.scl_args.specs.Printed.{AllCutFrom, IsLeftAt}
use Rattle.scl_values.specs.Each.{Each, Has}

-- ---- tables and owners

-- the flags of a table rise strictly by bytes
abbrev pub FlagsRise : Type 0 → Type 0
FlagsRise K = (rows : List (Row K)) → is_table rows ≡ true → (i j : ℕ) (other : Row K) → i < j → j < length rows
    → slice_cmp nat_cmp (slice_index_or rows i other).flag (slice_index_or rows j other).flag ≡ Less

-- the row fits the word, and no fitting row has a longer flag
pub record IsLongestFit {K : Type 0} (rows : List (Row K)) (word : List ℕ) (row : Row K) : Type 0 where
  pub is_row : Has rows row
  pub fits_word : fits row word ≡ true
  pub none_longer : (other : Row K) → Has rows other → fits other word ≡ true → length other.flag ≤ length row.flag

-- an owner is a longest fit, and there is none only if no row fits
abbrev pub OwnerIsLongestFit : Type 0 → Type 0
OwnerIsLongestFit K = (rows : List (Row K)) (word : List ℕ) → MatchOption (owner rows word) ((row : Row K) → Has rows row → fits row word ≡ false) (IsLongestFit rows word)

-- in a table, two rows that fit a word and have equally long flags are the same row
abbrev pub FitsAreUnique : Type 0 → Type 0
FitsAreUnique K = (rows : List (Row K)) → is_table rows ≡ true → (word : List ℕ) (row other : Row K) → Has rows row → Has rows other
    → fits row word ≡ true → fits other word ≡ true → length row.flag ≡ length other.flag → row ≡ other

-- in a table, a longest fit is the owner
abbrev pub LongestFitOwns : Type 0 → Type 0
LongestFitOwns K = (rows : List (Row K)) → is_table rows ≡ true → (word : List ℕ) (row : Row K) → IsLongestFit rows word row → owner rows word ≡ Some row

-- in a table, the last row that fits a word is its owner
abbrev pub LastFitOwns : Type 0 → Type 0
LastFitOwns K = (before after : List (Row K)) (row : Row K) (word : List ℕ) → is_table (before ++ row ∷ after) ≡ true
    → fits row word ≡ true → Each (λ later. fits later word ≡ false) after → owner (before ++ row ∷ after) word ≡ Some row

-- the owner in several tables is the owner in one list of all their rows
abbrev pub OwnerIsOfAllRows : Type 0 → Type 0
OwnerIsOfAllRows K = (tables : List (List (Row K))) (word : List ℕ) → owner_in tables word ≡ owner (all_rows tables) word

-- of several tables the owner is that of the last table whose owner has the longest flag
abbrev pub LastTableWins : Type 0 → Type 0
LastTableWins K = (earlier later : List (List (Row K))) (rows : List (Row K)) (word : List ℕ) (row : Row K) → owner rows word ≡ Some row
    → Each (λ table. (other : Row K) → owner table word ≡ Some other → length other.flag ≤ length row.flag) earlier
    → Each (λ table. (other : Row K) → owner table word ≡ Some other → length other.flag < length row.flag) later
    → owner_in (earlier ++ rows ∷ later) word ≡ Some row

-- with one more member, the owner is the longer of the one before and the member's; of equally long ones the member's; the
-- bounds on looks add up
abbrev pub LastMemberWins : Type 0 → Type 0 → Type 0
LastMemberWins K S = (tables_of : S → List (List (Row K))) (members : List S) (member : S) (word : List ℕ) →
    let before = flat_map tables_of members in
    let after = flat_map tables_of (members ++ member ∷ []) in
    (owner_in after word ≡ longer (owner_in before word) (owner_in (tables_of member) word)) × (looks_in after word ≡ looks_in before word + looks_in (tables_of member) word)

-- rows of the tables that have the same flag are the same row
abbrev pub ShareNoFlag : {K : Type 0} → List (List (Row K)) → Type 0
ShareNoFlag {K = K} tables = (row other : Row K) → Has (all_rows tables) row → Has (all_rows tables) other → row.flag ≡ other.flag → row ≡ other

-- tables in another order give owners with the same flag, and the same owner if no two rows share a flag
abbrev pub OrderCountsOnTies : Type 0 → Type 0
OrderCountsOnTies K = (tables others : List (List (Row K))) (word : List ℕ) → IsPermutation tables others →
    (option_map (λ row. row.flag) (owner_in tables word) ≡ option_map (λ row. row.flag) (owner_in others word)) × (ShareNoFlag tables → owner_in tables word ≡ owner_in others word)

-- ---- the limit on looks

-- the number of binary digits of n: enough for n, and no more
abbrev pub CountsDigits : Type 0
CountsDigits = (n : ℕ) → (n < 2 ^ bits n) × (0 < n → 2 ^ bits n ≤ 2 * n)

-- the bounds of several tables add up
abbrev pub LooksAddUp : Type 0 → Type 0
LooksAddUp K = (tables others : List (List (Row K))) (word : List ℕ) → looks_in (tables ++ others) word ≡ looks_in tables word + looks_in others word

-- ---- cutting and printing

-- words are cut into options by the cases of their first words, and in no other way
abbrev pub CutsByCases : Type 0 → Type 0
CutsByCases K = (own : List ℕ → Option (Row K)) (dashes : Bool) (words : List (List ℕ)) (cutting : Cutting K)
    → CutsInto own dashes words cutting.options cutting.end ↔ (cut own dashes words ≡ cutting)

-- options print the words that they were cut from, except a delimiter with nothing after it
abbrev pub PrintsWhatWasCut : Type 0 → Type 0
PrintsWhatWasCut K = (tables : List (List (Row K))) (dashes : Bool) (words : List (List ℕ)) →
    let cutting = cut (owner_in tables) dashes words in
    (left : List (List ℕ)) × AllCutFrom cutting.options words left × IsLeftAt (owner_in tables) cutting.end left

-- an option prints one word or two
abbrev pub PrintsOneOrTwo : Type 0 → Type 0
PrintsOneOrTwo K = (option : Seen K) → (length (spelled option) ≡ 1) ⊎ (length (spelled option) ≡ 2)

-- the texts of an option are its words, if each path's text is its word
abbrev pub TextsAreWords : Type 0 → Type 0 → Type 0
TextsAreWords K T = (is_path : T → Bool) (kind_of : T → K) (word_of : T → List ℕ) (option : Argument T) →
    map word_shown (items_shown (seen is_path word_of option)) ≡ spelled (seen kind_of word_of option)

-- an option that was moved to a side stays there, whatever side it is moved to
abbrev pub StaysOnItsSide : Type 0 → Type 0
StaysOnItsSide K = (side other : List ℕ → NormalizedDisposition) (option : Seen K) → normal_on other (normal_on side option) ≡ normal_on side option
