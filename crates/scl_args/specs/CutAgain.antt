-- What follows for words that are printed and cut again.
use Rattle.std.specs.Prelude.{◌≡◌, ℕ, Bool, true, false, List, ◌++◌, map, filter, Option, Ok, ◌↔◌}
use Rattle.scl_values.specs.declared.argument.NormalizedDisposition.{NormalizedDisposition}
use Rattle.scl_values.specs.Row.{Row}
use Rattle.scl_values.specs.Tables.{is_table, owner_in}
use Rattle.scl_values.specs.Cuts.{Cut, raw, is_dangling, cut}
use Rattle.scl_args.specs.Empties.{has_empty_value, refusing_empty}
use Rattle.scl_values.specs.Seen.{Seen, shown, plain_seen}
use Rattle.scl_args.specs.Options.{judged, list}
use Rattle.scl_values.specs.Each.{Each}
use Rattle.scl_args.specs.Reads.{Reads}
use Rattle.scl_args.specs.Checks.{PassChecks, is_last, next_is_clear}
use Rattle.scl_args.specs.Origins.{AllCame, BeginsWithMark, HasNoOwner, IsClear, IsKept, PrintsOwned}

-- each option of a cutting came from a word that its row owns, or from a word without an owner, up to the mark; the mark and
-- what follows are raw
abbrev pub OptionsCame : Type 0 → Type 0
OptionsCame K = (tables : List (List (Row K))) (dashes : Bool) (words : List (List ℕ)) → AllCame (owner_in tables) dashes (cut (owner_in tables) dashes words).options

-- an unknown word has no owner, nor has a raw one before the mark
abbrev pub RawAndUnknownWordsHaveNoOwner : Type 0 → Type 0
RawAndUnknownWordsHaveNoOwner K = (tables : List (List (Row K))) (dashes : Bool) (words : List (List ℕ)) →
    (unmarked : List (Cut K)) × (marked : List (List ℕ)) × ((cut (owner_in tables) dashes words).options ≡ unmarked ++ map raw marked)
    × BeginsWithMark dashes marked × Each (HasNoOwner (owner_in tables)) unmarked

-- an option of a cutting is seen to have an empty value of an either row exactly if it has one
abbrev pub EmptyValuesAreSeen : Type 0 → Type 0
EmptyValuesAreSeen K = (tables : List (List (Row K))) (dashes : Bool) (words : List (List ℕ)) →
    Each (λ c. (has_empty_value (owner_in tables) (shown c) ≡ false) ↔ IsClear c) (cut (owner_in tables) dashes words).options

-- if empty values are refused and no option of a cutting is, the options are clear
abbrev pub JudgedAreClear : Type 0 → Type 0 → Type 0
JudgedAreClear K V = (tables : List (List (Row K))) (dashes : Bool) (words : List (List ℕ))
    (empty : V) (verdict : List (Seen K) → Seen K → Option V) (dangling : V) (options : List (Seen K)) →
    let c = cut (owner_in tables) dashes words in
    judged (refusing_empty (owner_in tables) empty verdict) dangling (map shown c.options) (is_dangling c.end) ≡ Ok options → Each IsClear c.options

-- in a table, no flag extends a flag if the next greater one does not
abbrev pub NextFlagSuffices : Type 0 → Type 0
NextFlagSuffices K = (rows : List (Row K)) → is_table rows ≡ true → (f : List ℕ) → next_is_clear f rows ≡ true → is_last f rows ≡ true

-- by tables that pass both checks, the first word that an option of a cutting prints is owned by the option's row; it is the
-- flag if the value is printed apart
abbrev pub PrintedWordsHaveTheirOwner : Type 0 → Type 0
PrintedWordsHaveTheirOwner K = (tables : List (List (Row K))) (dashes : Bool) (kept : K → Bool) (to : List ℕ → NormalizedDisposition) → PassChecks tables kept to →
    (words : List (List ℕ)) →
    let options = (cut (owner_in tables) dashes words).options in
    Each IsClear options → Each (λ c. IsKept dashes kept c → PrintsOwned (owner_in tables) dashes to c) options

-- by tables that pass both checks, a list of options of a cutting, printed, is cut into those options again, whatever words follow
abbrev pub PrintsAgain : Type 0 → Type 0
PrintsAgain K = (tables : List (List (Row K))) (dashes : Bool) (kept : K → Bool) (to : List ℕ → NormalizedDisposition) → PassChecks tables kept to →
    (words : List (List ℕ)) (p : Seen K → Bool) →
    let options = (cut (owner_in tables) dashes words).options in
    Each IsClear options → Each (λ c. p (shown c) ≡ true → IsKept dashes kept c) options →
    Reads (owner_in tables) dashes (list to p (map shown options)) (map plain_seen (filter p (map shown options)))
