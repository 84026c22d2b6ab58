-- What definitions say of a finished list of options: filters, last ones, lists of words, the first verdict.
use Rattle.std.specs.Prelude.{ℕ, ◌==◌, ◌||◌, Vec, Bool, true, false, List, [], ◌∷◌, ◌++◌, map, filter, length, nat_eq, Option, None, Some, Result, Ok, Err, if◌then◌else◌}
use Rattle.std.specs.List.{flat_map, list_any}
use Rattle.std.specs.Option.{option_map, option_or}
use Rattle.std.specs.Str.{bytes_eq}
use Rattle.std.specs.declared.alloc.Global.{Global}
use Rattle.scl_values.specs.declared.argument.ArgDisposition.TheVariants as how
use Rattle.scl_values.specs.declared.argument.Argument.{Argument}
use Rattle.scl_values.specs.declared.argument.NormalizedDisposition.{NormalizedDisposition}
use Rattle.scl_values.specs.declared.argument.NormalizedDisposition.TheVariants as side
use Rattle.scl_values.specs.Cuts.{mark}
use Rattle.scl_values.specs.Seen.{Seen, Raw, Unknown, Known, seen, flag_of, text_of}
use Rattle.scl_values.specs.Spell.{normal_how, spelled}

-- ---- one option

abbrev pub is_raw : {K : Type 0} → Seen K → Bool
is_raw (Raw w) = true
is_raw (Unknown w) = false
is_raw (Known f k v h) = false

-- whether the option is one of a kind that passes the test
abbrev pub is_of : {K : Type 0} → (K → Bool) → Seen K → Bool
is_of p (Raw w) = false
is_of p (Unknown w) = false
is_of p (Known f k v h) = p k

-- whether the option is of one of the kinds
abbrev pub of_kinds : {K : Type 0} → (K → K → Bool) → List K → Seen K → Bool
of_kinds same kinds o = is_of (λ k. list_any (λ other. same other k) kinds) o

abbrev pub begins_with_at : List ℕ → Bool
begins_with_at [] = false
begins_with_at (byte ∷ bytes) = byte == 64

-- whether the value begins with @ and was a word of its own, or could have been
abbrev pub names_file : {K : Type 0} → Seen K → Bool
names_file (Raw w) = false
names_file (Unknown w) = false
names_file (Known f k v None) = false
names_file (Known f k v (Some (how.Concatenated d))) = false
names_file (Known f k v (Some how.Separated)) = begins_with_at v
names_file (Known f k v (Some (how.CanBeConcatenated d))) = begins_with_at v
names_file (Known f k v (Some (how.CanBeSeparated d))) = begins_with_at v

-- whether the option is the raw word --
abbrev pub is_dashes : {K : Type 0} → Seen K → Bool
is_dashes (Raw w) = bytes_eq w mark
is_dashes (Unknown w) = false
is_dashes (Known f k v h) = false

-- `--`, if the input is after it
abbrev pub dash_words : Bool → List (List ℕ)
dash_words true = mark ∷ []
dash_words false = []

-- the option with its value on the side of its flag, if its row allows both
abbrev pub normal_on : {K : Type 0} → (List ℕ → NormalizedDisposition) → Seen K → Seen K
normal_on to (Raw w) = Raw w
normal_on to (Unknown w) = Unknown w
normal_on to (Known f k v None) = Known f k v None
normal_on to (Known f k v (Some d)) = Known f k v (Some (normal_how (to f) d))

-- a flag of two bytes is joined to its value, any other is apart
abbrev pub side_of_flag : List ℕ → NormalizedDisposition
side_of_flag flag = if nat_eq (length flag) 2 then side.Concatenated else side.Separated

-- the words of an option on the side of its flag
abbrev pub spelled_on : {K : Type 0} → (List ℕ → NormalizedDisposition) → Seen K → List (List ℕ)
spelled_on to o = spelled (normal_on to o)

-- ---- all options

abbrev pub last : {A : Type 0} → List A → Option A
last [] = None
last (x ∷ xs) = option_or (last xs) (Some x)

-- of the options that pass the test, the last
abbrev pub last_by : {K : Type 0} → (Seen K → Bool) → List (Seen K) → Option (Seen K)
last_by p os = last (filter p os)

-- the flag of the last option that passes the test
abbrev pub last_flag : {K : Type 0} → (Seen K → Bool) → List (Seen K) → Option (List ℕ)
last_flag p os = option_map flag_of (last_by p os)

-- the text of the last option that passes the test
abbrev pub last_text : {K : Type 0} → (Seen K → Bool) → List (Seen K) → Option (List ℕ)
last_text p os = option_map text_of (last_by p os)

-- the texts of the options that pass the test, in order
abbrev pub texts : {K : Type 0} → (Seen K → Bool) → List (Seen K) → List (List ℕ)
texts p os = map text_of (filter p os)

-- the words of the options that pass the test, in order, each on the side of its flag
abbrev pub list : {K : Type 0} → (List ℕ → NormalizedDisposition) → (Seen K → Bool) → List (Seen K) → List (List ℕ)
list to p os = flat_map (spelled_on to) (filter p os)

abbrev pub first_is : {A : Type 0} → (A → Bool) → List A → Bool
first_is p [] = false
first_is p (x ∷ xs) = p x

-- whether a raw word -- is before any input
abbrev pub is_behind_dashes : {K : Type 0} → (Seen K → Bool) → List (Seen K) → Bool
is_behind_dashes is_input os = first_is is_dashes (filter (λ o. is_dashes o || is_input o) os)

-- the first verdict in order; an option is judged given those before it
abbrev pub first_verdict : {K V : Type 0} → (List (Seen K) → Seen K → Option V) → List (Seen K) → List (Seen K) → Option V
first_verdict verdict before [] = None
first_verdict verdict before (o ∷ os) = option_or (verdict before o) (first_verdict verdict (before ++ o ∷ []) os)

-- ---- tests in their order

infixl 10 ◌>>=◌
abbrev pub ◌>>=◌ : {A B V : Type 0} → Result A V → (A → Result B V) → Result B V
(Ok x) >>= f = f x
(Err v) >>= f = Err v

-- goes on if there is no verdict
abbrev pub unless : {A V : Type 0} → Option V → Result A V → Result A V
unless None rest = rest
unless (Some v) rest = Err v

-- the options, if none is refused and the last flag has its value
abbrev pub judged : {K V : Type 0} → (List (Seen K) → Seen K → Option V) → V → List (Seen K) → Bool → Result (List (Seen K)) V
judged verdict dangling os dangles = unless (first_verdict verdict [] os) (if dangles then Err dangling else Ok os)

-- ---- what the code gives, as definitions see it

abbrev pub all_seen : {T K : Type 0} → (T → K) → (T → List ℕ) → Vec (Argument T) Global → List (Seen K)
all_seen kind_of word_of options = map (seen kind_of word_of) options.items
