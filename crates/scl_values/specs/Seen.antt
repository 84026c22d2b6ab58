-- Options as readings see them.
use Rattle.std.specs.Prelude.{ℕ, List, [], Option, None, Some}
use Rattle.scl_values.specs.declared.argument.ArgDisposition.{ArgDisposition}
use Rattle.scl_values.specs.declared.argument.Argument.{Argument}
use Rattle.scl_values.specs.declared.argument.Argument.TheVariants as argument
use Rattle.scl_values.specs.Cuts.{Cut}
use Rattle.scl_values.specs.Cuts as cuts

-- An option as readings see it: a raw word, an unknown flag, or a flag with its kind and the word of its value. The last
-- field is the value's disposition; None: the flag takes no value.
pub data Seen (K : Type 0) : Type 0 where
  Raw : List ℕ → Seen K
  Unknown : List ℕ → Seen K
  Known : List ℕ → K → List ℕ → Option ArgDisposition → Seen K

-- an option that was cut, as it is seen
abbrev pub shown : {K : Type 0} → Cut K → Seen K
shown (cuts.raw w) = Raw w
shown (cuts.unknown w) = Unknown w
shown (cuts.flag row) = Known row.flag row.kind [] None
shown (cuts.with_value row v how) = Known row.flag row.kind v (Some how)

-- an option of the program, as it is seen: by the kind and the word of its value
abbrev pub seen : {T K : Type 0} → (T → K) → (T → List ℕ) → Argument T → Seen K
seen kind_of word_of (argument.Raw w) = Raw w.items
seen kind_of word_of (argument.UnknownFlag w) = Unknown w.items
seen kind_of word_of (argument.Flag name value) = Known name.now (kind_of value) (word_of value) None
seen kind_of word_of (argument.WithValue name value how) = Known name.now (kind_of value) (word_of value) (Some how)

-- the flag; empty if there is none
abbrev pub flag_of : {K : Type 0} → Seen K → List ℕ
flag_of (Raw w) = []
flag_of (Unknown w) = []
flag_of (Known f k v h) = f

-- the word of an option without a flag, else the value's word
abbrev pub text_of : {K : Type 0} → Seen K → List ℕ
text_of (Raw w) = w
text_of (Unknown w) = w
text_of (Known f k v h) = v

-- an option without the disposition of its value
pub data Plain (K : Type 0) : Type 0 where
  raw : List ℕ → Plain K
  unknown : List ℕ → Plain K
  flag : List ℕ → K → Plain K
  value : List ℕ → K → List ℕ → Plain K

abbrev pub plain_seen : {K : Type 0} → Seen K → Plain K
plain_seen (Raw w) = raw w
plain_seen (Unknown w) = unknown w
plain_seen (Known f k v None) = flag f k
plain_seen (Known f k v (Some how)) = value f k v

abbrev pub plain : {K : Type 0} → Cut K → Plain K
plain c = plain_seen (shown c)
