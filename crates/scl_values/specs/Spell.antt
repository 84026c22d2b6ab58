-- Options whose values are moved to a side, and the words that options print.
use Rattle.std.specs.Prelude.{◌≡◌, ℕ, ◌<◌, List, [], ◌∷◌, ◌++◌, length, Option, None, Some, Result, MatchResult, Vec}
use Rattle.std.specs.declared.alloc.AllocError.{AllocError}
use Rattle.std.specs.declared.alloc.Global.{Global}
use Rattle.scl_values.specs.declared.argument.ArgDisposition.{ArgDisposition}
use Rattle.scl_values.specs.declared.argument.ArgDisposition.TheVariants as how
use Rattle.scl_values.specs.declared.argument.NormalizedDisposition.{NormalizedDisposition}
use Rattle.scl_values.specs.declared.argument.NormalizedDisposition.TheVariants as side
use Rattle.scl_values.specs.declared.argument.Argument.{Argument}
use Rattle.scl_values.specs.declared.argument.Argument.TheVariants as argument
use Rattle.scl_values.specs.Seen.{Seen, Raw, Unknown, Known}

-- the disposition of a value that is moved to this side, if its row allows both
abbrev pub normal_how : NormalizedDisposition → ArgDisposition → ArgDisposition
normal_how s how.Separated = how.Separated
normal_how side.Separated (how.CanBeConcatenated d) = how.Separated
normal_how side.Separated (how.CanBeSeparated d) = how.Separated
normal_how side.Concatenated (how.CanBeConcatenated d) = how.Concatenated d
normal_how side.Concatenated (how.CanBeSeparated d) = how.Concatenated d
normal_how s (how.Concatenated d) = how.Concatenated d

abbrev pub normal : {T : Type 0} → NormalizedDisposition → Argument T → Argument T
normal s (argument.Raw w) = argument.Raw w
normal s (argument.UnknownFlag w) = argument.UnknownFlag w
normal s (argument.Flag name value) = argument.Flag name value
normal s (argument.WithValue name value d) = argument.WithValue name value (normal_how s d)

-- the flag of an option that has one
abbrev pub flag_at : {T : Type 0} → Argument T → Option (List ℕ)
flag_at (argument.Raw w) = None
flag_at (argument.UnknownFlag w) = None
flag_at (argument.Flag name value) = Some name.now
flag_at (argument.WithValue name value d) = Some name.now

-- the value with its kind, if the option has a flag
abbrev pub data_at : {T : Type 0} → Argument T → Option T
data_at (argument.Raw w) = None
data_at (argument.UnknownFlag w) = None
data_at (argument.Flag name value) = Some value
data_at (argument.WithValue name value d) = Some value

-- the flag, or the word of an option without a flag
abbrev pub head_of : {T : Type 0} → Argument T → List ℕ
head_of (argument.Raw w) = w.items
head_of (argument.UnknownFlag w) = w.items
head_of (argument.Flag name value) = name.now
head_of (argument.WithValue name value d) = name.now

-- the value with the delimiter before it; nothing if the value is empty
abbrev pub delimited : Option ℕ → List ℕ → List ℕ
delimited d [] = []
delimited None (x ∷ xs) = x ∷ xs
delimited (Some d) (x ∷ xs) = d ∷ (x ∷ xs)

-- a flag with its value, as words
abbrev pub spell_value : List ℕ → List ℕ → ArgDisposition → List (List ℕ)
spell_value flag value how.Separated = flag ∷ (value ∷ [])
spell_value flag value (how.CanBeConcatenated d) = flag ∷ (value ∷ [])
spell_value flag value (how.CanBeSeparated d) = (flag ++ delimited d value) ∷ []
spell_value flag value (how.Concatenated d) = (flag ++ delimited d value) ∷ []

-- the words of an option
abbrev pub spelled : {K : Type 0} → Seen K → List (List ℕ)
spelled (Raw w) = w ∷ []
spelled (Unknown w) = w ∷ []
spelled (Known f k v None) = f ∷ []
spelled (Known f k v (Some d)) = spell_value f v d

-- a call of `next` gave the first of the words that were left, and left the others; or an allocation failed, and none are
-- left
abbrev pub YieldsWords : {S : Type 0} → (S → List (List ℕ)) → S → Option (Result (Vec ℕ Global) AllocError) → S → Type 0
YieldsWords rest s None t = (rest s ≡ []) × (rest t ≡ [])
YieldsWords rest s (Some item) t = MatchResult item (λ w. rest s ≡ w.items ∷ rest t) (λ _. (0 < length (rest s)) × (rest t ≡ []))
