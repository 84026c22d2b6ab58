-- Batches of requests: each ends with a line `end`, and so does each answer.
use Rattle.std.specs.Prelude.{◌≡◌, ◌<◌, ◌≤◌, ◌^◌, ◌⊎◌, ℕ, Bool, true, false, List, [], ◌∷◌, ◌++◌, length, take, codes, Option, Some, None, IfSome, Result, Ok, Err, Vec, if◌then◌else◌}
use Rattle.std.specs.Fmt.{decimal}
use Rattle.std.specs.List.{flat_map, onto_first}
use Rattle.std.specs.Str.{bytes_eq}
use Rattle.std.specs.Io.KnownBytes.{Appends, Consumes, IsAtEnd}
use Rattle.std.specs.declared.alloc.Global.{Global}
use Rattle.scl_devices.specs.Counts.{one_more}
use Rattle.scl_description.specs.Lines.{line, lines_of}
use Rattle.scl_cl.specs.declared.transfer.ReadError.{ReadError}
use Rattle.scl_cl.specs.declared.transfer.ReadError.TheVariants.{Memory, Device}

-- the lines of each request: those before a line `end`, which the last may lack
abbrev pub requests_of : List (List ℕ) → List (List (List ℕ))
requests_of [] = []
requests_of (text ∷ lines) = if bytes_eq text (codes "end") then [] ∷ requests_of lines else onto_first text (requests_of lines)

-- what is written for a request: a text, or the number of its bad line
abbrev pub told : Result (List ℕ) ℕ → List ℕ
told (Ok text) = text ++ codes "end\n"
told (Err number) = codes "bad-line " ++ decimal number ++ codes "\nend\n"

-- this may be written for the requests, one after the other
abbrev pub AreTold : (List ℕ → Result (List ℕ) ℕ → Type 0) → List (List (List ℕ)) → List ℕ → Type 0
AreTold answers [] written = written ≡ []
AreTold answers (lines ∷ requests) written =
    (said : Result (List ℕ) ℕ) × (rest : List ℕ) × answers (flat_map line lines) said × (written ≡ told said ++ rest) × AreTold answers requests rest

-- ---- a batch that ends early

-- the answers to the first of the requests were written; the requests are those of all bytes, if these are known
pub record AreToldBegun (answers : List ℕ → Result (List ℕ) ℕ → Type 0) (all old new : Option (List ℕ)) : Type 0 where
  pub written : List ℕ
  pub appended : Appends old new written
  pub are_told : IfSome all (λ bytes. (done left : List (List (List ℕ))) × (requests_of (lines_of bytes) ≡ done ++ left) × AreTold answers done written)

-- and a proper prefix of the next answer follows them
pub record AreToldBroken (answers : List ℕ → Result (List ℕ) ℕ → Type 0) (all old new : Option (List ℕ)) : Type 0 where
  pub written : List ℕ
  pub said : Result (List ℕ) ℕ
  pub count : ℕ
  pub is_part : count < length (told said)
  pub appended : Appends old new (written ++ take count (told said))
  pub are_told : IfSome all (λ bytes. (done left : List (List (List ℕ))) × (next : List (List ℕ)) × (requests_of (lines_of bytes) ≡ done ++ next ∷ left)
      × AreTold answers done written × answers (flat_map line next) said)

-- ---- reading line by line

-- what is left: the bytes that were read and do not make a line yet, and those of the reader, if they are known
abbrev pub Stays : (old new : Option (List ℕ)) → (pending pending' : List ℕ) → Type 0
Stays None new pending pending' = Unit {0}
Stays (Some r) None pending pending' = ⊥
Stays (Some r) (Some r') pending pending' = pending ++ r ≡ pending' ++ r'

-- what is left lost a line, with its LF if it has one
abbrev pub LosesLine : (old new : Option (List ℕ)) → (pending pending' text : List ℕ) → Type 0
LosesLine None new pending pending' text = Unit {0}
LosesLine (Some r) None pending pending' text = ⊥
LosesLine (Some r) (Some r') pending pending' text = (lines_of (pending ++ r) ≡ text ∷ lines_of (pending' ++ r')) × (length (pending' ++ r') < length (pending ++ r))

-- nothing was left
abbrev pub HadNone : Option (List ℕ) → List ℕ → Type 0
HadNone None pending = Unit {0}
HadNone (Some r) pending = pending ++ r ≡ []

-- A line was taken; or there was none; or an allocation failed; or a read failed, or the reader had too many bytes.
abbrev pub TakesLine : (old new : Option (List ℕ)) → (pending pending' : List ℕ) → (before after : ℕ) → Result (Option (Vec ℕ Global)) ReadError → Type 0
TakesLine old new pending pending' before after (Ok (Some text)) = LosesLine old new pending pending' text.items × (after ≡ before)
TakesLine old new pending pending' before after (Ok None) = HadNone old pending × IsAtEnd new × (after ≡ before)
TakesLine old new pending pending' before after (Err Memory) = after ≡ before
TakesLine old new pending pending' before after (Err Device) = (after ≡ one_more before) ⊎ (IfSome old (λ r. 2 ^ 40 ≤ length (pending ++ r)) × (after ≡ before))

-- At least one more byte was read; or there were none; or an allocation failed; or the read failed.
abbrev pub ReadsMore : (old new : Option (List ℕ)) → (pending pending' : List ℕ) → (before after : ℕ) → Result Bool ReadError → Type 0
ReadsMore old new pending pending' before after (Ok true) = (bytes : List ℕ) × Consumes old new bytes × (pending' ≡ pending ++ bytes) × (0 < length bytes) × (after ≡ before)
ReadsMore old new pending pending' before after (Ok false) = Stays old new pending pending' × (pending' ≡ pending) × IsAtEnd new × (after ≡ before)
ReadsMore old new pending pending' before after (Err Memory) = after ≡ before
ReadsMore old new pending pending' before after (Err Device) = after ≡ one_more before
