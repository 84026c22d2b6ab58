-- The results of the code for a batch.
use Rattle.std.specs.Prelude.{◌≡◌, ◌<◌, ◌≤◌, ◌+◌, ◌^◌, ◌⊎◌, ℕ, true, length, take, drop, List, [], ◌∷◌, ◌++◌, codes, Option, Some, None, IfSome, Result, Ok, Err, Vec}
use Rattle.std.specs.Str.{bytes_eq}
use Rattle.std.specs.Io.KnownBytes.{Appends, IsAtEnd}
use Rattle.std.specs.List.{flat_map, onto_first}
use Rattle.std.specs.declared.alloc.Global.{Global}
use Rattle.scl_devices.specs.Counts.{one_more}
use Rattle.scl_description.specs.Lines.{cut_at, line, lines_of}
use Rattle.scl_cl.specs.Batches.{requests_of, told, AreTold, AreToldBegun, AreToldBroken}
use Rattle.scl_cl.specs.declared.transfer.ReadError.{ReadError}
use Rattle.scl_cl.specs.declared.transfer.ReadError.TheVariants as errors
use Rattle.scl_cl.specs.declared.batch.Pending.{Pending}
use Rattle.scl_cl.specs.declared.batch.Stop.{Stop}
use Rattle.scl_cl.specs.declared.batch.Stop.TheVariants.{Memory, Read, Write}

abbrev pub said_by : Result (Vec ℕ Global) ℕ → Result (List ℕ) ℕ
said_by (Ok text) = Ok text.items
said_by (Err number) = Err number

-- the bytes that do not make a line yet
abbrev pub left_of : Pending → List ℕ
left_of pending = drop pending.begin pending.bytes.items

-- the first line was taken, if it has its LF
abbrev pub IsFirstLine : (left left' : List ℕ) → Option (Vec ℕ Global) → Type 0
IsFirstLine left left' None = (cut_at 10 left ≡ None) × (left' ≡ left)
IsFirstLine left left' (Some text) = cut_at 10 left ≡ Some (text.items, left')

-- the bytes that do not make a line are taken as the last line, if there are any
abbrev pub LastOf : (pending pending' : List ℕ) → Option (Vec ℕ Global) → Type 0
LastOf pending pending' None = pending ≡ []
LastOf pending pending' (Some text) = (text.items ≡ pending) × (pending' ≡ []) × (0 < length pending)

-- a failed read stops a batch
abbrev pub StopsBy : ReadError → Stop → Type 0
StopsBy errors.Memory stop = stop ≡ Memory
StopsBy errors.Device stop = stop ≡ Read

-- a proper prefix of what is written for the request was written
abbrev pub IsToldPart : (Result (List ℕ) ℕ → Type 0) → Option (List ℕ) → Option (List ℕ) → Type 0
IsToldPart answers old new = (said : Result (List ℕ) ℕ) × answers said × (count : ℕ) × (count < length (told said)) × Appends old new (take count (told said))

-- What is written for a request was written; or an allocation failed, and nothing was written; or the writer failed.
abbrev pub IsTold : (Result (List ℕ) ℕ → Type 0) → Option (List ℕ) → Option (List ℕ) → ℕ → ℕ → Result (Unit {0}) Stop → Type 0
IsTold answers old new before after (Ok done) = (said : Result (List ℕ) ℕ) × answers said × Appends old new (told said) × (after ≡ before)
IsTold answers old new before after (Err Memory) = (new ≡ old) × (after ≡ before)
IsTold answers old new before after (Err Read) = ⊥
IsTold answers old new before after (Err Write) = IsToldPart answers old new × (after ≡ one_more before)

-- ---- one line after the other

-- a request's lines so far, before the requests of the lines after them
abbrev pub before_requests : List (List ℕ) → List (List (List ℕ)) → List (List (List ℕ))
before_requests [] requests = requests
before_requests (text ∷ lines) requests = onto_first text (before_requests lines requests)

-- with this line, the lines of the request so far become these; if the request is complete, this was written for it
abbrev pub Steps : (List ℕ → Result (List ℕ) ℕ → Type 0) → (text request request' written : List ℕ) → Type 0
Steps answers text request request' written =
    (so_far : List (List ℕ)) → request ≡ flat_map line so_far → (now : List (List ℕ)) × (request' ≡ flat_map line now) × (done : List (List (List ℕ))) × AreTold answers done written
    × ((lines : List (List ℕ)) → before_requests so_far (requests_of (text ∷ lines)) ≡ done ++ before_requests now (requests_of lines))

-- A line was taken; or an allocation failed, and nothing was written; or the writer failed.
abbrev pub TakesIn : (List ℕ → Result (List ℕ) ℕ → Type 0) → (text request request' : List ℕ) → Option (List ℕ) → Option (List ℕ) → ℕ → ℕ → Result (Unit {0}) Stop → Type 0
TakesIn answers text request request' old new before after (Ok done) = (written : List ℕ) × Steps answers text request request' written × Appends old new written × (after ≡ before)
TakesIn answers text request request' old new before after (Err Memory) = (new ≡ old) × (after ≡ before)
TakesIn answers text request request' old new before after (Err Read) = ⊥
TakesIn answers text request request' old new before after (Err Write) = (bytes_eq text (codes "end") ≡ true) × IsToldPart (answers request) old new × (after ≡ one_more before)

-- the end was reached after these lines of a request
abbrev pub Ends : (List ℕ → Result (List ℕ) ℕ → Type 0) → (request written : List ℕ) → Type 0
Ends answers request written = (so_far : List (List ℕ)) → request ≡ flat_map line so_far → AreTold answers (before_requests so_far []) written

abbrev pub TakesEnd : (List ℕ → Result (List ℕ) ℕ → Type 0) → (request : List ℕ) → Option (List ℕ) → Option (List ℕ) → ℕ → ℕ → Result (Unit {0}) Stop → Type 0
TakesEnd answers request old new before after (Ok done) = (written : List ℕ) × Ends answers request written × Appends old new written × (after ≡ before)
TakesEnd answers request old new before after (Err Memory) = (new ≡ old) × (after ≡ before)
TakesEnd answers request old new before after (Err Read) = ⊥
TakesEnd answers request old new before after (Err Write) = (¬ (request ≡ [])) × IsToldPart (answers request) old new × (after ≡ one_more before)

-- ---- the whole batch

-- of the requests of all bytes the first are done, for which this was written. Left are those of: the lines of the request so
-- far, the bytes that do not make a line yet, and the bytes of the reader
abbrev pub Owes : (List ℕ → Result (List ℕ) ℕ → Type 0) → (all now : Option (List ℕ)) → (pending request written : List ℕ) → Type 0
Owes answers None now pending request written = (so_far : List (List ℕ)) × (request ≡ flat_map line so_far)
Owes answers (Some r0) None pending request written = ⊥
Owes answers (Some r0) (Some r) pending request written = (so_far : List (List ℕ)) × (request ≡ flat_map line so_far)
    × (done : List (List (List ℕ))) × AreTold answers done written × (requests_of (lines_of r0) ≡ done ++ before_requests so_far (requests_of (lines_of (pending ++ r))))

-- n lines were taken of all bytes, each with at least one byte
abbrev pub Fits : (all now : Option (List ℕ)) → (pending : List ℕ) → ℕ → Type 0
Fits None now pending lines = Unit {0}
Fits (Some r0) None pending lines = ⊥
Fits (Some r0) (Some r) pending lines = lines + length (pending ++ r) ≤ length r0

-- all that a batch does, except what was read and answered
pub record Served (answers : List ℕ → Result (List ℕ) ℕ → Type 0) (all now old new : Option (List ℕ)) (pending request : List ℕ) (lines : ℕ) : Type 0 where
  pub written : List ℕ
  pub appended : Appends old new written
  pub owes : Owes answers all now pending request written
  pub fits : Fits all now pending lines

-- All requests were answered; or an allocation failed; or the reader failed; or the writer failed.
abbrev pub BatchEnds : (List ℕ → Result (List ℕ) ℕ → Type 0) → (all now old new : Option (List ℕ)) → (read_before read_after write_before write_after : ℕ) → Result (Unit {0}) Stop → Type 0
BatchEnds answers all now old new rb ra wb wa (Ok done) =
    (written : List ℕ) × Appends old new written × IfSome all (λ bytes. AreTold answers (requests_of (lines_of bytes)) written) × IsAtEnd now × (ra ≡ rb) × (wa ≡ wb)
BatchEnds answers all now old new rb ra wb wa (Err Memory) = AreToldBegun answers all old new × (ra ≡ rb) × (wa ≡ wb)
BatchEnds answers all now old new rb ra wb wa (Err Read) =
    AreToldBegun answers all old new × ((ra ≡ one_more rb) ⊎ (IfSome all (λ bytes. 2 ^ 40 ≤ length bytes) × (ra ≡ rb))) × (wa ≡ wb)
BatchEnds answers all now old new rb ra wb wa (Err Write) = AreToldBroken answers all old new × (ra ≡ rb) × (wa ≡ one_more wb)
