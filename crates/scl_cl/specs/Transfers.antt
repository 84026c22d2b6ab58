-- What reading to the end leaves.
use Rattle.std.specs.Prelude.{◌≡◌, ℕ, ◌^◌, ◌≤◌, List, length, Option, Result, Ok, Err, Vec, ◌⊎◌}
use Rattle.std.specs.declared.alloc.Global.{Global}
use Rattle.std.specs.Io.KnownBytes.{Consumes, IsAtEnd}
use Rattle.scl_devices.specs.Counts.{Counting, one_more, many_more}
use Rattle.scl_cl.specs.declared.transfer.ReadError.{ReadError}
use Rattle.scl_cl.specs.declared.transfer.ReadError.TheVariants.{Memory, Device}

-- the reader gave at least n bytes
abbrev pub Gave : Option (List ℕ) → Option (List ℕ) → ℕ → Type 0
Gave old new n = (bytes : List ℕ) × Consumes old new bytes × (n ≤ length bytes)

-- All was read; or an allocation failed; or the last read failed, or 2^40 reads gave at least that many bytes. No other read
-- failed.
abbrev pub ReadEnds : {D : Type 0} → Option (List ℕ) → Option (List ℕ) → Counting D → Counting D → Result (Vec ℕ Global) ReadError → Type 0
ReadEnds old new before after (Ok bytes) = Consumes old new bytes.items × IsAtEnd new × (after.failed ≡ before.failed)
ReadEnds old new before after (Err Memory) = after.failed ≡ before.failed
ReadEnds old new before after (Err Device) = (after.failed ≡ one_more before.failed)
    ⊎ (Gave old new (2 ^ 40) × (after.failed ≡ before.failed) × (many_more (2 ^ 40) before.calls ≤ after.calls))
