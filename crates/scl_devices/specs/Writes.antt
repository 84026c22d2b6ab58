-- What writing a whole text leaves.
use Rattle.std.specs.Prelude.{◌≡◌, ℕ, ◌<◌, List, length, take, Option, Result, Ok, Err}
use Rattle.std.specs.Io.KnownBytes.{Appends}
use Rattle.scl_devices.specs.Counts.{one_more}
use Rattle.scl_devices.specs.declared.write.WriteFault.{WriteFault}

-- The whole text was written, and no write failed. Or a proper prefix of it was written, whose length is in the fault, and
-- only the last write failed.
abbrev pub WriteEnds : Option (List ℕ) → Option (List ℕ) → ℕ → ℕ → List ℕ → Result (Unit {0}) WriteFault → Type 0
WriteEnds old new before after text (Ok done) = Appends old new text × (after ≡ before)
WriteEnds old new before after text (Err fault) = Appends old new (take fault.written text) × (fault.written < length text) × (after ≡ one_more before)
