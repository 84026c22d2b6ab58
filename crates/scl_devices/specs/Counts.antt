-- A device, the number of its calls, and the number of those that failed.
use Rattle.std.specs.Prelude.{ℕ, ◌+◌, ◌-◌, ◌^◌, min, Result, Ok, Err, nat_eq, not, ◌&&◌, if◌then◌else◌}

-- the device, its calls, and its failed calls
pub record Counting (D : Type 0) : Type 0 where
  pub device : D
  pub calls : ℕ
  pub failed : ℕ

-- one more, up to the greatest value of the count
abbrev pub one_more : ℕ → ℕ
one_more n = min (n + 1) (2 ^ 64 - 1)

-- n more, up to that value
abbrev pub many_more : ℕ → ℕ → ℕ
many_more k n = min (n + k) (2 ^ 64 - 1)

-- the count after a read with this result
abbrev pub read_failures : {E : Type 0} → Result ℕ E → ℕ → ℕ
read_failures (Ok n) failed = failed
read_failures (Err e) failed = one_more failed

-- the count after a write of n bytes with this result: taking 0 bytes of a text that is not empty is a failure
abbrev pub write_failures : {E : Type 0} → Result ℕ E → ℕ → ℕ → ℕ
write_failures (Ok n) len failed = if nat_eq n 0 && not (nat_eq len 0) then one_more failed else failed
write_failures (Err e) len failed = one_more failed
