-- Devices over slices that fail after a set number of calls.
use Rattle.std.specs.Prelude.{◌≡◌, ◌⊎◌, ℕ, ◌-◌, min, List, ◌++◌, length, take, drop}

-- the bytes that are left, the most that a call gives, and the calls that are left
pub record Giving : Type 0 where
  pub bytes : List ℕ
  pub most : ℕ
  pub calls : ℕ

-- no call is left, or a call may give none
abbrev pub Fails : Giving → Type 0
Fails r = (r.calls ≡ 0) ⊎ (r.most ≡ 0)

-- how many bytes a call gives into a buffer of this length
abbrev pub given : Giving → ℕ → ℕ
given r room = min r.most (min (length r.bytes) room)

-- the reader after a call that gave n bytes
abbrev pub after_read : Giving → ℕ → Giving
after_read r n = record r { bytes = drop n r.bytes; calls = r.calls - 1 }

-- the bytes taken, the rest of the slice, the most that a call takes, and the calls that are left
pub record Taking : Type 0 where
  pub bytes : List ℕ
  pub rest : List ℕ
  pub most : ℕ
  pub calls : ℕ

-- how many of n bytes a call takes
abbrev pub taken : Taking → ℕ → ℕ
taken w len = min w.most (min len (length w.rest))

-- the writer after a call that took n of these bytes
abbrev pub after_write : Taking → List ℕ → ℕ → Taking
after_write w buf n = record w { bytes = w.bytes ++ take n buf; rest = drop n w.rest; calls = w.calls - 1 }
