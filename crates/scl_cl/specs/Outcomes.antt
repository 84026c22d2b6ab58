-- How a run ends, and what is reported of it.
use Rattle.std.specs.Prelude.{ℕ, List, ◌++◌, codes}
use Rattle.std.specs.Fmt.{decimal}
use Rattle.scl_cl.specs.declared.outcome.Outcome.{Outcome}
use Rattle.scl_cl.specs.declared.outcome.Outcome.TheVariants.{Answered, BadLine, OutOfMemory, ReadFailed, WriteFailed}

-- nothing was written
abbrev pub IsSilent : Outcome → Type 0
IsSilent (BadLine n) = Unit {0}
IsSilent OutOfMemory = Unit {0}
IsSilent ReadFailed = Unit {0}
IsSilent Answered = ⊥
IsSilent WriteFailed = ⊥

-- the request was read to its end
abbrev pub IsJudged : Outcome → Type 0
IsJudged Answered = Unit {0}
IsJudged (BadLine n) = Unit {0}
IsJudged WriteFailed = Unit {0}
IsJudged OutOfMemory = ⊥
IsJudged ReadFailed = ⊥

-- the program's status
abbrev pub status_of : Outcome → ℕ
status_of Answered = 0
status_of (BadLine n) = 2
status_of OutOfMemory = 3
status_of ReadFailed = 4
status_of WriteFailed = 4

-- `answered`, or the program's line on standard error, without its LF
abbrev pub told_of : Outcome → List ℕ
told_of Answered = codes "answered"
told_of (BadLine n) = codes "bad line " ++ decimal n
told_of OutOfMemory = codes "out of memory"
told_of ReadFailed = codes "read failed"
told_of WriteFailed = codes "write failed"
