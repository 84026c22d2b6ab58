-- What a value depends on, and lists of what was asked, for direct mode.
use Rattle.std.specs.Prelude.{◌≡◌, Bool, true, false, not, List, [], ◌++◌, filter}
use Rattle.scl_values.specs.Each.{Each}
use Rattle.scl_lookup.specs.Questions.{Question, env, program, file, bytes, names, real, times, run, Machine}
use Rattle.scl_lookup.specs.Lookups.{Lookup, found, nothing, ask, answers_on, value_on}

-- all that is asked on a machine
abbrev pub asked_on : {A : Type 0} → Machine → Lookup A → List Question
asked_on m (found value) = []
asked_on m nothing = []
asked_on m (ask questions behind) = questions ++ asked_on m (behind (answers_on m questions))

-- both answer each of them alike
abbrev pub Agree : Machine → Machine → List Question → Type 0
Agree v w questions = Each (λ question. v question ≡ w question) questions

-- A value is decided by what was asked for it: where that is as it was, so is the value.
abbrev pub KeysAreDecided : Type 0 → Type 0
KeysAreDecided A = (v w : Machine) (lookup : Lookup A) → Agree v w (asked_on v lookup) → value_on v lookup ≡ value_on w lookup

abbrev pub is_run : Question → Bool
is_run (env name) = false
is_run (program name) = false
is_run (file path) = false
is_run (bytes path) = false
is_run (names path) = false
is_run (real path) = false
is_run (times path) = false
is_run (run language words) = true

-- a list: all that was asked but the runs
abbrev pub beside_runs : List Question → List Question
beside_runs questions = filter (λ question. not (is_run question)) questions

-- What runs write is decided by what was asked beside them. This is what is assumed of preprocessors.
abbrev pub RunsAreDecided : Machine → Machine → List Question → Type 0
RunsAreDecided v w questions = Agree v w (beside_runs questions) → Agree v w questions

-- Where a list holds, the value is that which runs would give.
abbrev pub ListsAreRight : Type 0 → Type 0
ListsAreRight A =
    (v w : Machine) (lookup : Lookup A) → RunsAreDecided v w (asked_on v lookup) → Agree v w (beside_runs (asked_on v lookup)) → value_on v lookup ≡ value_on w lookup
