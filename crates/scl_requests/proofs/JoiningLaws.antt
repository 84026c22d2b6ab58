-- Runs that are read line by line, and what is answered of them.
use Rattle.std.proofs.Common.{◌≡◌, ℕ, ◌+◌, ◌<◌, ◌≤◌, ◌==◌, ◌||◌, Bool, true, false, List, [], ◌∷◌, ◌++◌, length, cond, None, Some, Ok, Err, Vec, is_some, ap, sym, ◌∙◌, arith, append_assoc, append-nil}
use Rattle.std.proofs.lemmas.List.{map-append}
use Rattle.std.specs.declared.alloc.Global.{Global}
use Rattle.std.specs.List.{filter_map, cons_option}
use Rattle.scl_description.specs.Lines.{lines_of}
use Rattle.scl_description.specs.Rows.{entries_text}
use Rattle.scl_gnu.specs.Runs.{ArchOutput, Output, arch_output, arch_outputs, join_passes}
use Rattle.scl_text.specs.declared.records.PassOutput.{PassOutput}
use Rattle.scl_requests.specs.Joining.{first_untold, is_told, join_entries, joined, joined_unless, run_of}

-- Of all bytes these are left, behind lines that told these runs; the next line has this number.
pub record Read (all left : List ℕ) (number : ℕ) (runs : List ArchOutput) : Type 0 where
  pub told : runs ++ filter_map run_of (lines_of left) ≡ filter_map run_of (lines_of all)
  pub untold : first_untold number (lines_of left) ≡ first_untold 2 (lines_of all)
  pub counted : number + length left ≤ length all + 2

-- a line was taken
adds_run : (all left rest line : List ℕ) (number : ℕ) (runs runs' : List ArchOutput) (run : ArchOutput) → Read all left number runs → lines_of left ≡ line ∷ lines_of rest → length rest < length left
    → run_of line ≡ Some run → runs' ≡ runs ++ run ∷ [] → Read all rest (number + 1) runs'
adds_run all left rest line number runs runs' run p cut shorter tells adds = record {
  told =
      ap (λ rs. rs ++ filter_map run_of (lines_of rest)) adds
      ∙ append_assoc runs (run ∷ []) (filter_map run_of (lines_of rest))
      ∙ ap (λ o. runs ++ cons_option o (filter_map run_of (lines_of rest))) (sym tells)
      ∙ ap (λ ls. runs ++ filter_map run_of ls) (sym cut) ∙ p.told;
  untold =
      ap (λ o. cond (is_some o || length line == 0) (first_untold (number + 1) (lines_of rest)) (Some number)) (sym tells)
      ∙ ap (first_untold number) (sym cut) ∙ p.untold;
  counted = omega (arith, p.counted);
}

pub goes_on : (all left rest line : List ℕ) (number : ℕ) (runs runs' : List (Vec ℕ Global × PassOutput)) (run : Vec ℕ Global × PassOutput) → Read all left number (arch_outputs runs) → lines_of left ≡ line ∷ lines_of rest
    → length rest < length left → run_of line ≡ Some (arch_output run) → runs' ≡ runs ++ run ∷ [] → Read all rest (number + 1) (arch_outputs runs')
goes_on all left rest line number runs runs' run p cut shorter tells adds =
    adds_run all left rest line number (arch_outputs runs) (arch_outputs runs') (arch_output run) p cut shorter tells (ap arch_outputs adds ∙ map-append arch_output runs (run ∷ []))

told_if : (line : List ℕ) {b : Bool} → run_of line ≡ None → length line == 0 ≡ b → is_told line ≡ b
told_if line tells is = ap (λ o. is_some o || length line == 0) tells ∙ is

-- an empty line was passed
pub goes_on_blank : (all left rest line : List ℕ) (number : ℕ) (runs : List ArchOutput) → Read all left number runs → lines_of left ≡ line ∷ lines_of rest → length rest < length left
    → run_of line ≡ None → length line == 0 ≡ true → Read all rest (number + 1) runs
goes_on_blank all left rest line number runs p cut shorter tells blank = record {
  told =
      ap (λ o. runs ++ cons_option o (filter_map run_of (lines_of rest))) (sym tells)
      ∙ ap (λ ls. runs ++ filter_map run_of ls) (sym cut) ∙ p.told;
  untold =
      ap (λ b. cond b (first_untold (number + 1) (lines_of rest)) (Some number)) (sym (told_if line tells blank))
      ∙ ap (first_untold number) (sym cut) ∙ p.untold;
  counted = omega (arith, p.counted);
}

-- a line tells no run and is not empty
pub is_stopped : (all left rest line : List ℕ) (number : ℕ) (runs : List ArchOutput) → Read all left number runs → lines_of left ≡ line ∷ lines_of rest → run_of line ≡ None
    → length line == 0 ≡ false → first_untold 2 (lines_of all) ≡ Some number
is_stopped all left rest line number runs p cut tells full =
    sym p.untold ∙ ap (first_untold number) cut ∙ ap (λ b. cond b (first_untold (number + 1) (lines_of rest)) (Some number)) (told_if line tells full)

-- no line is left
pub all_told : (all left : List ℕ) (number : ℕ) (runs : List ArchOutput) → Read all left number runs → left ≡ [] → runs ≡ filter_map run_of (lines_of all)
all_told all left number runs p none = sym (append-nil runs) ∙ ap (λ l. runs ++ filter_map run_of (lines_of l)) (sym none) ∙ p.told

pub none_untold : (all left : List ℕ) (number : ℕ) (runs : List ArchOutput) → Read all left number runs → left ≡ [] → first_untold 2 (lines_of all) ≡ None
none_untold all left number runs p none = sym p.untold ∙ ap (λ l. first_untold number (lines_of l)) none

-- ---- what is answered

pub is_joined : (lines : List (List ℕ)) (runs : List ArchOutput) (made : Output) (text : List ℕ) → first_untold 2 lines ≡ None → runs ≡ filter_map run_of lines → made ≡ join_passes runs
    → text ≡ entries_text (join_entries made) → joined lines ≡ Ok text
is_joined lines runs made text untold told is says =
    ap (λ o. joined_unless o lines) untold ∙ ap (λ rs. Ok (entries_text (join_entries (join_passes rs)))) (sym told) ∙ ap (λ m. Ok (entries_text (join_entries m))) (sym is) ∙ ap Ok (sym says)

pub is_untold : (lines : List (List ℕ)) (number : ℕ) → first_untold 2 lines ≡ Some number → joined lines ≡ Err number
is_untold lines number untold = ap (λ o. joined_unless o lines) untold
