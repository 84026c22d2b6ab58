-- Joining the outputs of the preprocessor's runs for several architectures.
use Rattle.std.specs.Prelude.{ℕ, ℤ, pos, Bool, not, nat_eq, if◌then◌else◌, List, [], ◌∷◌, ◌++◌, map, find, count_by, Option, None, Some, Vec, codes}
use Rattle.std.specs.Fmt.{decimal}
use Rattle.std.specs.List.{flat_map, ends_with}
use Rattle.std.specs.Ordering.{int_eq}
use Rattle.std.specs.declared.alloc.Global.{Global}
use Rattle.scl_files.specs.Characters.{line_feed, space}
use Rattle.scl_text.specs.declared.records.PassOutput.{PassOutput}

-- the result of a run
pub record Output : Type 0 where
  pub status : ℤ
  pub stdout : List ℕ
  pub stderr : List ℕ

abbrev pub output_of : PassOutput → Output
output_of output = record { status = output.status; stdout = output.stdout.items; stderr = output.stderr.items }

-- a run, and its architecture
pub record ArchOutput : Type 0 where
  pub arch : List ℕ
  pub output : Output

abbrev pub arch_output : (Vec ℕ Global × PassOutput) → ArchOutput
arch_output pair = record { arch = pair.0.items; output = output_of pair.1 }

abbrev pub arch_outputs : List (Vec ℕ Global × PassOutput) → List ArchOutput
arch_outputs pairs = map arch_output pairs

-- a run that did not fail
abbrev pub succeeded : ArchOutput → Bool
succeeded run = int_eq run.output.status (pos 0)

-- a text, with a line feed at its end
abbrev pub ended : List ℕ → List ℕ
ended text = if ends_with nat_eq text (line_feed ∷ []) then text else text ++ line_feed ∷ []

abbrev pub line_feeds : List ℕ → ℕ
line_feeds text = count_by (λ b. nat_eq b line_feed) text

-- a line with the architecture and a number of line feeds
abbrev pub header : List ℕ → ℕ → List ℕ
header arch count = codes "#pragma sccache arch " ++ arch ++ space ∷ [] ++ decimal count ++ line_feed ∷ []

-- the line of an output, and the output itself
abbrev pub section : List ℕ → List ℕ → List ℕ
section arch text = header arch (line_feeds (ended text)) ++ ended text

abbrev pub sections : List ArchOutput → List ℕ
sections runs = flat_map (λ run. section run.arch run.output.stdout) runs

abbrev pub errors : List ArchOutput → List ℕ
errors runs = flat_map (λ run. run.output.stderr) runs

-- all outputs, if no run failed; else that of the first failed run; and all error outputs
abbrev pub joined : Option ArchOutput → List ArchOutput → Output
joined None runs = record { status = pos 0; stdout = sections runs; stderr = errors runs }
joined (Some failed) runs = record { status = failed.output.status; stdout = failed.output.stdout; stderr = errors runs }

abbrev pub join_passes : List ArchOutput → Output
join_passes runs = joined (find (λ run. not (succeeded run)) runs) runs
