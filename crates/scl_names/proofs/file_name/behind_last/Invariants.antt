use Rattle.std.proofs.Common.{◌≡◌, ◌+◌, ◌≤◌, length, take, not}
use Rattle.std.specs.List.{suffix_len}
use Rattle.scl_names.specs.FileNames.{is_at}
use Rattle.scl_names.proofs.file_name.behind_last.Given as goal

abbrev pub invariant-loop-at : goal.invariant-loop-at
invariant-loop-at l = record {
  within : l.at ≤ length l.text;
  after : l.at + suffix_len (λ byte. not (is_at l.mark byte)) l.text ≡ length l.text + suffix_len (λ byte. not (is_at l.mark byte)) (take l.at l.text);
}

abbrev pub decreases-loop-at : goal.decreases-loop-at
decreases-loop-at l = l.at
