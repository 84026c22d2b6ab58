use Rattle.std.proofs.Common.{◌≡◌, ◌+◌, ◌≤◌, length, take, not}
use Rattle.std.specs.List.{suffix_len}
use Rattle.scl_files.specs.Paths.{is_slash}
use Rattle.scl_rounds.proofs.header.after_last_slash.Given as goal

abbrev pub invariant-loop-at : goal.invariant-loop-at
invariant-loop-at l = record {
  within : l.at ≤ length l.path;
  after : l.at + suffix_len (λ byte. not (is_slash byte)) l.path ≡ length l.path + suffix_len (λ byte. not (is_slash byte)) (take l.at l.path);
}

abbrev pub decreases-loop-at : goal.decreases-loop-at
decreases-loop-at l = l.at
