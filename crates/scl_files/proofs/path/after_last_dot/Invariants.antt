use Rattle.std.proofs.Common.{◌≡◌, ◌+◌, ◌≤◌, length, take, not}
use Rattle.std.specs.List.{suffix_len}
use Rattle.scl_files.specs.Paths.{is_dot}
use Rattle.scl_files.proofs.path.after_last_dot.Given as goal

abbrev pub invariant-loop-at : goal.invariant-loop-at
invariant-loop-at l = record {
  within : l.at ≤ length l.name;
  after : l.at + suffix_len (λ byte. not (is_dot byte)) l.name ≡ length l.name + suffix_len (λ byte. not (is_dot byte)) (take l.at l.name);
}

abbrev pub decreases-loop-at : goal.decreases-loop-at
decreases-loop-at l = l.at
