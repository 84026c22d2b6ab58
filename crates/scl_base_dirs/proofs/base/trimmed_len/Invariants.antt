use Rattle.std.proofs.Common.{◌≡◌, ◌+◌, ◌≤◌, length, take}
use Rattle.std.specs.List.{suffix_len}
use Rattle.scl_base_dirs.specs.Bases.{is_separator}
use Rattle.scl_base_dirs.proofs.base.trimmed_len.Given as goal

abbrev pub invariant-loop-end : goal.invariant-loop-end
invariant-loop-end l = record {
  within : l.end ≤ length l.dir;
  after : l.end + suffix_len is_separator l.dir ≡ length l.dir + suffix_len is_separator (take l.end l.dir);
}

abbrev pub decreases-loop-end : goal.decreases-loop-end
decreases-loop-end l = l.end
