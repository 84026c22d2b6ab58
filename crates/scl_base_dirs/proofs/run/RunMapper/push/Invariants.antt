use Rattle.std.proofs.Common.{◌≡◌, ℕ, true, List, ◌++◌, length}
use Rattle.scl_values.specs.Words.{words_of}
use Rattle.scl_base_dirs.specs.Cuts.{last_part}
use Rattle.scl_base_dirs.specs.Runs.{line_feed, is_one_line, to_come}
use Rattle.scl_base_dirs.proofs.run.RunMapper.push.Given as goal

abbrev pub invariant-loop-line : goal.invariant-loop-line
invariant-loop-line l = record {
  one_line : is_one_line l.begun.items ≡ true;
  mapped : (following : List ℕ) → l.mapped.items ++ to_come (record { dirs = words_of l.dirs.items; begun = l.begun.items; is_raw = l.is_raw }) (l.rest ++ following) ≡ to_come l.fn.self (l.fn.piece ++ following);
  last : last_part line_feed (l.begun.items ++ l.rest) ≡ last_part line_feed (l.fn.self.begun ++ l.fn.piece);
}

abbrev pub decreases-loop-line : goal.decreases-loop-line
decreases-loop-line l = length l.rest
