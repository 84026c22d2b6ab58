use Rattle.std.proofs.Common.{◌≡◌, take}
use Rattle.scl_text.specs.Commands.{pairs_of}
use Rattle.scl_text.proofs.command.copy_pairs.Given as goal

abbrev pub invariant-loop-key : goal.invariant-loop-key
invariant-loop-key l = pairs_of l.copies.items ≡ pairs_of (take l.key-index l.pairs)
