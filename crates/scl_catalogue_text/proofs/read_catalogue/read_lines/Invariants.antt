use Rattle.std.proofs.Common.{◌≡◌, ◌+◌, map, drop}
use Rattle.scl_catalogue_text.specs.Lines.{lines_read}
use Rattle.scl_catalogue_text.specs.SaidViews.{so_far}
use Rattle.scl_catalogue_text.proofs.read_catalogue.read_lines.Given as goal

abbrev pub invariant-loop-index : goal.invariant-loop-index
invariant-loop-index l =
    lines_read (l.index + 1) (so_far l.reader) (map (λ line. line.now) (drop l.index l.lines)) ≡ lines_read 1 (so_far l.initial.reader) (map (λ line. line.now) l.lines)
