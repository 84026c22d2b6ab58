use Rattle.std.proofs.Common.{length}
use Rattle.scl_catalogue_text.specs.Cutting.{words}
use Rattle.scl_catalogue_text.specs.Outcome.{each}
use Rattle.scl_catalogue_text.specs.Reading.{pattern_read}
use Rattle.scl_catalogue_text.proofs.PatternLemmas.{IsReadSo}
use Rattle.scl_catalogue_text.proofs.read_text.each_pattern.Given as goal

abbrev pub invariant-loop-word : goal.invariant-loop-word
invariant-loop-word l = IsReadSo l.texts.items l.cuts.items (each pattern_read (words l.left)) (each pattern_read (words l.bytes))

abbrev pub decreases-loop-word : goal.decreases-loop-word
decreases-loop-word l = length l.left
