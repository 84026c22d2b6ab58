use Rattle.scl_catalogue_text.proofs.PatternLemmas.{pattern_step}
use Rattle.scl_catalogue_text.proofs.read_text.each_pattern.Goals as goal

pub loop-word-preserved : goal.loop-word-preserved
loop-word-preserved c =
    pattern_step _ _ _ _ c.loop-word.texts.items c.push_pattern.new.texts.items c.loop-word.cuts.items c.push.new.self.items _ c.in-Some.ensures.words c.in_ok-cut.ensures c.in_ok-push.ensures.items c.loop-word.invariant
