use Rattle.scl_catalogue.specs.Views.{test_of}
use Rattle.scl_catalogue_text.specs.Reading.{test_read}
use Rattle.scl_catalogue_text.proofs.EachLemmas.{each_step}
use Rattle.scl_catalogue_text.proofs.read_test.each_test.Goals as goal

pub loop-part-preserved : goal.loop-part-preserved
loop-part-preserved c =
    each_step test_read test_of c.args.parts.now c.loop-part.part-index _ c.loop-part.all.items c.push.new.self.items c.in_ok-one.one _ c.loop-part-test.true c.in_ok-one.ensures c.in_ok-push.ensures.items c.loop-part.invariant
