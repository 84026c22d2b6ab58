use Rattle.std.proofs.Common.{map}
use Rattle.scl_catalogue.specs.Views.{condition_of, group_of}
use Rattle.scl_catalogue_text.specs.Reading.{condition_read}
use Rattle.scl_catalogue_text.proofs.EachLemmas.{each_end, each_step}
use Rattle.scl_catalogue_text.proofs.read_condition.each_condition.Goals as goal

pub loop-part-preserved : goal.loop-part-preserved
loop-part-preserved c =
    each_step (condition_read (map group_of c.args.groups.now)) condition_of c.args.parts.now c.loop-part.part-index _ c.loop-part.all.items c.push.new.self.items c.in_ok-one.one _ c.loop-part-test.true c.in_ok-one.ensures c.in_ok-push.ensures.items c.loop-part.invariant

pub returns : goal.returns
returns c =
    each_end (condition_read (map group_of c.args.groups.now)) condition_of c.args.parts.now c.loop-part.part-index c.loop-part.all.items _ c.loop-part-test.false c.loop-part.invariant
