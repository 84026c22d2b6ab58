use Rattle.std.proofs.Common.{arith, take, ◌++◌, subst, sym, ◌∙◌, ap}
use Rattle.std.proofs.KnownBytes.{Appends-trans}
use Rattle.std.proofs.Math.Seq.{take-add}
use Rattle.std.proofs.lemmas.Grind.{common_steps}
use Rattle.std.specs.Io.KnownBytes.{Appends}
use Rattle.scl_devices.proofs.write.write_whole.Goals as goal

pub loop-written-preserved : goal.loop-written-preserved
loop-written-preserved g c = record {
  appended = subst (Appends _ _) (ap (λ xs. take c.loop-written.written c.args.text.now ++ take c.in-Ok.taken xs) c.split_at.ensures.back ∙ sym (take-add c.loop-written.written c.in-Ok.taken c.args.text.now)) (Appends-trans _ _ _ _ _ c.loop-written.invariant.appended c.in-Ok.ensures.bytes);
  within = omega (arith, c.in-Ok.ensures.bound);
  none_failed = grind (arith, common_steps, c.in-Ok.ensures.failures);
}
