use Rattle.std.proofs.Common.{arith}
use Rattle.std.proofs.lemmas.Grind.{common_steps}
use Rattle.std.proofs.lemmas.List.Elements.{filter_map-append}
use Rattle.scl_shared_key.proofs.judge.prefix_maps.Goals as goal

pub returns : goal.returns
returns c = grind (arith, common_steps, filter_map-append)
