-- Each reason of the table stands once: found by evaluation.
use Rattle.std.proofs.Common.{◌≡◌, true, refl}
use Rattle.std.specs.List.{flat_map}
use Rattle.scl_reasons.specs.Explanations.{stand_once}
use Rattle.scl_reasons.specs.Table.{table}

pub once : stand_once (flat_map (λ e. e.reasons) table) ≡ true
unfolding table
once = refl
