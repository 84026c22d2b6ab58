use Rattle.std.proofs.Common.{sym}
use Rattle.std.proofs.lemmas.List.{length-take-le}
use Rattle.scl_describe.proofs.VersionLaws.{is-inside, two-parts}
use Rattle.scl_describe.proofs.known.major_and_minor.Goals as goal

pub slice_bounds-result-end : goal.slice_bounds-result-end
slice_bounds-result-end c = sym (length-take-le _ _ (is-inside _ _ _ _ _ c.in-Some.ensures c.in-Some-cut_at.ensures))

pub returns : goal.returns
returns c = two-parts _ _ _ _ _ c.in-Some.ensures c.in-Some-cut_at.ensures
