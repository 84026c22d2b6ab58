use Rattle.std.proofs.Common.{rules, ◌≡◌, ◌++◌, map, ap, ◌∙◌}
use Rattle.std.specs.Map.Iter.{deref_pair}
use Rattle.std.proofs.lemmas.Map.Iter.{iter_end}
use Rattle.scl_text.specs.Records.{artifact_of}
use Rattle.scl_key.specs.Views.{outputs_of}
use Rattle.scl_key.proofs.made.push_had.Goals as goal

pub returns : goal.returns
returns c =
    let e : map deref_pair c.loop-name.yielded ≡ c.args.had.now.entries = search (rules, iter_end) in
    c.loop-name.invariant ∙ ap (λ es. outputs_of c.args.outputs.now.items ++ map artifact_of es) e
