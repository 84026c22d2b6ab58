use Rattle.std.proofs.Common.{◌≡◌, true, List, [], map, drop, subst, sym, arith}
use Rattle.std.proofs.Math.ListN.{drop_of_length-le}
use Rattle.std.specs.List.{list_all}
use Rattle.scl_catalogue.specs.Keyed.{all_added, is_keyed}
use Rattle.scl_catalogue.specs.Views.{seen_of}
use Rattle.scl_catalogue.specs.declared.keys.Keys.{Keys}
use Rattle.scl_catalogue.proofs.KeyLemmas.{all_keyed}
use Rattle.scl_catalogue.proofs.keys.Keys.of.Goals as goal

pub returns : goal.returns
returns c =
    let os = map seen_of c.args.options.now in
    let d : drop c.loop-option.option-index c.args.options.now ≡ [] = drop_of_length-le c.args.options.now (omega arith) in
    let e = rw d at c.loop-option.invariant in
    let P : Keys → Type 0 = λ k. list_all (is_keyed k) os ≡ true in
    subst P (sym e) (all_keyed c.none-keys.result os)
