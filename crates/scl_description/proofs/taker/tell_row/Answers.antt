use Rattle.std.proofs.Common.{ℕ, List, [], ◌∷◌, map, subst, append-nil}
use Rattle.std.proofs.lemmas.Result.{on_ok_weaker}
use Rattle.scl_description.specs.Takers.{Adds}
use Rattle.scl_description.proofs.taker.tell_row.Goals as goal

pub returns : goal.returns
returns g c =
    let has = g.R.TakesRows.has in
    let fields : List (List ℕ) = map (λ field. field.now) c.args.fields.now in
    on_ok_weaker c.take.result
    (subst (λ (all : List (List ℕ)). Adds has c.args.rows.now c.take.new.self ((c.args.name.now ∷ all) ∷ [])) (append-nil fields))
    c.take.ensures
