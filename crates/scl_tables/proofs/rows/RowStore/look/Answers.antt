use Rattle.std.proofs.Common.{◌≡◌, ◌<◌, List, length, map, slice_index_or, sym, ap, subst, ◌∙◌, arith}
use Rattle.std.proofs.lemmas.List.{get_or-map, length-map}
use Rattle.scl_values.specs.Row.{Row, row_of}
use Rattle.scl_tables.proofs.rows.RowStore.look.Goals as goal

pub returns-clause-row : goal.returns-clause-row
returns-clause-row g c = λ other.
    let P : List (Row g.row.K.Denot) → Type 0 = λ rows. slice_index_or rows c.args.index other ≡ row_of c.read.result.now in
    let count = length-map c.self.inside.rows.now (row_of {K = g.row.K.Denot}) in
    let L : List (Row g.row.K.Denot) → Type 0 = λ rows. c.args.index < length rows in
    let inside : L (map row_of c.self.inside.rows.now) = subst L (sym c.self.view_is) c.requires in
    let there = get_or-map (row_of {K = g.row.K.Denot}) c.self.inside.rows.now c.args.index c.read.result.now other (omega (arith, inside, count)) in
    subst P c.self.view_is (there ∙ ap row_of (c.read.ensures.item c.read.result.now))
