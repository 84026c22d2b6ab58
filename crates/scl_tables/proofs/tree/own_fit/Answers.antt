use Rattle.std.proofs.Common.{◌≡◌, true, false, sym, subst, ◌∙◌}
use Rattle.scl_values.specs.Row.{Row, fits}
use Rattle.scl_tables.proofs.tree.own_fit.Goals as goal

pub returns-then-not-node-clause-row : goal.returns-then-not-node-clause-row
returns-then-not-node-clause-row g c = λ h other. absurd (let no : true ≡ false = sym h ∙ c.if-not-node.true in cc)

pub returns-else-fits-clause-row : goal.returns-else-fits-clause-row
returns-else-fits-clause-row g c = λ h other.
    let P : Row g.row.K.Denot → Type 0 = λ row. fits row c.args.word.now ≡ false in
    subst P (sym (c.look-row.ensures.row other)) (sym c.fits.ensures ∙ c.if-fits.false)
