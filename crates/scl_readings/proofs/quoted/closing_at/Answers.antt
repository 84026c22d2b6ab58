use Rattle.std.proofs.Common.{ℕ, List, true, drop, sym, ap, ◌∙◌, arith}
use Rattle.std.proofs.lemmas.List.{drop_more}
use Rattle.scl_readings.specs.Quoted.{closing_at}
use Rattle.scl_readings.proofs.quoted.closing_at.Goals as goal

pub loop-at-preserved-then-is_escaped : goal.loop-at-preserved-then-is_escaped
loop-at-preserved-then-is_escaped c =
    let text = c.args.text.now in
    let at = c.loop-at.at in
    sym (ap (λ (rest : List ℕ). closing_at at true rest) (drop_more text at 0 (omega arith)))
    ∙ ap (λ taken. closing_at at taken (drop at text)) (sym c.if-is_escaped.true) ∙ c.loop-at.invariant
