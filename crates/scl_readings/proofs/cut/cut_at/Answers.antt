use Rattle.std.proofs.Common.{ℕ, ◌+◌, ◌-◌, ◌==◌, List, ◌∷◌, length, take, drop, sym, ap, ◌∙◌, arith}
use Rattle.std.proofs.lemmas.List.{length-drop, take_all}
use Rattle.scl_readings.specs.Lines.{parts}
use Rattle.scl_readings.proofs.CutLemmas.{parts_at, parts_none}
use Rattle.scl_readings.proofs.cut.cut_at.Goals as goal

pub returns-in-Some-clause-parts : goal.returns-in-Some-clause-parts
returns-in-Some-clause-parts c =
    let found = c.in-Some.ensures in
    let text = c.args.text.now in
    let long = length-drop (c.in-Some.at + 1) text in
    let rest = take_all (length text - (c.in-Some.at + 1)) (drop (c.in-Some.at + 1) text) (omega (arith, long)) in
    parts_at (λ byte. byte == c.args.mark) text c.in-Some.at found.0.high found.1 (λ k low. found.0.before k (omega arith) low)
    ∙ ap (λ (after : List ℕ). take c.in-Some.at text ∷ parts c.args.mark after) (sym rest)

pub returns-in-None-clause-parts : goal.returns-in-None-clause-parts
returns-in-None-clause-parts c = parts_none (λ byte. byte == c.args.mark) c.args.text.now (λ k low. c.in-None.ensures k (omega arith) low)
