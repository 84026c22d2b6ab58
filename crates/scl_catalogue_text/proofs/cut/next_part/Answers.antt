use Rattle.std.proofs.Common.{ℕ, ◌+◌, ◌-◌, List, ◌∷◌, length, take, drop, sym, ap, ◌∙◌, arith}
use Rattle.std.proofs.lemmas.List.{length-drop, take_all}
use Rattle.scl_catalogue_text.specs.Cutting.{parts}
use Rattle.scl_catalogue_text.proofs.SplitLemmas.{parts-at, parts-none}
use Rattle.scl_catalogue_text.proofs.cut.next_part.Goals as goal

pub returns-in-Some-clause-parts : goal.returns-in-Some-clause-parts
returns-in-Some-clause-parts c =
    let found = c.in-Some.ensures in
    let bytes = c.args.bytes.now in
    let long = length-drop (c.in-Some.at + 1) bytes in
    let rest = take_all (length bytes - (c.in-Some.at + 1)) (drop (c.in-Some.at + 1) bytes) (omega (arith, long)) in
    parts-at c.args.mark bytes c.in-Some.at found.0.high found.1 (λ k low. found.0.before k (omega arith) low)
    ∙ ap (λ (after : List ℕ). take c.in-Some.at bytes ∷ parts c.args.mark after) (sym rest)

pub returns-in-None-clause-parts : goal.returns-in-None-clause-parts
returns-in-None-clause-parts c = parts-none c.args.mark c.args.bytes.now (λ k low. c.in-None.ensures k (omega arith) low)
