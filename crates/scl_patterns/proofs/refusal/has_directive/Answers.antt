use Rattle.std.proofs.Common.{rules, ◌≡◌, ◌||◌, false, ◌∷◌, codes, sym, ap, ◌∙◌}
use Rattle.std.specs.List.{list_any}
use Rattle.std.proofs.lemmas.List.Elements.{All-rest}
use Rattle.memchr.specs.Find.{OccursAt}
use Rattle.scl_patterns.specs.Refusals.{reads_at}
use Rattle.scl_patterns.proofs.refusal.has_directive.Goals as goal

pub loop-at-preserved : goal.loop-at-preserved
loop-at-preserved c =
    let text = c.args.text.now in
    let reads = reads_at c.args.marks.now text in
    let goes : c.loop-at.at-iterator ≡ c.in-Some.at ∷ c.next.new.self = search rules in
    let no : reads c.in-Some.at ≡ false = sym c.reads_at.ensures ∙ c.if-reads_at.false in
    record {
      found = ap (λ it. it || list_any reads c.next.new.self) (sym no) ∙ ap (list_any reads) (sym goes) ∙ c.loop-at.invariant.found;
      stands = All-rest (OccursAt text (codes ".")) c.in-Some.at c.next.new.self c.loop-at.at-iterator goes c.loop-at.invariant.stands;
    }
