use Rattle.std.proofs.Common.{rules, Some, None, sym, ◌∙◌, lit<}
use Rattle.std.proofs.lemmas.Str.Pattern.{split_once_first}
use Rattle.scl_gnu.proofs.VersionLemmas.{part_found, part_passed, last_found, last_passed}
use Rattle.scl_gnu.proofs.clang.version.dotted_part.Goals as goal

pub returns-then-has_dot : goal.returns-then-has_dot
returns-then-has_dot c =
    let cut = split_once_first 32 _ (Some (c.in-Some.part, c.in-Some.behind)) c.in-Some.ensures.cases (lit< tt) in
    part_found _ _ c.in-Some.behind.now cut.0 cut.1 (sym c.has_dot.ensures ∙ c.if-has_dot.true) ∙ c.loop-part.invariant.1

pub loop-part-preserved : goal.loop-part-preserved
loop-part-preserved c =
    let cut = split_once_first 32 _ (Some (c.in-Some.part, c.in-Some.behind)) c.in-Some.ensures.cases (lit< tt) in
    (search rules, part_passed _ _ _ cut.0 cut.1 cut.2 (sym c.has_dot.ensures ∙ c.if-has_dot.false) ∙ c.loop-part.invariant.1)

pub returns-then-has_dot-2 : goal.returns-then-has_dot-2
returns-then-has_dot-2 c =
    let whole = split_once_first 32 _ None c.in_default.ensures.cases (lit< tt) in
    last_found _ whole (sym c.has_dot-2.ensures ∙ c.if-has_dot-2.true) ∙ c.loop-part.invariant.1

pub returns-else-has_dot-2 : goal.returns-else-has_dot-2
returns-else-has_dot-2 c =
    let whole = split_once_first 32 _ None c.in_default.ensures.cases (lit< tt) in
    last_passed _ whole (sym c.has_dot-2.ensures ∙ c.if-has_dot-2.false) ∙ c.loop-part.invariant.1
