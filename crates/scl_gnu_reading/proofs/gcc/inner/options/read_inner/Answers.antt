use Rattle.std.proofs.Common.{◌≡◌, ◌==◌, true, length, sym, subst, ◌∙◌, List, Vec, ℕ}
use Rattle.std.specs.declared.alloc.Global.{Global}
use Rattle.scl_gnu_reading.proofs.InnerLemmas.{none_inside}
use Rattle.scl_gnu_reading.proofs.gcc.inner.options.read_inner.Goals as goal

pub returns-then-is_empty : goal.returns-then-is_empty
returns-then-is_empty g c =
    let P : List (Vec ℕ Global) → Type 0 = λ ws. (length ws == 0) ≡ true in
    let none = none_inside (g.J.Judge.verdict c.args.judge.now) c.args.cwd.now c.args.view.now c.args.words.items (subst P c.as_slice.ensures.value (sym c.is_empty.ensures ∙ c.if-is_empty.true)) in
    rw (c.new-then-is_empty.ensures, c.new.ensures.items) none

pub returns : goal.returns
returns g c = rw c.in_ok-trees.ensures.tables at c.judge_words.ensures
