use Rattle.std.proofs.Common.{◌≡◌, refl, sym, ◌&&◌, ◌∷◌, [], true, false}
use Rattle.std.specs.Str.{bytes_eq}
use Rattle.scl_values.specs.Tables.{owner_in}
use Rattle.scl_cutting.proofs.IterLemmas.{raw_item, dashes_item, option_item}
use Rattle.scl_cutting.proofs.iter.ArgsIterIterator.next.Goals as goal
use Rattle.scl_cutting.proofs.iter.ArgsIterIterator.next.Goals.{else-self-3-via-then-self-3+else-eq, else-self-3-via-else-self-3}

pub returns-then-self-2-clause-steps : goal.returns-then-self-2-clause-steps
returns-then-self-2-clause-steps g c = rw (← c.self.view_is) (c.if-self.false, refl, tt, raw_item _ _ _ _ _ _ _ _ _ c.if-self-2.true c.if-self.false c.in-Some.ensures.steps, refl)

pub returns-then-eq-clause-steps : goal.returns-then-eq-clause-steps
returns-then-eq-clause-steps g c =
    let mark : (c.self.inside.double_dashes && bytes_eq c.in-Some.word.items (45 ∷ 45 ∷ [])) ≡ true =
    rw (c.if-self-3.true, ← c.as_slice.ensures.value, ← c.as_slice-then-self-3.ensures) (sym c.if-eq.ensures) in
    rw (← c.self.view_is) (c.if-self.false, refl, tt, dashes_item _ _ _ _ _ _ _ _ _ c.if-self-2.false c.if-self.false mark c.in-Some.ensures.steps, refl)

pub returns-clause-steps : goal.returns-clause-steps
returns-clause-steps g c =
    let mark : (c.self.inside.double_dashes && bytes_eq c.in-Some.word.items (45 ∷ 45 ∷ [])) ≡ false =
    elim c.else-self-3.branch [
      | else-self-3-via-then-self-3+else-eq w ↦ rw (w.if-self-3.true, ← w.as_slice.ensures.value, ← w.as_slice-then-self-3.ensures) (sym w.if-eq.ensures)
      | else-self-3-via-else-self-3 w ↦ rw w.if-self-3.false refl
    ] in
    let gives : _ = option_item g.I.Iterator.next_gives g.T.ArgumentValue.make_gives (owner_in (g.S.SearchableArgInfo.tables c.self.inside.arg_info)) c.self.inside.double_dashes
    c.self.inside.arguments c.next.new.self c.option_of-item.new.arguments c.in-Some.word _ _ _ _ c.if-self-2.false c.if-self.false mark c.in-Some.ensures.steps c.option_of-item.ensures.piece in
    rw (← c.self.view_is) (c.if-self.false, refl, gives.0, gives.1, c.option_of-item.ensures.delimiter)
