use Rattle.std.proofs.Common.{◌≡◌, ℕ, List, ◌++◌, true, refl, sym, ap, subst}
use Rattle.scl_values.specs.Words.{words_of}
use Rattle.scl_base_dirs.specs.Runs.{is_one_line, to_come}
use Rattle.scl_base_dirs.proofs.RunLemmas.{line_step, last_step, end_last}
use Rattle.scl_base_dirs.proofs.run.RunMapper.push.Goals as goal

pub loop-line-preserved : goal.loop-line-preserved
loop-line-preserved c =
    let one = c.loop-line.invariant.one_line in
    let P : List ℕ → Type 0 = λ begun. is_one_line begun ≡ true in
    record {
      one_line = subst P (sym c.clear.ensures.items) refl;
      mapped = line_step (words_of c.self.inside.dirs.items) (words_of c.deref.result.now) c.loop-line.is_raw c.in_ok-is_raw.is_raw c.loop-line.begun.items c.extend_from_slice.new.self.items c.clear.new.self.items c.deref-in-Some.result.now
          c.loop-line.rest.now c.in-Some.line.now c.in-Some.behind.now c.loop-line.mapped.items c.push_next_line.new.mapped.items c.push.new.self.items (λ following. to_come c.args.self (c.args.piece.now ++ following))
          one c.in-Some.ensures (ap words_of c.deref.ensures.value) c.deref-in-Some.ensures.value c.in_ok-extend_from_slice.ensures.items
          c.in_ok-is_raw.ensures.line c.in_ok-is_raw.ensures.raw c.in_ok-push.ensures.items c.clear.ensures.items c.loop-line.invariant.mapped;
      last = last_step c.loop-line.begun.items c.clear.new.self.items c.loop-line.rest.now c.in-Some.line.now c.in-Some.behind.now _ one c.in-Some.ensures c.clear.ensures.items c.loop-line.invariant.last;
    }

pub returns-clause-begun : goal.returns-clause-begun
returns-clause-begun c =
    end_last c.loop-line.begun.items c.extend_from_slice-2.new.self.items c.loop-line.rest.now _ c.loop-line.invariant.one_line c.in_default.ensures c.in_ok-extend_from_slice-2.ensures.items c.loop-line.invariant.last
