use Rattle.std.proofs.Common.{sym, ◌∙◌}
use Rattle.scl_gnu.proofs.OutputFileLemmas.{kept-more, none-left}
use Rattle.scl_gnu.proofs.gcc.output_files.without_output_files.Goals as goal

pub loop-rest-preserved-then-dropped-eq0 : goal.loop-rest-preserved-then-dropped-eq0
loop-rest-preserved-then-dropped-eq0 c =
    kept-more _ _ _ c.loop-rest.rest.now _ c.word-item.result _ c.in_ok-push_word.ensures.ok c.deref.ensures.value c.in-len1-up.len_at_least c.word-item.is
    (sym c.if-dropped-eq0.true ∙ c.file_count-dropped.ensures) c.behind-rest.ensures c.loop-rest.invariant

pub returns : goal.returns
returns c = none-left _ _ c.loop-rest.rest.now c.in_default.len_below c.loop-rest.invariant
