use Rattle.std.proofs.Common.{ap, refl}
use Rattle.scl_text.specs.Commands.{pairs_of}
use Rattle.scl_values.specs.Words.{words_of}
use Rattle.scl_explain.proofs.DiskLineLaws.{end_is, loaded_is}
use Rattle.scl_explain.proofs.answered.load_case.Goals as goal

pub returns-in-Err-clause-end : goal.returns-in-Err-clause-end
returns-in-Err-clause-end g c = λ held holds multi.
    end_is (record { compiler = c.args.case.now.compiler; words = c.deref.result; directory = c.deref-2.result; environment = c.deref-3.result; multiarch = c.args.case.now.multiarch })
    c.args.case.now refl (ap words_of c.deref.ensures.value) c.deref-2.ensures.value (ap pairs_of c.deref-3.ensures.value) refl held c.in-Err.error (rw c.in-Err.is at c.in_ok-loaded.ensures.end held holds multi)

pub returns-in-Ok-clause-loaded : goal.returns-in-Ok-clause-loaded
returns-in-Ok-clause-loaded g c = λ held holds multi.
    loaded_is (record { compiler = c.args.case.now.compiler; words = c.deref.result; directory = c.deref-2.result; environment = c.deref-3.result; multiarch = c.args.case.now.multiarch })
    c.args.case.now refl (ap words_of c.deref.ensures.value) c.deref-2.ensures.value (ap pairs_of c.deref-3.ensures.value) refl held c.in-Ok.loaded.view (rw c.in-Ok.is at c.in_ok-loaded.ensures.end held holds multi)
