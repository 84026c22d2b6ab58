use Rattle.std.proofs.Common.{ap, ◌∙◌}
use Rattle.scl_args.specs.Options.{texts}
use Rattle.scl_msvc_reading.specs.Kinds.{of}
use Rattle.scl_msvc_reading.specs.Reads.{either, is_behind_within, only_clang, only_xclang}
use Rattle.scl_msvc_reading.proofs.ReadLaws.{all_true}
use Rattle.scl_msvc_reading.proofs.msvc.reading.inner_lines.Goals as goal

pub returns : goal.returns
returns c =
    let outer = c.args.outer.now in
    let xs = rw c.in-Ok.is at c.in_ok-xclang.ensures in
    let cs = rw c.in-Ok-2.is at c.in_ok-clang.ensures in
    let es = rw c.in-Ok-3.is at c.in_ok-either.ensures in (
      all_true (is_behind_within c.args.most only_xclang c.args.cwd.now c.args.view.now outer) (is_behind_within c.args.most only_clang c.args.cwd.now c.args.view.now outer) (is_behind_within c.args.most either c.args.cwd.now c.args.view.now outer) xs.0 cs.0 es.0,
      (xs.1, cs.1, c.in_ok-handed.ensures ∙ ap (texts (of either)) c.options.ensures, es.1),
    )
