use Rattle.std.proofs.Common.{◌≤◌, length, sym, rules}
use Rattle.scl_values.specs.Words.{words_of}
use Rattle.scl_base_dirs.specs.Bases.{placed}
use Rattle.scl_base_dirs.proofs.BaseLaws.{base_within}
use Rattle.scl_base_dirs.proofs.told.push_path.Goals as goal

pub slice_bounds-push_text-count : goal.slice_bounds-push_text-count
slice_bounds-push_text-count c = base_within c.args.spelling (words_of c.args.dirs.now) c.args.path.now (placed c.in-Some.base.number c.in-Some.base.dir.now) (sym c.in-Some.ensures)

pub slice_bounds-push_text-start : goal.slice_bounds-push_text-start
slice_bounds-push_text-start c =
    let within : length c.in-Some.base.dir.now ≤ length c.args.path.now = base_within c.args.spelling (words_of c.args.dirs.now) c.args.path.now (placed c.in-Some.base.number c.in-Some.base.dir.now) (sym c.in-Some.ensures) in
    search rules
