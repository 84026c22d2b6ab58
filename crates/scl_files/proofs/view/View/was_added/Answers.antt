use Rattle.scl_files.proofs.ViewLemmas.{is_among_lem}
use Rattle.scl_files.proofs.view.View.was_added.Goals as goal

pub returns : goal.returns
returns c = rw (← c.self.view_is, is_among_lem c.args.path.now c.self.inside.existing) c.contains.ensures
