use Rattle.scl_files.proofs.ViewLemmas.{is_among_lem}
use Rattle.scl_files.proofs.view.View.is_dir.Goals as goal

pub returns : goal.returns
returns c = rw (← c.self.view_is, is_among_lem c.args.path.now c.self.inside.directories) c.contains.ensures
