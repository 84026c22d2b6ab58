use Rattle.std.proofs.Common.{refl}
use Rattle.scl_files.proofs.ViewLemmas.{put_file_lem, bytes_at-put, on_ok}
use Rattle.scl_files.proofs.view.View.add_file.Goals as goal

pub returns-clause-ok : goal.returns-clause-ok
returns-clause-ok c = on_ok c.put.result c.put.ensures.ok (λ e. rw (e, put_file_lem, ← c.self.view_is) refl)

pub returns-clause-found : goal.returns-clause-found
returns-clause-found c = on_ok c.put.result c.put.ensures.ok (λ e other. rw (e, put_file_lem, bytes_at-put, ← c.self.view_is) refl)
