use Rattle.std.proofs.Common.{[]}
use Rattle.std.proofs.lemmas.List.{append-nil}
use Rattle.scl_driver_texts.proofs.words.Words.finish.Goals as goal

pub returns : goal.returns
returns c = rw (c.in_ok-end.ensures.none, append-nil) at (c.in_ok-end.ensures.made [])
