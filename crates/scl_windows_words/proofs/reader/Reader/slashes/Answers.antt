use Rattle.scl_windows_words.specs.Parts.{backslashes}
use Rattle.scl_windows_words.specs.Reading.{to_come}
use Rattle.scl_windows_words.proofs.ReadingLemmas.{slashes-some, stood-some}
use Rattle.scl_windows_words.proofs.reader.Reader.slashes.Goals as goal

pub returns-clause-come : goal.returns-clause-come
returns-clause-come c =
    λ is. rw (stood-some c.args.count (to_come c.take.new.self is) c.if-count-eq0.false, slashes-some c.args.count is c.if-count-eq0.false) (c.take.ensures.come (backslashes c.args.count) is)
