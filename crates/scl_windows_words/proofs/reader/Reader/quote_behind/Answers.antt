use Rattle.std.proofs.Common.{◌∙◌, ◌∷◌, ◌/◌, ◌%◌, [], ap, refl}
use Rattle.scl_windows_words.specs.Parts.{items, taken}
use Rattle.scl_windows_words.specs.Reading.{stood}
use Rattle.scl_windows_words.proofs.ReadingLemmas.{differs}
use Rattle.scl_windows_words.proofs.reader.Reader.quote_behind.Goals as goal

pub returns-clause-left : goal.returns-clause-left
returns-clause-left c =
    λ rest. rw (c.take.ensures.kept, c.slashes.ensures.kept, c.requires) (ap (stood (c.args.count / 2)) (c.take.ensures.come (34 ∷ []) (items 0 rest)))
    ∙ c.slashes.ensures.come (taken (34 ∷ []) ∷ items 0 rest) ∙ rw (differs (c.args.count % 2) 0 c.if-count-eq0.false) refl
