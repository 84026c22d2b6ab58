use Rattle.std.proofs.Common.{◌∙◌, ◌∷◌, ap, refl}
use Rattle.scl_windows_words.specs.Parts.{bare, items}
use Rattle.scl_windows_words.specs.Reading.{stood}
use Rattle.scl_windows_words.proofs.ReadingLemmas.{differs}
use Rattle.scl_windows_words.proofs.reader.Reader.read.Goals as goal

pub returns-clause-left : goal.returns-clause-left
returns-clause-left c =
    λ rest. rw (c.other-mark.ensures.kept, c.slashes.ensures.kept) (ap (stood c.args.self.now.backslashes) (c.other-mark.ensures.come (items 0 rest)))
    ∙ c.slashes.ensures.come (bare c.args.byte ∷ items 0 rest) ∙ rw (differs c.args.byte 92 c.if-byte-eq92.false, differs c.args.byte 34 c.if-byte-eq34.false) refl
