use Rattle.std.proofs.Common.{◌∙◌, ◌≡◌, ◌∷◌, List, refl}
use Rattle.scl_driver_texts.specs.Pieces.{Piece, stands}
use Rattle.scl_driver_texts.specs.Readers.{made}
use Rattle.scl_driver_texts.specs.WindowsWords.{pieces}
use Rattle.scl_driver_texts.proofs.WordLemmas.{on_ok}
use Rattle.scl_windows_words.specs.Parts.{Part}
use Rattle.scl_windows_words.specs.Reading.{stood}
use Rattle.scl_windows_words.proofs.ReadingLemmas.{stood-some}
use Rattle.scl_driver_texts.proofs.words.Words.slashes.Goals as goal

pub returns : goal.returns
returns c =
    let all : ((ps : List Piece) → made c.stand.new.self ps ≡ made c.args.self.now (stands c.deref.result.now ∷ ps)) → (ps : List Part) → made c.stand.new.self (pieces ps) ≡ made c.args.self.now (pieces (stood c.args.count ps)) =
    λ come ps. come (pieces ps) ∙ rw (c.deref.ensures.value, c.in_ok-bytes.ensures.items_if_clones_equal, stood-some c.args.count ps c.if-count-eq0.false) refl in
    on_ok c.stand.result all c.stand.ensures
