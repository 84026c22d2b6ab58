use Rattle.std.proofs.Common.{◌∙◌, ◌≡◌, ◌∷◌, List, refl}
use Rattle.scl_shell.specs.WindowsReader.{made}
use Rattle.scl_shell.proofs.WindowsLemmas.{on_ok}
use Rattle.scl_windows_words.specs.Parts.{Part, stands}
use Rattle.scl_windows_words.specs.Reading.{stood}
use Rattle.scl_windows_words.proofs.ReadingLemmas.{stood-some}
use Rattle.scl_shell.proofs.windows.Words.slashes.Goals as goal

pub returns : goal.returns
returns c =
    let all : ((ps : List Part) → made c.stand.new.self ps ≡ made c.args.self.now (stands c.deref.result.now ∷ ps)) → (ps : List Part) → made c.stand.new.self ps ≡ made c.args.self.now (stood c.args.count ps) =
    λ come ps. come ps ∙ rw (c.deref.ensures.value, c.in_ok-bytes.ensures.items_if_clones_equal, stood-some c.args.count ps c.if-count-eq0.false) refl in
    on_ok c.stand.result all c.stand.ensures
