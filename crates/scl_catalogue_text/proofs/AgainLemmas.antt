-- A call that reads a text gives back what was written as the text.
use Rattle.std.proofs.Common.{◌∙◌, ℕ, List, Result, ap, subst}
use Rattle.scl_catalogue.specs.Form.{Catalogue}
use Rattle.scl_catalogue_text.specs.Again.{GivesBack}
use Rattle.scl_catalogue_text.specs.Lines.{read}
use Rattle.scl_catalogue_text.specs.Outcome.{ReadsText}
use Rattle.scl_catalogue_text.specs.declared.mistake.BadLine.{BadLine}
use Rattle.scl_catalogue_text.specs.declared.mistake.ReadError.{ReadError}
use Rattle.scl_catalogue_text.proofs.LineLemmas.{read_written}

pub gives_back : {A : Type 0} (view : A → Catalogue) (result : Result A ReadError) (text : List ℕ) → ReadsText view result (read text) → GivesBack view result text
gives_back {A} view result text h c can e =
    let P : Result Catalogue BadLine → Type 0 = λ r. ReadsText view result r in
    subst P (ap read e ∙ read_written c can) h
