-- The command line of a case on a disk is loaded as the case is.
use Rattle.std.proofs.Common.{◌≡◌, ℕ, Bool, List, Err, ap, subst, ◌∙◌}
use Rattle.scl_files.specs.Views.{Viewed}
use Rattle.scl_files.specs.declared.expand.Limits.{Limits}
use Rattle.scl_load.specs.Loads.{IsEnd, IsLoaded, Load, load_of}
use Rattle.scl_load.specs.declared.loader.DiskLine.{DiskLine}
use Rattle.scl_load.specs.declared.loader.LoadError.{LoadError}
use Rattle.scl_reader.specs.CommandLines.{asked}
use Rattle.scl_reader.specs.declared.compiler.Compiler.{Compiler}
use Rattle.scl_text.specs.Commands.{pairs_of}
use Rattle.scl_values.specs.Words.{words_of}
use Rattle.scl_explain.specs.Said.{load_for}
use Rattle.scl_explain.specs.declared.case.Case.{Case}

abbrev load_by : Limits → Compiler → List (List ℕ) → List ℕ → List (List ℕ × List ℕ) → Bool → Load
load_by most compiler words directory environment multiarch = record {
  asks = λ view. asked compiler words directory environment view;
  is_multiarch = multiarch;
  most = most;
  most_rounds = 4096;
}

module _ (line : DiskLine) (case : Case) (compiler : line.compiler ≡ case.compiler) (words : words_of line.words.now ≡ words_of case.words.items)
    (directory : line.directory.now ≡ case.cwd.items) (environment : pairs_of line.environment.now ≡ pairs_of case.env_vars.items) (multi : line.multiarch ≡ case.multiarch) where
  load_is : load_of line case.settings.limits 4096 ≡ load_for case
  load_is = ap (λ c. load_by case.settings.limits c (words_of line.words.now) line.directory.now (pairs_of line.environment.now) line.multiarch) compiler
      ∙ ap (λ w. load_by case.settings.limits case.compiler w line.directory.now (pairs_of line.environment.now) line.multiarch) words
      ∙ ap (λ d. load_by case.settings.limits case.compiler (words_of case.words.items) d (pairs_of line.environment.now) line.multiarch) directory
      ∙ ap (λ e. load_by case.settings.limits case.compiler (words_of case.words.items) case.cwd.items e line.multiarch) environment
      ∙ ap (λ m. load_by case.settings.limits case.compiler (words_of case.words.items) case.cwd.items (pairs_of case.env_vars.items) m) multi

  pub loaded_is : (held view : Viewed) → IsLoaded held (load_of line case.settings.limits 4096) view → IsLoaded held (load_for case) view
  loaded_is held view h = subst (λ load. IsLoaded held load view) load_is h

  pub end_is : {E : Type 0} (held : Viewed) (error : LoadError E) → IsEnd held (load_of line case.settings.limits 4096) (Err error) → IsEnd held (load_for case) (Err error)
  end_is held error h = subst (λ load. IsEnd held load (Err error)) load_is h
