-- What follows for the texts of response files that are expanded.
use Rattle.std.specs.Prelude.{◌≡◌, ℕ, Bool, List}
use Rattle.std.specs.List.{list_any}
use Rattle.scl_files.specs.Openings.{texts_once}
use Rattle.scl_files.specs.Views.{File}
use Rattle.scl_files.specs.declared.expand.ExpansionKind.{ExpansionKind}
use Rattle.scl_driver_texts.specs.InPlace.{texts_in_place}

-- for every test of texts, some text of the expanded files passes exactly if some text does of those that are held once
abbrev pub TextsHeldOnceServe : Type 0
TextsHeldOnceServe =
    (test : List ℕ → Bool) (kind : ExpansionKind) (directory : List ℕ) (files : List File) (words : List (List ℕ)) → list_any test (texts_once kind directory files words) ≡ list_any test (texts_in_place kind directory files words)
