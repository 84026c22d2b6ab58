-- How a load of the code ends.
use Rattle.std.specs.Prelude.{Result, Ok, Err}
use Rattle.scl_files.specs.Views.{Viewed}
use Rattle.scl_load.specs.declared.loader.LoadError.{LoadError}
use Rattle.scl_load.specs.declared.loader.Loaded.{Loaded}

-- the view that was loaded
abbrev pub view_of : {E : Type 0} → Result Loaded (LoadError E) → Result Viewed (LoadError E)
view_of (Ok loaded) = Ok loaded.view
view_of (Err error) = Err error
