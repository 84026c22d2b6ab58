-- Which response files a view has.
use Rattle.std.specs.Prelude.{◌≡◌, ℕ, Bool, true, not, List}
use Rattle.std.specs.List.{list_all}
use Rattle.std.specs.Option.{is_some}
use Rattle.scl_files.specs.Views.{Viewed, bytes_at}

abbrev pub has_file : Viewed → List ℕ → Bool
has_file view path = is_some (bytes_at path view.files)

-- the view has a file at each path where one was found, and none where one is missing
pub record IsSeen (view : Viewed) (found missing : List (List ℕ)) : Type 0 where
  pub response_files : list_all (has_file view) found ≡ true
  pub missing_files : list_all (λ path. not (has_file view path)) missing ≡ true
