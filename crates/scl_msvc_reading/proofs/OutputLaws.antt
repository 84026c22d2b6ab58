-- Outputs that are added one by one, in the order of their names.
use Rattle.std.proofs.Common.{◌≡◌, ℕ, true, false, List, [], ◌∷◌, ◌++◌, Option, Some, refl, ◌∙◌, codes}
use Rattle.std.proofs.lemmas.List.{append_assoc, append-nil}
use Rattle.scl_text.specs.Outputs.{output_at, put_optional}
use Rattle.scl_text.proofs.OutputLaws.{entry, put_rising}

pub put_in_order : (module_path : Option (List ℕ)) (object : List ℕ) (database header source : Option (List ℕ)) →
    put_optional (put_optional (put_optional (put_optional (put_optional [] (codes "module") false module_path) (codes "obj") false (Some object)) (codes "pdb") false database) (codes "tlh") true header) (codes "tli") true source
    ≡ output_at (codes "module") false module_path ++ output_at (codes "obj") false (Some object) ++ output_at (codes "pdb") false database ++ output_at (codes "tlh") true header ++ output_at (codes "tli") true source
put_in_order module_path object database header source =
    put_rising [] (entry (codes "module") false module_path ∷ entry (codes "obj") false (Some object) ∷ entry (codes "pdb") false database ∷ entry (codes "tlh") true header ∷ entry (codes "tli") true source ∷ []) refl
    ∙ simp (append_assoc, append-nil)
