-- Outputs that are added one by one, in the order of their names.
use Rattle.std.proofs.Common.{◌≡◌, ℕ, true, false, List, [], ◌∷◌, ◌++◌, Option, Some, refl, ◌∙◌, codes}
use Rattle.std.proofs.lemmas.List.{append_assoc}
use Rattle.scl_text.specs.Outputs.{output_at, put_optional}
use Rattle.scl_text.proofs.OutputLaws.{entry, put_rising}

pub put_in_order : (depfile diagnostics dwo gcno module_path : Option (List ℕ)) (object : List ℕ) →
    put_optional (put_optional (put_optional (put_optional (put_optional (put_optional [] (codes "d") false depfile) (codes "dia") false diagnostics) (codes "dwo") true dwo) (codes "gcno") false gcno) (codes "module") false module_path) (codes "obj") false (Some object)
    ≡ output_at (codes "d") false depfile ++ output_at (codes "dia") false diagnostics ++ output_at (codes "dwo") true dwo
    ++ output_at (codes "gcno") false gcno ++ output_at (codes "module") false module_path ++ output_at (codes "obj") false (Some object)
put_in_order depfile diagnostics dwo gcno module_path object =
    put_rising [] (entry (codes "d") false depfile ∷ entry (codes "dia") false diagnostics ∷ entry (codes "dwo") true dwo ∷ entry (codes "gcno") false gcno ∷ entry (codes "module") false module_path ∷ entry (codes "obj") false (Some object) ∷ []) refl
    ∙ simp append_assoc
