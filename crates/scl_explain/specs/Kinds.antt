-- What the entries of a compile database are, by their answers and the hazards of their commands.
use Rattle.std.specs.Prelude.{List, [], ◌∷◌}
use Rattle.scl_hazards.specs.Hazards.{Hazard}
use Rattle.scl_text.specs.declared.records.Cacheable.TheVariants as cacheable
use Rattle.scl_reader.specs.Answers.{Answer, compiled, cannot_cache, not_compilation}
use Rattle.scl_explain.specs.declared.entry_kind.EntryKind.{EntryKind}
use Rattle.scl_explain.specs.declared.entry_kind.EntryKind.TheVariants as kinds

abbrev pub kind_of : Answer → List Hazard → EntryKind
kind_of (compiled words kept) (hazard ∷ hazards) = kinds.Hazard
kind_of (compiled words cacheable.Yes) [] = kinds.Ok
kind_of (compiled words cacheable.No) [] = kinds.Refused
kind_of (cannot_cache reason beside) hazards = kinds.Refused
kind_of not_compilation hazards = kinds.Refused
