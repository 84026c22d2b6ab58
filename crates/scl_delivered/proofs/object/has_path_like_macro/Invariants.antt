use Rattle.std.proofs.Common.{◌≡◌, drop}
use Rattle.std.specs.List.{list_any}
use Rattle.scl_key.specs.Views.{parts_of}
use Rattle.scl_delivered.specs.Delivered.{is_like_macro}
use Rattle.scl_delivered.proofs.object.has_path_like_macro.Given as goal

abbrev pub invariant-loop-part : goal.invariant-loop-part
invariant-loop-part l = list_any is_like_macro (parts_of (drop l.part-index l.parts)) ≡ list_any is_like_macro (parts_of l.parts)
