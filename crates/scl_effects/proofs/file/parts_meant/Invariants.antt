use Rattle.std.proofs.Common.{◌≡◌, ◌++◌, false, map, drop}
use Rattle.scl_catalogue.specs.Views.{line_of}
use Rattle.scl_effects.specs.Files.{parts_meant}
use Rattle.scl_effects.proofs.file.parts_meant.Given as goal

abbrev pub invariant-loop-part : goal.invariant-loop-part
invariant-loop-part l =
    let filling = parts_meant (line_of l.line) l.value in
    l.text.items ++ filling l.is_name (map (λ part. part.now) (drop l.part-index l.parts)) ≡ filling false (map (λ part. part.now) l.parts)
