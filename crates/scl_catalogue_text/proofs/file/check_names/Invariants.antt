use Rattle.std.proofs.Common.{◌≡◌, map, drop}
use Rattle.scl_catalogue_text.specs.Files.{names_read}
use Rattle.scl_catalogue_text.proofs.file.check_names.Given as goal

abbrev pub invariant-loop-part : goal.invariant-loop-part
invariant-loop-part l = names_read (map (λ part. part.now) (drop l.part-index l.parts)) ≡ names_read (map (λ part. part.now) l.parts)
