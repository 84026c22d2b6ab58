use Rattle.std.proofs.Common.{◌≡◌, filter, drop}
use Rattle.std.specs.Option.{option_map}
use Rattle.scl_values.specs.Words.{words_of}
use Rattle.scl_base_dirs.specs.Bases.{placed, fits, numbered, longer, longest, base_of}
use Rattle.scl_base_dirs.proofs.base.base_of.Given as goal

abbrev pub invariant-loop-dir : goal.invariant-loop-dir
invariant-loop-dir l = record {
  counted : l.number ≡ l.dir-index;
  found : longer (option_map (λ base. placed base.number base.dir.now) l.found) (longest (filter (λ place. fits l.spelling place.dir l.path) (numbered l.number (words_of (drop l.dir-index l.dirs))))) ≡ base_of l.spelling (words_of l.dirs) l.path;
}
