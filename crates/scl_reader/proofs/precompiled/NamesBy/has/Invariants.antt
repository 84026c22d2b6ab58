use Rattle.std.proofs.Common.{◌≡◌, drop, map}
use Rattle.std.specs.List.{list_any}
use Rattle.std.specs.Str.{bytes_eq}
use Rattle.scl_reader.proofs.precompiled.NamesBy.has.Given as goal

abbrev pub invariant-loop-other : goal.invariant-loop-other
invariant-loop-other l =
    list_any (λ other. bytes_eq other l.flag) (map (λ flag. flag.now) (drop l.other-index l.self.0.now)) ≡ list_any (λ other. bytes_eq other l.flag) (map (λ flag. flag.now) l.self.0.now)
