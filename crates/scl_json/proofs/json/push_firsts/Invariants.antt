use Rattle.std.proofs.Common.{◌≡◌, ◌++◌, map, take}
use Rattle.scl_values.specs.Words.{words_of}
use Rattle.scl_json.proofs.json.push_firsts.Given as goal

abbrev pub invariant-loop-first : goal.invariant-loop-first
invariant-loop-first l = words_of l.names.items ≡ words_of l.fn.names.items ++ map (λ first. first.now) (take l.first-index l.firsts)
