-- A text that is read byte by byte.
use Rattle.std.proofs.Common.{◌≡◌, ◌-◌, ◌<◌, ℕ, zero, suc, List, [], ◌∷◌, drop, refl, ap, arith}
use Rattle.scl_patterns.specs.Assembled.{read_from, reading}
use Rattle.scl_patterns.specs.declared.assembled.Pass.{Pass}

pub passed_over : (pass : Pass) (skip : ℕ) (text : List ℕ) → 0 < skip → read_from (reading pass) (skip - 1) (drop 1 text) ≡ read_from (reading pass) skip text
passed_over pass zero text h = absurd (omega (arith, h))
passed_over pass (suc skip) [] h = refl
passed_over pass (suc skip) (byte ∷ text) h = let same : suc skip - 1 ≡ skip = omega arith in ap (λ n. read_from (reading pass) n text) same
