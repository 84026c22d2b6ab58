use Rattle.std.proofs.Common.{rules}
use Rattle.scl_gnu_reading.proofs.gcc.parse.judge_line.Goals as goal

pub returns : goal.returns
returns g c =
    let said = rw (c.multiarch.ensures, c.eq-dashes.ensures) at c.judge_words.ensures in
    search rules
