use Rattle.std.proofs.Common.{sym, ◌∙◌}
use Rattle.scl_files.proofs.DecodeLemmas.{windows-more}
use Rattle.scl_files.proofs.decode.windows_text.Goals as goal

pub loop-byte-preserved : goal.loop-byte-preserved
loop-byte-preserved c =
    let e = windows-more c.args.bytes.now c.loop-byte.byte-index c.loop-byte-test.true in
    c.in_ok-push.ensures.bytes ∙ rw (c.loop-byte.invariant, c.windows_char.ensures) (sym e)
