use Rattle.std.proofs.Common.{◌≡◌, ℕ, ◌+◌, ◌<◌, ◌≤◌, List, length, take, sym, ap, arith}
use Rattle.scl_values.specs.Words.{words_of}
use Rattle.scl_files.specs.Within.{bytes_in}
use Rattle.scl_files.proofs.LimitLemmas.{rest_over, taken_bytes}
use Rattle.scl_files.proofs.line.are_within.Goals as goal

pub returns-then-bytes-left : goal.returns-then-bytes-left
returns-then-bytes-left c =
    let words = c.args.words.now in
    let i = c.loop-word.word-index in
    let word = c.word-item.result in
    let before : c.loop-word.left + bytes_in (words_of (take i words)) ≡ c.args.most.bytes = c.loop-word.invariant.left in
    let is : length c.as_slice-bytes.result.now ≡ length word.items = ap (λ (bytes : List ℕ). length bytes) c.as_slice-bytes.ensures.value in
    let longer : c.loop-word.left < length c.as_slice-bytes.result.now = c.if-bytes-left.true in
    sym (rest_over c.args.most words i word c.loop-word-test.true c.word-item.is (omega arith))

pub loop-word-preserved : goal.loop-word-preserved
loop-word-preserved c =
    let words = c.args.words.now in
    let i = c.loop-word.word-index in
    let word = c.word-item.result in
    let before : c.loop-word.left + bytes_in (words_of (take i words)) ≡ c.args.most.bytes = c.loop-word.invariant.left in
    let is : length c.as_slice-bytes.result.now ≡ length word.items = ap (λ (bytes : List ℕ). length bytes) c.as_slice-bytes.ensures.value in
    let fits : length c.as_slice-bytes.result.now ≤ c.loop-word.left = c.if-bytes-left.false in
    let more : bytes_in (words_of (take (i + 1) words)) ≡ bytes_in (words_of (take i words)) + length word.items = taken_bytes words i word c.loop-word-test.true c.word-item.is in
    record { left = omega arith; few = c.loop-word.invariant.few }
