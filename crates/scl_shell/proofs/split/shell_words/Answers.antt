use Rattle.std.proofs.Common.{Ok, Err, arith}
use Rattle.scl_values.specs.Words.{words_of}
use Rattle.scl_shell.specs.ShellReader.{begun_of}
use Rattle.scl_shell.specs.declared.split.ShellError.TheVariants as errors
use Rattle.scl_shell.proofs.ShellLemmas.{ended-plain, ended-escaped, ended-open, last_step}
use Rattle.scl_shell.proofs.split.shell_words.Goals as goal

pub returns-in_ok-keep-in-Plain-clause-words : goal.returns-in_ok-keep-in-Plain-clause-words
returns-in_ok-keep-in-Plain-clause-words c =
    let words = words_of c.loop-byte.words.items in
    let begun = begun_of c.loop-byte.begun in
    let all = words_of c.keep.new.words.items in
    last_step c.args.text.now c.loop-byte.byte-index c.loop-byte.mode words begun (Ok all) (omega arith) c.loop-byte.invariant
    (ended-plain c.loop-byte.mode words all begun c.in-Plain.is c.in_ok-keep-in-Plain.ensures)

pub returns-in-Escaped-clause-broken : goal.returns-in-Escaped-clause-broken
returns-in-Escaped-clause-broken c =
    let words = words_of c.loop-byte.words.items in
    let begun = begun_of c.loop-byte.begun in
    last_step c.args.text.now c.loop-byte.byte-index c.loop-byte.mode words begun (Err errors.LastBackslash) (omega arith) c.loop-byte.invariant
    (ended-escaped c.loop-byte.mode words begun c.in-Escaped.is)

pub returns-in-Single : goal.returns-in-Single
returns-in-Single c =
    let words = words_of c.loop-byte.words.items in
    let begun = begun_of c.loop-byte.begun in
    record {
      words = tt;
      broken = last_step c.args.text.now c.loop-byte.byte-index c.loop-byte.mode words begun (Err errors.OpenQuote) (omega arith) c.loop-byte.invariant
          (ended-open c.loop-byte.mode words begun c.in-Single.is);
    }
