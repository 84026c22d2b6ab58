use Rattle.std.proofs.Common.{◌≡◌, drop}
use Rattle.scl_shared_key.specs.Fields.{flags_of, flag_length}
use Rattle.scl_shared_key.proofs.field.flag_length.Given as goal

abbrev pub invariant-loop-text : goal.invariant-loop-text
invariant-loop-text l = flag_length (flags_of (drop l.text-index l.texts)) l.word ≡ flag_length (flags_of l.texts) l.word
