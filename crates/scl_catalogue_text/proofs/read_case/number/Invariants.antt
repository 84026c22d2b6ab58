use Rattle.std.proofs.Common.{◌≡◌, drop}
use Rattle.scl_catalogue_text.specs.Reading.{number_from}
use Rattle.scl_catalogue_text.proofs.read_case.number.Given as goal

abbrev pub invariant-loop-byte : goal.invariant-loop-byte
invariant-loop-byte l = number_from l.number (drop l.byte-index l.word) ≡ number_from 0 l.word
