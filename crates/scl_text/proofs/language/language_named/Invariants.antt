use Rattle.std.proofs.Common.{◌≡◌, drop}
use Rattle.scl_text.specs.Languages.{language_named, rows_of}
use Rattle.scl_text.proofs.language.language_named.Given as goal

abbrev pub invariant-loop-name : goal.invariant-loop-name
invariant-loop-name l = language_named (rows_of (drop l.name-index l.rows)) l.text ≡ language_named (rows_of l.fn.rows) l.fn.text
