use Rattle.std.proofs.Common.{◌≡◌, ◌++◌}
use Rattle.std.specs.List.{flat_map}
use Rattle.std.specs.Str.{chars, IsUtf8}
use Rattle.std.specs.Str.Iter.{chars_rest}
use Rattle.scl_json.specs.Texts.{char_text}
use Rattle.scl_json.proofs.text.push_chars.Given as goal

abbrev pub invariant-loop-c : goal.invariant-loop-c
invariant-loop-c l =
    IsUtf8 (chars_rest l.c-iterator)
    × (l.json.items ++ flat_map char_text (chars (chars_rest l.c-iterator)) ≡ l.fn.json.items ++ flat_map char_text (chars l.text))
