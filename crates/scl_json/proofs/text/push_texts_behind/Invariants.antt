use Rattle.std.proofs.Common.{◌≡◌, ◌++◌, map, take}
use Rattle.std.specs.List.{flat_map}
use Rattle.scl_values.specs.Words.{words_of}
use Rattle.scl_json.specs.Texts.{behind_comma, text}
use Rattle.scl_json.proofs.text.push_texts_behind.Given as goal

abbrev pub invariant-loop-word : goal.invariant-loop-word
invariant-loop-word l = l.json.items ≡ l.fn.json.items ++ flat_map behind_comma (map text (words_of (take l.word-index l.words)))
