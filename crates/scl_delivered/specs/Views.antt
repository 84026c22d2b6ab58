-- What the code's values stand for.
use Rattle.std.specs.Option.{option_map}
use Rattle.scl_values.specs.Words.{words_of}
use Rattle.scl_key.specs.Views.{directs_of, parts_of}
use Rattle.scl_shared_key.specs.Views.{verdict_of}
use Rattle.scl_delivered.specs.declared.delivered.Delivered as declared_delivered
use Rattle.scl_delivered.specs.Delivered.{Delivered}

abbrev pub delivered_of : declared_delivered.Delivered → Delivered
delivered_of d = record {
  verdict = option_map verdict_of d.verdict;
  parts = parts_of d.parts.items;
  direct = directs_of d.direct.items;
  shown = words_of d.shown.items;
}
