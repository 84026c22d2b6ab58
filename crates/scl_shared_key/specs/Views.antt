-- What the code's objects and verdicts stand for.
use Rattle.std.specs.Prelude.{◌++◌}
use Rattle.scl_values.specs.Words.{words_of}
use Rattle.scl_catalogue.specs.Views.{lexicon_of}
use Rattle.scl_shared_key.specs.declared.object.Object as declared_object
use Rattle.scl_shared_key.specs.declared.said.Verdict as declared_verdict
use Rattle.scl_shared_key.specs.Objects.{Object}
use Rattle.scl_shared_key.specs.Verdicts.{Verdict}

abbrev pub object_of : declared_object.Object → Object
object_of o = record {
  is_by_gcc = o.is_by_gcc;
  is_of_c = o.is_of_c;
  is_of_shown_text = o.is_of_shown_text;
  is_alone = o.is_alone;
  lexicon = lexicon_of o.lexicon.now;
  words = words_of o.common.now ++ words_of o.arch.now ++ words_of o.unhashed.now;
}

abbrev pub verdict_of : declared_verdict.Verdict → Verdict
verdict_of v = record { in_object = v.in_object; shown = v.shown.now; planned = v.planned.now }
