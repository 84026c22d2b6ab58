-- What the code's values stand for.
use Rattle.std.specs.Prelude.{List, map}
use Rattle.std.specs.Option.{option_copied}
use Rattle.scl_key.specs.declared.effect.Judged as declared_judged
use Rattle.scl_key.specs.declared.given.Given as declared_given
use Rattle.scl_key.specs.declared.known.Known as declared_known
use Rattle.scl_key.specs.Effects.{Judged, judged}
use Rattle.scl_key.specs.Given.{Given}
use Rattle.scl_key.specs.Known.{Known}
use Rattle.scl_key.specs.Views.{outputs_of}

abbrev pub judged_of : declared_judged.Judged → Judged
judged_of j = judged j.word.now j.doing

abbrev pub all_judged : List declared_judged.Judged → List Judged
all_judged js = map judged_of js

abbrev pub given_of : declared_given.Given → Given
given_of g = record { brings = g.brings; flag = option_copied g.flag; word = g.word.now; value = g.value.now }

abbrev pub all_given : List declared_given.Given → List Given
all_given gs = map given_of gs

abbrev pub known_of : declared_known.Known → Known
known_of k = record {
  preprocessor = all_judged k.preprocessor.items;
  common = all_judged k.common.items;
  unhashed = all_judged k.unhashed.items;
  dependency = all_judged k.dependency.items;
  given = all_given k.given.items;
  made = outputs_of k.made.items;
}
