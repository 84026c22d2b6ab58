-- What the code's catalogues and lines hold.
use Rattle.std.specs.Prelude.{ℕ, List, [], ◌∷◌, Option, drop, map, take}
use Rattle.std.specs.Option.{option_copied}
use Rattle.scl_values.specs.Words.{words_of}
use Rattle.scl_catalogue.specs.Form as form
use Rattle.scl_catalogue.specs.Found.{LineSeen, OptionSeen}
use Rattle.scl_catalogue.specs.declared.case.Case.{Case}
use Rattle.scl_catalogue.specs.declared.catalogue.Catalogue.{Catalogue}
use Rattle.scl_catalogue.specs.declared.condition.Condition.{Condition}
use Rattle.scl_catalogue.specs.declared.condition.Question.{Question}
use Rattle.scl_catalogue.specs.declared.condition.Question.TheVariants as question
use Rattle.scl_catalogue.specs.declared.entry.Entry.{Entry}
use Rattle.scl_catalogue.specs.declared.entry.Tells.{Tells}
use Rattle.scl_catalogue.specs.declared.entry.Tells.TheVariants as tells
use Rattle.scl_catalogue.specs.declared.line.Line.{Line}
use Rattle.scl_catalogue.specs.declared.lookup.Flagged as code
use Rattle.scl_catalogue.specs.declared.lookup.Lexicon as declared
use Rattle.scl_catalogue.specs.declared.lookup.Stated.{Stated}
use Rattle.scl_catalogue.specs.Lookup.{Flagged, Lexicon, Said}
use Rattle.scl_catalogue.specs.declared.relation.Relation.{Relation}
use Rattle.scl_catalogue.specs.declared.relation.Relation.TheVariants as relation
use Rattle.scl_catalogue.specs.declared.seen.Seen.{Seen}
use Rattle.scl_catalogue.specs.declared.test.Demand.{Demand}
use Rattle.scl_catalogue.specs.declared.test.Demand.TheVariants as demand
use Rattle.scl_catalogue.specs.declared.test.Group.{Group}
use Rattle.scl_catalogue.specs.declared.test.Test.{Test}
use Rattle.scl_catalogue.specs.declared.text.Cut.{Cut}
use Rattle.scl_catalogue.specs.declared.text.Patterns.{Patterns}
use Rattle.scl_catalogue.specs.declared.text.Text.{Text}

-- the patterns whose texts stand one behind the other
abbrev pub cut_up : List ℕ → List Cut → List form.Pattern
cut_up bs [] = []
cut_up bs (c ∷ cs) = record { how = c.how; text = take c.length bs } ∷ cut_up (drop c.length bs) cs

abbrev pub patterns_of : Patterns → List form.Pattern
patterns_of p = cut_up p.texts.items p.cuts.items

abbrev pub text_of : Text → form.Text
text_of t = record { any = patterns_of t.any; but = patterns_of t.but }

abbrev pub demand_of : Demand → form.Demand
demand_of (demand.Marked m) = form.Marked m
demand_of (demand.Value text) = form.Value (text_of text)
demand_of (demand.Part text) = form.Part (text_of text)

abbrev pub test_of : Test → form.Test
test_of t = record { class = t.class; names = text_of t.names; demands = map demand_of t.demands.items }

abbrev pub group_of : Group → form.Group
group_of g = record { name = g.name.items; tests = map test_of g.tests.items }

abbrev pub relation_of : Relation → form.Relation
relation_of (relation.Any g) = form.Any (group_of g)
relation_of (relation.Two g) = form.Two (group_of g)
relation_of (relation.Before g h) = form.Before (group_of g) (group_of h)
relation_of (relation.Unfollowed g h) = form.Unfollowed (group_of g) (group_of h)
relation_of (relation.Last g h) = form.Last (group_of g) (group_of h)

abbrev pub question_of : Question → form.Question
question_of (question.Is f) = form.Is f
question_of (question.At p text) = form.At p (text_of text)
question_of (question.Given r) = form.Given (relation_of r)
question_of (question.Inner r) = form.Inner (relation_of r)

abbrev pub condition_of : Condition → form.Condition
condition_of c = record { is_denied = c.is_denied; question = question_of c.question }

abbrev pub case_of : Case → form.Case
case_of c = record { served = c.served.items; conditions = map condition_of c.conditions.items }

abbrev pub tells_of : Tells → form.Tells
tells_of (tells.Hazard d) = form.Hazard d
tells_of (tells.Effect v file) = form.Effect v file.items
tells_of tells.Plain = form.Plain
tells_of (tells.Key d) = form.Key d
tells_of (tells.Run d) = form.Run d
tells_of (tells.Names n) = form.Names n
tells_of (tells.Brings b) = form.Brings b

abbrev pub entry_of : Entry → form.Entry
entry_of e = record { tells = tells_of e.tells; name = e.name.items; says = e.says.items; cases = map case_of e.cases.items; numbers = e.numbers }

abbrev pub catalogue_of : Catalogue → form.Catalogue
catalogue_of c = record { groups = map group_of c.groups.items; entries = map entry_of c.entries.items }

abbrev pub said_of : {A : Type 0} → Stated A → Said A
said_of s = record { says = s.says; entry = entry_of s.entry.now }

abbrev pub flagged_of : code.Flagged → Flagged
flagged_of f = record { brings = f.brings; words = text_of f.words.now }

abbrev pub lexicon_of : declared.Lexicon → Lexicon
lexicon_of l = record {
  compiler = l.compiler;
  version = l.version;
  key = map said_of l.key.items;
  run = map said_of l.run.items;
  names = map said_of l.names.items;
  brings = map flagged_of l.brings.items;
}

abbrev pub seen_of : Seen → OptionSeen
seen_of o = record { standing = o.standing; name = o.name.now; kind = o.kind.now; value = o.value.now; marks = o.marks }

abbrev pub line_of : Line → LineSeen
line_of l = record {
  compiler = l.compiler;
  version = l.version;
  facts = l.facts;
  options = map seen_of l.options.now;
  inner = map seen_of l.inner.now;
  words = words_of l.words.now;
  files = words_of l.files.now;
  environment = words_of l.environment.now;
  language = l.language.now;
  input = l.input.now;
  extension = option_copied l.extension;
  object = l.object.now;
}
