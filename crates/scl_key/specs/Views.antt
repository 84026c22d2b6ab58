-- What the code's values stand for.
use Rattle.std.specs.Prelude.{List, map, ℕ}
use Rattle.scl_text.specs.Records.{Artifact, artifact}
use Rattle.scl_values.specs.Words.{words_of}
use Rattle.scl_key.specs.declared.direct.Direct as declared_direct
use Rattle.scl_key.specs.declared.direct.Direct.TheVariants as directs
use Rattle.scl_key.specs.declared.key.Key as declared_key
use Rattle.scl_key.specs.declared.key.Keeping as declared_keeping
use Rattle.scl_key.specs.declared.key.Keeping.TheVariants as keepings
use Rattle.scl_key.specs.declared.no_key.NoKey as declared_no_key
use Rattle.scl_key.specs.declared.part.Output as declared_output
use Rattle.scl_key.specs.declared.part.Part as declared_part
use Rattle.scl_key.specs.declared.part.Part.TheVariants as parts
use Rattle.scl_key.specs.declared.told.RunWords as declared_words
use Rattle.scl_key.specs.declared.told.RunWords.TheVariants as run_words
use Rattle.scl_key.specs.Directs.{Direct, env, search, first, named, refuse_if_read}
use Rattle.scl_key.specs.Keys.{Key, Keeping, under, not_kept, NoKey, no_key}
use Rattle.scl_key.specs.Parts.{Part, is, output, directory, compiler, plan, asked, run, run_else, pch, sources, times}
use Rattle.scl_key.specs.Told.{RunWords, built, given, hazardous}

abbrev pub output_of : declared_output.Output → Artifact
output_of o = artifact o.name.items o.path.items o.optional

abbrev pub outputs_of : List declared_output.Output → List Artifact
outputs_of outputs = map output_of outputs

abbrev pub paths_of : List declared_output.Output → List (List ℕ)
paths_of outputs = map (λ o. o.path.items) outputs

abbrev pub part_of : declared_part.Part → Part
part_of (parts.Is row) = is (words_of row.items)
part_of (parts.Output made) = output (output_of made)
part_of parts.Directory = directory
part_of parts.Compiler = compiler
part_of (parts.Plan words) = plan (words_of words.items)
part_of (parts.Asked ask name) = asked ask name.items
part_of (parts.Run words) = run (words_of words.items)
part_of (parts.RunElse words) = run_else (words_of words.items)
part_of (parts.Pch searched) = pch (words_of searched.items)
part_of parts.Sources = sources
part_of parts.Times = times

abbrev pub parts_of : List declared_part.Part → List Part
parts_of ps = map part_of ps

abbrev pub direct_of : declared_direct.Direct → Direct
direct_of (directs.Env name) = env name.now
direct_of (directs.Search words) = search (words_of words.items)
direct_of (directs.First header) = first header.items
direct_of (directs.Named pattern) = named pattern.now
direct_of (directs.RefuseIfRead pattern) = refuse_if_read pattern.now

abbrev pub directs_of : List declared_direct.Direct → List Direct
directs_of ds = map direct_of ds

abbrev pub run_words_of : declared_words.RunWords → RunWords
run_words_of run_words.Built = built
run_words_of (run_words.Given words files) = given (words_of words.now) (words_of files.now)
run_words_of (run_words.Hazardous hazard) = hazardous hazard.now

abbrev pub no_key_of : declared_no_key.NoKey → NoKey
no_key_of n = no_key n.reason n.word.items

abbrev pub no_keys_of : List declared_no_key.NoKey → List NoKey
no_keys_of why = map no_key_of why

abbrev pub key_of : declared_key.Key → Key
key_of k = record { is_shown = k.is_shown; parts = parts_of k.parts.items; direct = directs_of k.direct.items }

abbrev pub keeping_of : declared_keeping.Keeping → Keeping
keeping_of (keepings.Under key) = under (key_of key)
keeping_of (keepings.Not why) = not_kept (no_keys_of why.items)
