use Rattle.std.proofs.Common.{◌≡◌, ◌++◌}
use Rattle.std.specs.List.{filter_map}
use Rattle.scl_values.specs.Words.{words_of}
use Rattle.scl_text.proofs.ArchLemmas.{new_words}
use Rattle.scl_msvc.specs.Depfile.{HasWords, name_in, names}
use Rattle.scl_msvc.proofs.msvc.depfile.gather.Given as goal

abbrev pub invariant-loop-line : goal.invariant-loop-line
invariant-loop-line l = record {
  names : words_of l.names.items ++ new_words (words_of l.names.items) (filter_map (name_in l.prefix) l.line-iterator) ≡ names l.prefix l.fn.stderr;
  set : HasWords l.seen (words_of l.names.items);
}
