use Rattle.std.proofs.Common.{◌≡◌, map, take}
use Rattle.scl_catalogue.specs.Lookup.{lexicon_of_entries}
use Rattle.scl_catalogue.specs.Views.{entry_of, lexicon_of}
use Rattle.scl_catalogue.proofs.lookup.Lexicon.of.Given as goal

abbrev pub invariant-loop-entry : goal.invariant-loop-entry
invariant-loop-entry l = lexicon_of l.lexicon ≡ lexicon_of_entries l.fn.compiler l.fn.version (map entry_of (take l.entry-index l.catalogue.entries.items))
