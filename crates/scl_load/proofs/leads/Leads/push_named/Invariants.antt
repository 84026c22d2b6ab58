use Rattle.std.proofs.Common.{◌≡◌, take}
use Rattle.scl_values.specs.Words.{words_of}
use Rattle.scl_load.specs.Leads.{leads_named, leads_of, with_more}
use Rattle.scl_load.proofs.leads.Leads.push_named.Given as goal

abbrev pub invariant-loop-word : goal.invariant-loop-word
invariant-loop-word l = leads_of l.self ≡ with_more (leads_of l.initial.self) (leads_named l.kind l.initial.self.directory.now (words_of (take l.word-index l.words)) l.depth)
