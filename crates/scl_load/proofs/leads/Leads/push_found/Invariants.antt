use Rattle.std.proofs.Common.{◌≡◌, take}
use Rattle.std.specs.List.{flat_map}
use Rattle.scl_reader.specs.Reads.{lacked_of}
use Rattle.scl_load.specs.Leads.{file_leads, leads_of, with_more}
use Rattle.scl_load.proofs.leads.Leads.push_found.Given as goal

abbrev pub invariant-loop-file : goal.invariant-loop-file
invariant-loop-file l =
    leads_of l.self ≡ with_more (leads_of l.initial.self) (flat_map (file_leads l.view l.initial.self.directory.now l.depth) (lacked_of (take l.file-index l.file-items)))
