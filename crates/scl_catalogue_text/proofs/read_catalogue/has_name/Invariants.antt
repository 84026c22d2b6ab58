use Rattle.std.proofs.Common.{◌≡◌, map, drop}
use Rattle.std.specs.List.{list_any}
use Rattle.std.specs.Str.{bytes_eq}
use Rattle.scl_catalogue.specs.Form.{Entry}
use Rattle.scl_catalogue.specs.Views.{entry_of}
use Rattle.scl_catalogue_text.proofs.read_catalogue.has_name.Given as goal

abbrev pub invariant-loop-entry : goal.invariant-loop-entry
invariant-loop-entry l =
    let p = λ (entry : Entry). bytes_eq entry.name l.name in
    list_any p (map entry_of (drop l.entry-index l.entries)) ≡ list_any p (map entry_of l.entries)
