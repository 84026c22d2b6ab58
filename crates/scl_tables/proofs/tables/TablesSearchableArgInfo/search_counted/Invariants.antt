use Rattle.std.proofs.Common.{◌≡◌, ◌+◌, ◌≤◌, drop, true, OnSome}
use Rattle.std.specs.List.{flat_map}
use Rattle.scl_values.specs.Row.{row_at}
use Rattle.scl_values.specs.Tables.{longer, owner_in, finds_ascii_delimiter}
use Rattle.scl_tables.specs.Probes.{looks_in, Rises}
use Rattle.scl_tables.proofs.tables.TablesSearchableArgInfo.search_counted.Given as goal

abbrev pub invariant-loop-member : goal.invariant-loop-member
invariant-loop-member g l =
    let all = flat_map g.S.SearchableArgInfo.tables l.member-items in
    let left = flat_map g.S.SearchableArgInfo.tables (drop l.member-index l.member-items) in
    record {
      owner : longer (row_at l.owner) (owner_in left l.key) ≡ owner_in all l.key;
      delimiter : finds_ascii_delimiter (row_at l.owner) ≡ true;
      keeps : l.initial.probes ≤ l.probes;
      most : l.probes + looks_in left l.key ≤ l.initial.probes + looks_in all l.key;
      rises : OnSome l.owner (Rises l.initial.probes l.probes);
    }
