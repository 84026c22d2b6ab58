use Rattle.scl_delivered.proofs.DeliveredLaws.{delivered_keys_decide, kept_macros_stand, macros_stand_in_runs, named_keys_stand}
use Rattle.scl_delivered.proofs.laws.of_delivered_keys.Goals as goal

pub returns : goal.returns
returns c = record {
  named_keys_stand = named_keys_stand;
  kept_macros_stand = kept_macros_stand;
  macros_stand_in_runs = macros_stand_in_runs;
  delivered_keys_decide = delivered_keys_decide;
}
