use Rattle.scl_msvc_reading.proofs.CheckLaws.{msvc_passes, own_joins, inner_passes, xclang_alone, clang_alone, carried_plain, carried_inner_plain}
use Rattle.scl_msvc_reading.proofs.laws.of_tables.Goals as goal

pub returns-clause-msvc_tables_pass_both_checks : goal.returns-clause-msvc_tables_pass_both_checks
returns-clause-msvc_tables_pass_both_checks c = msvc_passes

pub returns-clause-own_flags_join_safely : goal.returns-clause-own_flags_join_safely
returns-clause-own_flags_join_safely c = own_joins

pub returns-clause-clang_tables_pass_both_checks_inside : goal.returns-clause-clang_tables_pass_both_checks_inside
returns-clause-clang_tables_pass_both_checks_inside c = inner_passes

pub returns-clause-no_list_carries_xclang : goal.returns-clause-no_list_carries_xclang
returns-clause-no_list_carries_xclang c = xclang_alone

pub returns-clause-no_list_carries_clang : goal.returns-clause-no_list_carries_clang
returns-clause-no_list_carries_clang c = clang_alone

pub returns-clause-carried_flags_name_no_file : goal.returns-clause-carried_flags_name_no_file
returns-clause-carried_flags_name_no_file c = carried_plain

pub returns-clause-carried_inner_flags_name_no_file : goal.returns-clause-carried_inner_flags_name_no_file
returns-clause-carried_inner_flags_name_no_file c = carried_inner_plain
