use Rattle.scl_gnu_reading.proofs.CheckLaws.{gcc_passes, clang_passes, inner_passes, no_xclang, carried_plain, carried_inner_plain}
use Rattle.scl_gnu_reading.proofs.laws.of_tables.Goals as goal

pub returns-clause-gcc_table_passes_both_checks : goal.returns-clause-gcc_table_passes_both_checks
returns-clause-gcc_table_passes_both_checks c = gcc_passes

pub returns-clause-clang_tables_pass_both_checks : goal.returns-clause-clang_tables_pass_both_checks
returns-clause-clang_tables_pass_both_checks c = clang_passes

pub returns-clause-clang_tables_pass_both_checks_inside : goal.returns-clause-clang_tables_pass_both_checks_inside
returns-clause-clang_tables_pass_both_checks_inside c = inner_passes

pub returns-clause-no_list_carries_xclang : goal.returns-clause-no_list_carries_xclang
returns-clause-no_list_carries_xclang c = no_xclang

pub returns-clause-carried_flags_name_no_file : goal.returns-clause-carried_flags_name_no_file
returns-clause-carried_flags_name_no_file c = carried_plain

pub returns-clause-carried_inner_flags_name_no_file : goal.returns-clause-carried_inner_flags_name_no_file
returns-clause-carried_inner_flags_name_no_file c = carried_inner_plain
