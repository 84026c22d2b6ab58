use Rattle.scl_delivered.proofs.DirectoryLaws.{direct_hits_with_directories_are_right, hits_with_directories_are_right, nothing_is_told_without_directories, told_keys_stand_apart}
use Rattle.scl_delivered.proofs.laws.of_hits_with_directories.Goals as goal

pub returns : goal.returns
returns c = record {
  hits_are_right = hits_with_directories_are_right;
  direct_hits_are_right = direct_hits_with_directories_are_right;
  told_keys_stand_apart = told_keys_stand_apart;
  nothing_is_told_without_directories = nothing_is_told_without_directories;
}
