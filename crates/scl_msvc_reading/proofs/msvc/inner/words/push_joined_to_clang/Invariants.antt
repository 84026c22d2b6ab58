use Rattle.std.proofs.Common.{◌≡◌, ◌++◌, codes}
use Rattle.std.specs.List.{flat_map}
use Rattle.scl_values.specs.Words.{words_of}
use Rattle.scl_args.specs.Wrapped.{wrapped_joined}
use Rattle.scl_msvc_reading.proofs.msvc.inner.words.push_joined_to_clang.Given as goal

abbrev pub invariant-loop-word : goal.invariant-loop-word
invariant-loop-word l = words_of l.words.items ≡ words_of l.fn.words.items ++ flat_map (wrapped_joined (codes "-clang:")) (words_of l.yielded)
