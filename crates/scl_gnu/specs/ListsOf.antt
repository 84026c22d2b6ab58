-- The words of the lists of a command, borrowed or owned by the code.
use Rattle.std.specs.Prelude.{ℕ, List, Vec}
use Rattle.std.specs.Cow.{cow_slice_items}
use Rattle.std.specs.declared.alloc.Global.{Global}
use Rattle.std.specs.declared.borrow.CowSlice.{CowSlice}
use Rattle.scl_values.specs.Words.{words_of}
use Rattle.scl_gnu.specs.Building.{lists_in_order}
use Rattle.scl_gnu.specs.declared.gcc.words.Lists.{Lists}

abbrev pub list_of : CowSlice (Vec ℕ Global) Global → List (List ℕ)
list_of list = words_of (cow_slice_items list)

abbrev pub lists_of : Lists → List (List ℕ)
lists_of lists = lists_in_order (list_of lists.preprocessor) (list_of lists.dependency) (list_of lists.unhashed) (list_of lists.common) (list_of lists.arch)
