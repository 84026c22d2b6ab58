-- What is asked of what a word makes the object name. A catalogue says that of words; trials/directories.txt has what was tried.
use Rattle.std.specs.Prelude.{Bool, true, false}
use Rattle.scl_catalogue.specs.declared.entry.Naming.{Naming}
use Rattle.scl_catalogue.specs.declared.entry.Naming.TheVariants.{Nothing, DebugInfo, FileMap, DebugMap, MacroMap, Anything}

abbrev pub is_debug_info : Naming → Bool
is_debug_info Nothing = false
is_debug_info DebugInfo = true
is_debug_info FileMap = false
is_debug_info DebugMap = false
is_debug_info MacroMap = false
is_debug_info Anything = false

abbrev pub is_anything : Naming → Bool
is_anything Nothing = false
is_anything DebugInfo = false
is_anything FileMap = false
is_anything DebugMap = false
is_anything MacroMap = false
is_anything Anything = true
