-- What a line says that the code has stored.
use Rattle.scl_cl.specs.Sayings.{Saying}
use Rattle.scl_cl.specs.Sayings as sayings
use Rattle.scl_cl.specs.declared.saying.Saying as code
use Rattle.scl_cl.specs.declared.saying.Saying.TheVariants as kept

abbrev pub said_by : code.Saying → Saying
said_by kept.Blank = sayings.Blank
said_by (kept.Compiler compiler) = sayings.Compiler compiler
said_by (kept.Directory path) = sayings.Directory path.items
said_by (kept.Word word) = sayings.Word word.items
said_by (kept.File path bytes) = sayings.File path.items bytes.items
said_by (kept.ViewedDirectory path) = sayings.ViewedDirectory path.items
said_by (kept.Existing path) = sayings.Existing path.items
said_by (kept.Variable key value) = sayings.Variable key.items value.items
said_by kept.Multiarch = sayings.Multiarch
