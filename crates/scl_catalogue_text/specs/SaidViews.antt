-- What the code's lines say, and what it has read so far.
use Rattle.std.specs.Prelude.{map}
use Rattle.std.specs.Option.{option_map}
use Rattle.scl_catalogue.specs.Views.{case_of, entry_of, group_of, tells_of}
use Rattle.scl_catalogue_text.specs.Lines as lines
use Rattle.scl_catalogue_text.specs.declared.read_catalogue.Open.{Open}
use Rattle.scl_catalogue_text.specs.declared.read_catalogue.Reader.{Reader}
use Rattle.scl_catalogue_text.specs.declared.read_line.Said.{Said}
use Rattle.scl_catalogue_text.specs.declared.read_line.Said.TheVariants as said

abbrev pub said_of : Said → lines.Said
said_of said.Nothing = lines.Nothing
said_of (said.Group g) = lines.NewGroup (group_of g)
said_of (said.Entry tells name) = lines.NewEntry (tells_of tells) name.items
said_of (said.Says says) = lines.Says says.items
said_of (said.Case c) = lines.NewCase (case_of c)

abbrev pub open_of : Open → lines.Open
open_of o = record { tells = tells_of o.tells; name = o.name.items; says = o.says.items; cases = map case_of o.cases.items }

abbrev pub so_far : Reader → lines.SoFar
so_far r = record { groups = map group_of r.groups.items; entries = map entry_of r.entries.items; last = option_map open_of r.open }
