-- What the lines of a text to be mapped say, as the code stores it.
use Rattle.std.specs.Prelude.{◌++◌}
use Rattle.std.specs.Option.{option_to_list}
use Rattle.scl_values.specs.Words.{words_of}
use Rattle.scl_requests.specs.Mapping.{Gathered, Saying, dir_in, piece_in, quoting_in}
use Rattle.scl_requests.specs.Mapping as sayings
use Rattle.scl_requests.specs.declared.mapping.Draft.{Draft}
use Rattle.scl_requests.specs.declared.mapping.Saying as code
use Rattle.scl_requests.specs.declared.mapping.Saying.TheVariants as kept

abbrev pub said_by : code.Saying → Saying
said_by kept.Blank = sayings.Blank
said_by (kept.Base dir) = sayings.Base dir.items
said_by (kept.Quotes quoting) = sayings.Quotes quoting
said_by (kept.Text piece) = sayings.Text piece.items

-- what the lines of a draft say
abbrev pub gathered_by : Draft → Gathered
gathered_by draft = record {
  quotings = option_to_list draft.quoting;
  dirs = words_of draft.dirs.items;
  pieces = words_of draft.pieces.items;
}

-- with one more line
abbrev pub with_line : Gathered → Saying → Gathered
with_line g line = record {
  quotings = g.quotings ++ quoting_in line;
  dirs = g.dirs ++ dir_in line;
  pieces = g.pieces ++ piece_in line;
}
