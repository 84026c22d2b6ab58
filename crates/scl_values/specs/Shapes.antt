-- The shapes of tables, by the names that the program has for them.
use Rattle.std.specs.Prelude.{None, Some}
use Rattle.scl_values.specs.Row.{Shape, apart, joined, either}

abbrev pub APART : Shape
APART = apart

abbrev pub JOINED : Shape
JOINED = joined None

abbrev pub JOINED_COMMA : Shape
JOINED_COMMA = joined (Some 44)

abbrev pub JOINED_DASH : Shape
JOINED_DASH = joined (Some 45)

abbrev pub JOINED_EQUALS : Shape
JOINED_EQUALS = joined (Some 61)

abbrev pub EITHER : Shape
EITHER = either None

abbrev pub EITHER_EQUALS : Shape
EITHER_EQUALS = either (Some 61)
