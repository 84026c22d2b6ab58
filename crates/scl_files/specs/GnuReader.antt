-- What `split_gnu_response_file_args` does with one character.
use Rattle.std.specs.Prelude.{ℕ, ◌==◌, ◌||◌, cond}
use Rattle.scl_files.specs.Characters.{backslash, single_quote, double_quote}
use Rattle.scl_files.specs.GnuText.{is_gnu_separator}
use Rattle.scl_files.specs.declared.gnu_text.Mode.{Mode}
use Rattle.scl_files.specs.declared.gnu_text.Mode.TheVariants as mode
use Rattle.scl_files.specs.declared.gnu_text.Mark.{Mark}
use Rattle.scl_files.specs.declared.gnu_text.Mark.TheVariants as mark

-- what a character means, and how the next one is read
abbrev pub mark_of : Mode → ℕ → Mark
mark_of mode.Plain c = cond (is_gnu_separator c) mark.Separates (cond (c == backslash || c == single_quote || c == double_quote) mark.Vanishes mark.Stands)
mark_of mode.Escaped c = mark.Stands
mark_of mode.Single c = cond (c == single_quote) mark.Vanishes mark.Stands
mark_of mode.Double c = cond (c == double_quote || c == backslash) mark.Vanishes mark.Stands
mark_of mode.DoubleEscaped c = mark.Stands

abbrev pub mode_after : Mode → ℕ → Mode
mode_after mode.Plain c = cond (c == backslash) mode.Escaped (cond (c == single_quote) mode.Single (cond (c == double_quote) mode.Double mode.Plain))
mode_after mode.Escaped c = mode.Plain
mode_after mode.Single c = cond (c == single_quote) mode.Plain mode.Single
mode_after mode.Double c = cond (c == double_quote) mode.Plain (cond (c == backslash) mode.DoubleEscaped mode.Double)
mode_after mode.DoubleEscaped c = mode.Double
