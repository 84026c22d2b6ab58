-- What `shell_words` does with one byte.
use Rattle.std.specs.Prelude.{ℕ, ◌==◌, ◌||◌, cond, List, [], ◌∷◌, Option, None, Vec}
use Rattle.std.specs.Option.{option_map}
use Rattle.std.specs.declared.alloc.Global.{Global}
use Rattle.scl_shell.specs.ShellText.{is_blank, is_special, line_feed, double_quote, single_quote, backslash, kept, with}
use Rattle.scl_shell.specs.declared.split.Mode.{Mode}
use Rattle.scl_shell.specs.declared.split.Mode.TheVariants as mode
use Rattle.scl_shell.specs.declared.split.Mark.{Mark}
use Rattle.scl_shell.specs.declared.split.Mark.TheVariants as mark

-- what a byte does, and how the next one is read
abbrev pub mark_of : Mode → ℕ → Mark
mark_of mode.Plain c = cond (c == backslash) mark.Vanishes (cond (c == single_quote || c == double_quote) mark.Opens (cond (is_blank c) mark.Separates mark.Stands))
mark_of mode.Escaped c = cond (c == line_feed) mark.Vanishes mark.Stands
mark_of mode.Single c = cond (c == single_quote) mark.Vanishes mark.Stands
mark_of mode.Double c = cond (c == double_quote || c == backslash) mark.Vanishes mark.Stands
mark_of mode.DoubleEscaped c = cond (c == line_feed) mark.Vanishes (cond (is_special c) mark.Stands mark.StandsBehindBackslash)

abbrev pub mode_after : Mode → ℕ → Mode
mode_after mode.Plain c = cond (c == backslash) mode.Escaped (cond (c == single_quote) mode.Single (cond (c == double_quote) mode.Double mode.Plain))
mode_after mode.Escaped c = mode.Plain
mode_after mode.Single c = cond (c == single_quote) mode.Plain mode.Single
mode_after mode.Double c = cond (c == double_quote) mode.Plain (cond (c == backslash) mode.DoubleEscaped mode.Double)
mode_after mode.DoubleEscaped c = mode.Double

-- the word that a byte ends
abbrev pub closed : Mark → Option (List ℕ) → List (List ℕ)
closed mark.Separates begun = kept begun
closed mark.Vanishes begun = []
closed mark.Opens begun = []
closed mark.Stands begun = []
closed mark.StandsBehindBackslash begun = []

-- the part of a word that has begun after a byte
abbrev pub begun_after : Mark → ℕ → Option (List ℕ) → Option (List ℕ)
begun_after mark.Separates c begun = None
begun_after mark.Vanishes c begun = begun
begun_after mark.Opens c begun = with begun []
begun_after mark.Stands c begun = with begun (c ∷ [])
begun_after mark.StandsBehindBackslash c begun = with (with begun (backslash ∷ [])) (c ∷ [])

-- the bytes of a word that has begun
abbrev pub begun_of : Option (Vec ℕ Global) → Option (List ℕ)
begun_of begun = option_map (λ word. word.items) begun
