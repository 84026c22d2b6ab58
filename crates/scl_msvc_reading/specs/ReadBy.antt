-- The inner lines of a reading, as the code stores them.
use Rattle.std.specs.Prelude.{◌≡◌, ℕ, List}
use Rattle.scl_files.specs.Views.{Viewed}
use Rattle.scl_msvc_reading.specs.Reads.{either, handed_words, line_behind, only_clang, only_xclang}
use Rattle.scl_msvc_reading.specs.declared.msvc.data.Kind.{Kind}
use Rattle.scl_msvc_reading.specs.declared.msvc.reading.InnerLines.{InnerLines}
use Rattle.scl_text.specs.Lines.{JudgedLine}
use Rattle.scl_values.specs.Words.{words_of}

-- these are the inner lines of the line
abbrev pub AreInnerLines : List ℕ → Viewed → JudgedLine Kind → InnerLines → Type 0
AreInnerLines directory view outer l =
    (l.xclang ≡ line_behind only_xclang directory view outer)
    × (l.clang ≡ line_behind only_clang directory view outer)
    × (words_of l.handed.items ≡ handed_words either outer)
    × (l.either ≡ line_behind either directory view outer)
