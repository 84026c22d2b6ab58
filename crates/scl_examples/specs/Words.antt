-- Rows of lists of words: the architectures among them, and what messages show of them.
use Rattle.std.specs.Prelude.{◌≡◌, ℕ, List, [], ◌∷◌, ◌++◌, codes}
use Rattle.scl_text.specs.Records.{archs}
use Rattle.scl_values.specs.Escaped.{quoted, quoted_list}
use Rattle.scl_examples.specs.Written.{words}

-- each once, and a last flag has none
abbrev pub ArchitecturesAreFound : Type 0
ArchitecturesAreFound =
    (archs (words "-arch i386 -arch i386 -arch x86_64 -arch") ≡ words "i386 x86_64")
    × (archs (words "-arch i386 -arch i386 -arch") ≡ words "i386")
    × (archs [] ≡ [])

-- in quotes a space, a backslash and what is not printable ASCII are escaped
abbrev pub WordsAreQuoted : Type 0
WordsAreQuoted =
    (quoted (codes "a b") ≡ codes "\"a\\x20b\"")
    × (quoted_list [] ≡ codes "[]")
    × (quoted_list (codes "a" ∷ (codes "!a~ \\" ++ 0x7F ∷ 0xFF ∷ 0xA ∷ []) ∷ []) ≡ codes "[\"a\", \"!a~\\x20\\x5c\\x7f\\xff\\x0a\"]")
