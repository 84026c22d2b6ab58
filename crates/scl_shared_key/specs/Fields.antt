-- Fields of rows, told by base directories.
use Rattle.std.specs.Prelude.{ℕ, nat_eq, List, [], ◌∷◌, length, map, find, Some, unwrap_or, codes}
use Rattle.std.specs.Borrow.{Bor}
use Rattle.std.specs.List.{starts_with}
use Rattle.std.specs.Option.{option_map}
use Rattle.scl_base_dirs.specs.Told.{told_word}

-- flags that may have a path directly behind them
unfoldable pub flags : List (List ℕ)
flags =
    codes "-I"
    ∷ codes "-iquote"
    ∷ codes "-isystem"
    ∷ codes "-idirafter"
    ∷ codes "-include"
    ∷ codes "-imacros"
    ∷ codes "-L"
    ∷ codes "-B"
    ∷ codes "-o"
    ∷ codes "-MF"
    ∷ codes "-MT"
    ∷ codes "-MQ"
    ∷ []

abbrev pub flags_of : List (Bor (List ℕ)) → List (List ℕ)
flags_of texts = map (λ text. text.now) texts

-- the length of the first of the flags with which the word begins; 0 if it begins with none
abbrev pub flag_length : List (List ℕ) → List ℕ → ℕ
flag_length texts word = unwrap_or (option_map length (find (starts_with nat_eq word) texts)) 0

-- where the value of a word begins
abbrev pub value_at : List ℕ → ℕ
value_at word = flag_length flags word

-- Of an option the paths behind its flag and each `=` are told, of any other field those at its beginning and behind each `=`.
abbrev pub told_field : List (List ℕ) → List ℕ → List ℕ
told_field dirs field = told_word dirs (value_at field) (Some 61) field

abbrev pub told_row : List (List ℕ) → List (List ℕ) → List (List ℕ)
told_row dirs row = map (told_field dirs) row

abbrev pub told_rows : List (List ℕ) → List (List (List ℕ)) → List (List (List ℕ))
told_rows dirs rows = map (told_row dirs) rows
