-- The refusals that several compilers share.
use Rattle.std.specs.Prelude.{ℕ, List, Some, codes}
use Rattle.scl_values.specs.Escaped.{quoted_list}
use Rattle.scl_text.specs.Records.{Verdict, CannotCache, because}

abbrev pub unexpanded_file : Verdict
unexpanded_file = because (codes "@")

abbrev pub empty_value : Verdict
empty_value = because (codes "empty value")

-- with the text of the error of a last flag without its value
abbrev pub argument_parse : Verdict
argument_parse = CannotCache (codes "argument parse") (Some (codes "Unexpected end of args"))

-- with the inputs after the first
abbrev pub multiple_input_files : (later : List (List ℕ)) → Verdict
multiple_input_files later = CannotCache (codes "multiple input files") (Some (quoted_list later))

abbrev pub no_input_file : Verdict
no_input_file = because (codes "no input file")

abbrev pub unknown_source_language : Verdict
unknown_source_language = because (codes "unknown source language")

abbrev pub invalid_input_file : Verdict
invalid_input_file = because (codes "invalid input file")
