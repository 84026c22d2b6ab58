-- A key over questions: its lookup, and what one text says.
use Rattle.std.proofs.Common.{◌≡◌, ℕ, List, [], ◌∷◌, map, refl, ap, ◌∙◌, arith}
use Rattle.std.specs.Option.{option_and_then, option_map}
use Rattle.scl_lookup.specs.Framing.{AreShort}
use Rattle.scl_lookup.specs.Keys.{Part, is, variable, tool, read, shown, sources, Field, said, summed, Row, file_row, run_row, unfailed, standing_field, sources_row, runs_among, all_there, ran_on, file_on, Reader, names_shown, sources_on, row_on, lookup_run, lookup_file, lookup_sources, lookup_part, LookupsGiveKeys, TwoRoundsSuffice, field_text, row_text, TextsDecideAnswers, tool_row}
use Rattle.scl_lookup.specs.Lookups.{found, value_on, IsWithin, all_of}
use Rattle.scl_lookup.specs.Questions.{Machine, Written, program}
use Rattle.scl_lookup.proofs.FramingLaws.{framing_decides}
use Rattle.scl_lookup.proofs.LookupLaws.{value_then, value_if, value_all, then_within, if_within, all_within}
use Rattle.scl_lookup.proofs.Maps.{map_alike, each, maps_are_one, and_then_alike, and_then_some}

-- ---- values

value_run : (m : Machine) (words : List (List ℕ)) → value_on m (lookup_run words) ≡ ran_on m words
value_run m words = value_if m (ran_on m words)

value_file : (m : Machine) (path : List ℕ) → value_on m (lookup_file path) ≡ file_on m path
value_file m path = value_if m (file_on m path)

value_sources : (reader : Reader) (m : Machine) (runs : List Written) → value_on m (lookup_sources reader runs) ≡ sources_on reader m runs
value_sources reader m runs =
    let names = names_shown reader runs in
    value_then m (all_of (map lookup_file names)) (λ files. found (sources_row files))
    ∙ and_then_some sources_row (value_on m (all_of (map lookup_file names)))
    ∙ ap (option_map sources_row) (value_all m (map lookup_file names) ∙ ap all_there (map_alike lookup_file (value_on m) (file_on m) (value_file m) names))

value_part : (reader : Reader) (m : Machine) (runs : List (List (List ℕ))) (part : Part) → value_on m (lookup_part reader runs part) ≡ row_on reader m runs part
value_part reader m runs (is fields) = refl
value_part reader m runs (variable name) = refl
value_part reader m runs (tool name) = value_if m (option_map (tool_row name) (m (program name)))
value_part reader m runs (read path) = value_file m path
value_part reader m runs (shown words) =
    value_then m (lookup_run words) (λ written. found (run_row written)) ∙ and_then_some run_row (value_on m (lookup_run words)) ∙ ap (option_map run_row) (value_run m words)
value_part reader m runs sources =
    value_then m (all_of (map lookup_run runs)) (lookup_sources reader)
    ∙ and_then_alike (λ ran. value_on m (lookup_sources reader ran)) (sources_on reader m) (value_sources reader m) (value_on m (all_of (map lookup_run runs)))
    ∙ ap (option_and_then (sources_on reader m)) (value_all m (map lookup_run runs) ∙ ap all_there (map_alike lookup_run (value_on m) (ran_on m) (value_run m) runs))

pub lookups_give_keys : LookupsGiveKeys
lookups_give_keys reader m parts =
    let runs = runs_among parts in
    value_all m (map (lookup_part reader runs) parts) ∙ ap all_there (map_alike (lookup_part reader runs) (value_on m) (row_on reader m runs) (value_part reader m runs) parts)

-- ---- rounds

run_within : (words : List (List ℕ)) → IsWithin 1 (lookup_run words)
run_within words = λ answers. if_within 0 (unfailed answers.0)

file_within : (path : List ℕ) → IsWithin 1 (lookup_file path)
file_within path = λ answers. if_within 0 (option_map (file_row path) (standing_field answers.0))

sources_within : (reader : Reader) (runs : List Written) → IsWithin 1 (lookup_sources reader runs)
sources_within reader runs = then_within 1 0 1 (all_of (map lookup_file (names_shown reader runs))) (λ files. found (sources_row files)) (omega arith) (all_within 1 lookup_file file_within (names_shown reader runs)) (λ files. tt)

part_within : (reader : Reader) (runs : List (List (List ℕ))) (part : Part) → IsWithin 2 (lookup_part reader runs part)
part_within reader runs (is fields) = tt
part_within reader runs (variable name) = λ answers. tt
part_within reader runs (tool name) = λ answers. if_within 1 (option_map (tool_row name) answers.0)
part_within reader runs (read path) = λ answers. if_within 1 (option_map (file_row path) (standing_field answers.0))
part_within reader runs (shown words) = then_within 1 0 2 (lookup_run words) (λ written. found (run_row written)) (omega arith) (run_within words) (λ written. tt)
part_within reader runs sources = then_within 1 1 2 (all_of (map lookup_run runs)) (lookup_sources reader) (omega arith) (all_within 1 lookup_run run_within runs) (sources_within reader)

pub two_rounds_suffice : TwoRoundsSuffice
two_rounds_suffice reader parts = all_within 2 (lookup_part reader (runs_among parts)) (part_within reader (runs_among parts)) parts

-- ---- texts

abbrev first_of_text : List ℕ → ℕ
first_of_text [] = 0
first_of_text (byte ∷ text) = byte

field_one : (a b : Field) → field_text a ≡ field_text b → a ≡ b
field_one (said a) (said b) e = ap said (cc)
field_one (said a) (summed b) e = absurd (let no : 58 ≡ 61 = ap first_of_text e in omega arith)
field_one (summed a) (said b) e = absurd (let no : 61 ≡ 58 = ap first_of_text e in omega arith)
field_one (summed a) (summed b) e = ap summed (cc)

abbrev Any : Field → Type 0
Any field = Unit {0}

abbrev IsShort : Row → Type 0
IsShort row = AreShort (map field_text row)

row_one : (a b : Row) → IsShort a → IsShort b → row_text a ≡ row_text b → a ≡ b
row_one a b h k e =
    maps_are_one Any Any field_text (λ x y p q. field_one x y) a b (each Any (λ x. tt) a) (each Any (λ x. tt) b) (framing_decides (map field_text a) (map field_text b) h k e)

pub texts_decide_answers : TextsDecideAnswers
texts_decide_answers a b h k e = maps_are_one IsShort IsShort row_text row_one a b h.fields_can k.fields_can (framing_decides (map row_text a) (map row_text b) h.rows_can k.rows_can e)
