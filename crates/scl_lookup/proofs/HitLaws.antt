-- One name: the same variables, bytes and runs; so the same outcome.
use Rattle.std.proofs.Common.{◌≡◌, ℕ, List, [], ◌∷◌, ◌++◌, map, codes, Option, None, Some, inl, inr, refl, sym, ap, ◌∙◌}
use Rattle.std.specs.List.{flat_map}
use Rattle.std.specs.Option.{option_and_then, option_map}
use Rattle.std.proofs.lemmas.List.{map-append}
use Rattle.scl_values.specs.Each.{Each}
use Rattle.scl_lookup.specs.Keys.{Part, is, variable, tool, read, shown, sources, Field, said, summed, Row, value_field, standing_field, variable_row, tool_row, file_row, run_row, sources_row, runs_among, all_there, ran_on, file_on, Reader, names_shown, sources_on, row_on, rows_on}
use Rattle.scl_lookup.specs.Questions.{Standing, regular, folder, special, missing, Program, Written, env, program, file}
use Rattle.scl_lookup.specs.Worlds.{World, Digest, program_with, standing_with, answered_by, IsSummed, SumsTell, HitsAreRight}
use Rattle.scl_lookup.proofs.KeyLaws.{lookups_give_keys, texts_decide_answers}
use Rattle.scl_lookup.proofs.Maps.{maps_are_one, all_with, Where, all_where, where_map}

-- ---- what is answered are sums of what is seen

abbrev field_with : Digest → Field → Field
field_with digest (said text) = said text
field_with digest (summed content) = summed (digest content)

abbrev row_with : Digest → Row → Row
row_with digest row = map (field_with digest) row

said_stands : (digest : Digest) (texts : List (List ℕ)) → map said texts ≡ row_with digest (map said texts)
said_stands digest [] = refl
said_stands digest (text ∷ texts) = ap (λ row. said text ∷ row) (said_stands digest texts)

value_stands : (digest : Digest) (name : List ℕ) (value : Option (List ℕ)) → variable_row name value ≡ row_with digest (variable_row name value)
value_stands digest name None = refl
value_stands digest name (Some value) = refl

tool_summed : (digest : Digest) (name : List ℕ) (o : Option Program) → option_map (tool_row name) (option_map (program_with digest) o) ≡ option_map (row_with digest) (option_map (tool_row name) o)
tool_summed digest name None = refl
tool_summed digest name (Some p) = ap (λ row. Some (said (codes "program") ∷ said name ∷ summed (digest p.sum) ∷ row)) (said_stands digest p.links)

file_summed : (digest : Digest) (path : List ℕ) (s : Standing) → option_map (file_row path) (standing_field (standing_with digest s)) ≡ option_map (row_with digest) (option_map (file_row path) (standing_field s))
file_summed digest path (regular content) = refl
file_summed digest path folder = refl
file_summed digest path special = refl
file_summed digest path missing = refl

run_stands : (digest : Digest) (o : Option Written) → option_map run_row o ≡ option_map (row_with digest) (option_map run_row o)
run_stands digest None = refl
run_stands digest (Some written) = refl

flat_summed : (digest : Digest) (files : List Row) → flat_map (λ row. row) (map (row_with digest) files) ≡ row_with digest (flat_map (λ row. row) files)
flat_summed digest [] = refl
flat_summed digest (row ∷ rows) =
    ap (λ rest. row_with digest row ++ rest) (flat_summed digest rows) ∙ sym (map-append (field_with digest) row (flat_map (λ one. one) rows))

all_summed : (digest : Digest) (o : Option (List Row)) → option_map sources_row (option_map (map (row_with digest)) o) ≡ option_map (row_with digest) (option_map sources_row o)
all_summed digest None = refl
all_summed digest (Some files) = ap (λ row. Some (said (codes "sources") ∷ row)) (flat_summed digest files)

sources_summed : (reader : Reader) (digest : Digest) (w : World) (runs : List Written) → sources_on reader (answered_by digest w) runs ≡ option_map (row_with digest) (sources_on reader w.seen runs)
sources_summed reader digest w runs =
    let names = names_shown reader runs in
    ap (option_map sources_row) (all_with (file_on w.seen) (file_on (answered_by digest w)) (row_with digest) (λ path. file_summed digest path (w.seen (file path))) names)
    ∙ all_summed digest (all_there (map (file_on w.seen) names))

then_summed : (reader : Reader) (digest : Digest) (w : World) (o : Option (List Written))
    → option_and_then (sources_on reader (answered_by digest w)) o ≡ option_map (row_with digest) (option_and_then (sources_on reader w.seen) o)
then_summed reader digest w None = refl
then_summed reader digest w (Some runs) = sources_summed reader digest w runs

part_summed : (reader : Reader) (digest : Digest) (w : World) (runs : List (List (List ℕ))) (part : Part)
    → row_on reader (answered_by digest w) runs part ≡ option_map (row_with digest) (row_on reader w.seen runs part)
part_summed reader digest w runs (is fields) = ap (λ row. Some (said (codes "is") ∷ row)) (said_stands digest fields)
part_summed reader digest w runs (variable name) = ap Some (value_stands digest name (w.seen (env name)))
part_summed reader digest w runs (tool name) = tool_summed digest name (w.seen (program name))
part_summed reader digest w runs (read path) = file_summed digest path (w.seen (file path))
part_summed reader digest w runs (shown words) = run_stands digest (ran_on w.seen words)
part_summed reader digest w runs sources = then_summed reader digest w (all_there (map (ran_on w.seen) runs))

rows_summed : (reader : Reader) (digest : Digest) (w : World) (parts : List Part) → rows_on reader (answered_by digest w) parts ≡ option_map (map (row_with digest)) (rows_on reader w.seen parts)
rows_summed reader digest w parts =
    let runs = runs_among parts in
    all_with (row_on reader w.seen runs) (row_on reader (answered_by digest w) runs) (row_with digest) (part_summed reader digest w runs) parts

-- ---- what is summed are bytes of files and programs

abbrev IsOf : World → Field → Type 0
IsOf w (said text) = Unit {0}
IsOf w (summed content) = IsSummed w content

abbrev AreOf : World → Row → Type 0
AreOf w row = Each (IsOf w) row

said_are : (w : World) (texts : List (List ℕ)) → AreOf w (map said texts)
said_are w [] = tt
said_are w (text ∷ texts) = (tt, said_are w texts)

value_is : (w : World) (value : Option (List ℕ)) → IsOf w (value_field value)
value_is w None = tt
value_is w (Some value) = tt

tool_is : (w : World) (name : List ℕ) (o : Option Program) → w.seen (program name) ≡ o → Where (AreOf w) (option_map (tool_row name) o)
tool_is w name None e = tt
tool_is w name (Some p) e = (tt, (tt, (inr (name, (p, (e, refl))), said_are w p.links)))

file_is : (w : World) (path : List ℕ) (s : Standing) → w.seen (file path) ≡ s → Where (AreOf w) (option_map (file_row path) (standing_field s))
file_is w path (regular content) e = (tt, (tt, (inl (path, e), tt)))
file_is w path folder e = (tt, (tt, (tt, tt)))
file_is w path special e = tt
file_is w path missing e = (tt, (tt, (tt, tt)))

run_is : (w : World) (o : Option Written) → Where (AreOf w) (option_map run_row o)
run_is w None = tt
run_is w (Some written) = (tt, (tt, (tt, (tt, tt))))

joined_are : (w : World) (a b : Row) → AreOf w a → AreOf w b → AreOf w (a ++ b)
joined_are w [] b h k = k
joined_are w (x ∷ a) b h k = (h.0, joined_are w a b h.1 k)

flat_are : (w : World) (files : List Row) → Each (AreOf w) files → AreOf w (flat_map (λ row. row) files)
flat_are w [] h = tt
flat_are w (row ∷ rows) h = joined_are w row (flat_map (λ one. one) rows) h.0 (flat_are w rows h.1)

sources_are : (reader : Reader) (w : World) (o : Option (List Written)) → Where (AreOf w) (option_and_then (sources_on reader w.seen) o)
sources_are reader w None = tt
sources_are reader w (Some runs) =
    let names = names_shown reader runs in
    where_map (Each (AreOf w)) (AreOf w) sources_row (λ files h. (tt, flat_are w files h)) (all_there (map (file_on w.seen) names))
    (all_where (AreOf w) (file_on w.seen) (λ path. file_is w path (w.seen (file path)) refl) names)

part_is : (reader : Reader) (w : World) (runs : List (List (List ℕ))) (part : Part) → Where (AreOf w) (row_on reader w.seen runs part)
part_is reader w runs (is fields) = (tt, said_are w fields)
part_is reader w runs (variable name) = (tt, (tt, (value_is w (w.seen (env name)), tt)))
part_is reader w runs (tool name) = tool_is w name (w.seen (program name)) refl
part_is reader w runs (read path) = file_is w path (w.seen (file path)) refl
part_is reader w runs (shown words) = run_is w (ran_on w.seen words)
part_is reader w runs sources = sources_are reader w (all_there (map (ran_on w.seen) runs))

rows_are : (reader : Reader) (w : World) (parts : List Part) → Where (Each (AreOf w)) (rows_on reader w.seen parts)
rows_are reader w parts = all_where (AreOf w) (row_on reader w.seen (runs_among parts)) (part_is reader w (runs_among parts)) parts

-- ---- so one row of sums is one row of bytes

field_one : (digest : Digest) (v w : World) → SumsTell digest v w → (a b : Field) → IsOf v a → IsOf w b → field_with digest a ≡ field_with digest b → a ≡ b
field_one digest v w tell (said a) (said b) h k e = e
field_one digest v w tell (said a) (summed b) h k e = absurd (cc)
field_one digest v w tell (summed a) (said b) h k e = absurd (cc)
field_one digest v w tell (summed a) (summed b) h k e = ap summed (tell a b h k (cc))

row_one : (digest : Digest) (v w : World) → SumsTell digest v w → (a b : Row) → AreOf v a → AreOf w b → row_with digest a ≡ row_with digest b → a ≡ b
row_one digest v w tell a b h k e = maps_are_one (IsOf v) (IsOf w) (field_with digest) (field_one digest v w tell) a b h k e

rows_one : (digest : Digest) (v w : World) → SumsTell digest v w → (o r : Option (List Row)) → Where (Each (AreOf v)) o → Where (Each (AreOf w)) r
    → (kept : List Row) → option_map (map (row_with digest)) o ≡ Some kept → option_map (map (row_with digest)) r ≡ Some kept
    → (rows : List Row) × ((o ≡ Some rows) × (r ≡ Some rows))
rows_one digest v w tell None r h k kept e f = absurd (cc)
rows_one digest v w tell (Some a) None h k kept e f = absurd (cc)
rows_one digest v w tell (Some a) (Some b) h k kept e f =
    let one : a ≡ b = maps_are_one (AreOf v) (AreOf w) (row_with digest) (row_one digest v w tell) a b h k (cc) in
    (a, (refl, ap Some (sym one)))

pub hits_are_right : HitsAreRight
hits_are_right reader digest name v w tell behave parts others kept sought hit =
    let one : kept ≡ sought = texts_decide_answers kept sought hit.can_be_kept hit.can_be_sought (hit.name_tells hit.names_are) in
    let first : option_map (map (row_with digest)) (rows_on reader v.seen parts) ≡ Some kept =
    sym (rows_summed reader digest v parts) ∙ sym (lookups_give_keys reader (answered_by digest v) parts) ∙ hit.was_kept in
    let second : option_map (map (row_with digest)) (rows_on reader w.seen others) ≡ Some kept =
    sym (rows_summed reader digest w others) ∙ sym (lookups_give_keys reader (answered_by digest w) others) ∙ hit.is_sought ∙ ap Some (sym one) in
    let both = rows_one digest v w tell (rows_on reader v.seen parts) (rows_on reader w.seen others) (rows_are reader v parts) (rows_are reader w others) kept first second in
    behave parts others both.0 both.1.0 both.1.1
