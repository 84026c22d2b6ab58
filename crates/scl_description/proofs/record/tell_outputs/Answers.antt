use Rattle.std.proofs.Common.{rules, ◌≡◌, ◌++◌, ◌∷◌, [], List, ℕ, map, codes, refl, ap, sym, subst, string_bytes, String}
use Rattle.std.specs.declared.alloc.Global.{Global}
use Rattle.std.specs.Map.Iter.{deref_pair}
use Rattle.scl_text.specs.declared.records.ArtifactDescriptor.{ArtifactDescriptor}
use Rattle.std.specs.Borrow.{Bor}
use Rattle.scl_text.specs.Records.{artifact, artifact_of}
use Rattle.scl_description.specs.Rows.{entry_rows, row_entry}
use Rattle.scl_description.specs.Records.{output_rest, outputs_entry}
use Rattle.scl_description.specs.Takers.{Adds}
use Rattle.scl_description.proofs.TakerLaws.{then_rows}
use Rattle.scl_description.proofs.record.tell_outputs.Goals as goal

abbrev rows_by : List (Bor (String Global) × Bor ArtifactDescriptor) → List (List (List ℕ))
rows_by pairs = entry_rows (outputs_entry (map artifact_of (map deref_pair pairs)))

rows_by-more : (pairs more : List (Bor (String Global) × Bor ArtifactDescriptor)) → rows_by (pairs ++ more) ≡ rows_by pairs ++ rows_by more
rows_by-more [] more = refl
rows_by-more (pair ∷ pairs) more = ap (λ rows. rows_by (pair ∷ []) ++ rows) (rows_by-more pairs more)

pub loop-name-preserved : goal.loop-name-preserved
loop-name-preserved g c =
    let has = g.R.TakesRows.has in
    let before = c.loop-name.rows in
    let after = c.tell_output.new.rows in
    let path : List ℕ = c.in-Some.output.now.path.items in
    let named : c.as_str.result.now ≡ string_bytes c.in-Some.name.now = search (rules, c.as_str.ensures.value) in
    let one : Adds has before after (rows_by ((c.in-Some.name, c.in-Some.output) ∷ [])) =
    subst (λ (name : List ℕ). Adds has before after (entry_rows (row_entry (codes "output") (output_rest (artifact name path c.in-Some.output.now.optional))))) named c.in_ok-tell_output.ensures in
    subst (λ (rows : List (List (List ℕ))). Adds has c.args.rows.now after rows) (sym (rows_by-more c.loop-name.yielded ((c.in-Some.name, c.in-Some.output) ∷ [])))
    (then_rows has c.args.rows.now before after (rows_by c.loop-name.yielded) (rows_by ((c.in-Some.name, c.in-Some.output) ∷ [])) c.loop-name.invariant one)
