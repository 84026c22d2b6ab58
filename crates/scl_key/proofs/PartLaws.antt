-- Parts to which others were added, and the rows of a record that stay in a key.
use Rattle.std.proofs.Common.{◌≡◌, ℕ, Bool, true, false, not, cond, List, [], ◌∷◌, ◌++◌, None, map, filter, refl, ap, sym, ◌∙◌, append_assoc, append-nil}
use Rattle.std.proofs.lemmas.List.{map-append}
use Rattle.std.proofs.lemmas.List.Elements.{filter-append}
use Rattle.scl_text.specs.Records.{Parsed}
use Rattle.scl_description.specs.Rows.{Entry, entry, entry_rows, rows_of}
use Rattle.scl_description.specs.Records.{first_field, record_entries}
use Rattle.scl_description.specs.Takers.{Adds}
use Rattle.scl_key.specs.declared.told.Facts.{Facts}
use Rattle.scl_key.specs.Parts.{Part, is}
use Rattle.scl_key.specs.Told.{is_left_out, kept_rows, record_told, told_entry, told_entries}
use Rattle.scl_key.specs.Views.{parts_of}

-- parts came after others
pub and_parts : (t0 t1 t2 xs ys : List Part) → t1 ≡ t0 ++ xs → t2 ≡ t1 ++ ys → t2 ≡ t0 ++ (xs ++ ys)
and_parts t0 t1 t2 xs ys h k = k ∙ ap (λ t. t ++ ys) h ∙ append_assoc t0 xs ys

-- ---- the rows that stay

-- a row after others stays, or does not
pub row_in : (is_shown : Bool) (name : List ℕ) (rest : List (List ℕ)) (rows : List (List (List ℕ))) → is_left_out is_shown name ≡ false → kept_rows is_shown (rows ++ (name ∷ rest) ∷ []) ≡ kept_rows is_shown rows ++ (name ∷ rest) ∷ []
row_in is_shown name rest rows h =
    filter-append (λ row. not (is_left_out is_shown (first_field row))) rows ((name ∷ rest) ∷ [])
    ∙ ap (λ out. kept_rows is_shown rows ++ cond (not out) ((name ∷ rest) ∷ []) []) h

pub row_out : (is_shown : Bool) (name : List ℕ) (rest : List (List ℕ)) (rows : List (List (List ℕ))) → is_left_out is_shown name ≡ true → kept_rows is_shown (rows ++ (name ∷ rest) ∷ []) ≡ kept_rows is_shown rows
row_out is_shown name rest rows h =
    filter-append (λ row. not (is_left_out is_shown (first_field row))) rows ((name ∷ rest) ∷ [])
    ∙ ap (λ out. kept_rows is_shown rows ++ cond (not out) ((name ∷ rest) ∷ []) []) h ∙ append-nil (kept_rows is_shown rows)

-- the parts of what took rows
pub facts_told : (old new : Facts) (rows : List (List (List ℕ)))
    → Adds (λ (start facts : Facts) (taken : List (List (List ℕ))). (facts.is_shown ≡ start.is_shown) × (parts_of facts.parts.items ≡ parts_of start.parts.items ++ map is (kept_rows start.is_shown taken))) old new rows
    → parts_of new.parts.items ≡ parts_of old.parts.items ++ map is (kept_rows old.is_shown rows)
facts_told old new rows h = (h old [] (refl, sym (append-nil (parts_of old.parts.items)))).1

-- an entry stays whole, or none of it
entry_kept : (is_shown : Bool) (name : List ℕ) (rests : List (List (List ℕ))) → kept_rows is_shown (entry_rows (entry name rests)) ≡ cond (is_left_out is_shown name) [] (entry_rows (entry name rests))
entry_kept is_shown name rests = either (is_left_out is_shown name) refl rests where
  either : (out : Bool) → is_left_out is_shown name ≡ out → (rests : List (List (List ℕ))) → kept_rows is_shown (entry_rows (entry name rests)) ≡ cond out [] (entry_rows (entry name rests))
  either true h [] = refl
  either true h (rest ∷ rests) = rw h (either true h rests)
  either false h [] = refl
  either false h (rest ∷ rests) = rw h (ap (λ rows. (name ∷ rest) ∷ rows) (either false h rests))

-- the entries that stay
abbrev kept_entries : Bool → List Entry → List Entry
kept_entries is_shown es = filter (λ e. not (is_left_out is_shown e.name)) es

entries_kept : (is_shown : Bool) (es : List Entry) → kept_rows is_shown (rows_of es) ≡ rows_of (kept_entries is_shown es)
entries_kept is_shown [] = refl
entries_kept is_shown (e ∷ es) =
    filter-append (λ row. not (is_left_out is_shown (first_field row))) (entry_rows e) (rows_of es)
    ∙ ap (λ rows. rows ++ kept_rows is_shown (rows_of es)) (entry_kept is_shown e.name e.rests)
    ∙ ap (λ rows. cond (is_left_out is_shown e.name) [] (entry_rows e) ++ rows) (entries_kept is_shown es)
    ∙ either (is_left_out is_shown e.name) where
      either : (out : Bool) → cond out [] (entry_rows e) ++ rows_of (kept_entries is_shown es) ≡ rows_of (cond (not out) (e ∷ kept_entries is_shown es) (kept_entries is_shown es))
      either true = refl
      either false = refl

entries_told : (es : List Entry) → map is (rows_of es) ≡ told_entries es
unfolding told_entry
entries_told [] = refl
entries_told (e ∷ es) = map-append is (entry_rows e) (rows_of es) ∙ ap (λ (parts : List Part). map is (entry_rows e) ++ parts) (entries_told es)

-- those of a record are the rows of the record that a key states
pub record_kept : (is_shown : Bool) (p : Parsed) → map is (kept_rows is_shown (rows_of (record_entries p))) ≡ told_entries (record_entries (record_told is_shown p))
record_kept is_shown p =
    ap (λ (rows : List (List (List ℕ))). map is rows) (entries_kept is_shown (record_entries p) ∙ by is_shown) ∙ entries_told (record_entries (record_told is_shown p)) where
      by : (b : Bool) → rows_of (kept_entries b (record_entries p)) ≡ rows_of (record_entries (record_told b p))
      by true = refl
      by false = refl
