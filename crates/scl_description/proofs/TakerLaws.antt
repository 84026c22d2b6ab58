-- Rows after others.
use Rattle.std.proofs.Common.{◌≡◌, ℕ, List, [], ◌∷◌, ◌++◌, ap, sym, subst, ◌∙◌, append_assoc, append-nil}
use Rattle.std.specs.Prelude.{Vec}
use Rattle.std.specs.declared.alloc.Global.{Global}
use Rattle.std.proofs.lemmas.Grind.{flat_map-append}
use Rattle.scl_files.specs.Characters.{space}
use Rattle.scl_values.specs.Escaped.{escaped}
use Rattle.scl_description.specs.Lines.{line}
use Rattle.scl_description.specs.Rows.{Entry, entry_rows, fields_behind, row_text, rows_of, rows_text, entry_text, entries_text}
use Rattle.scl_description.specs.RowLists.{held}
use Rattle.scl_description.specs.Takers.{Adds}
use Rattle.scl_description.specs.declared.list.RowList.{RowList}
use Rattle.scl_description.proofs.RecordLaws.{entries-rows}

-- the text of rows, after which a row was written
pub row_added : (start t0 t1 t2 t3 t4 name : List ℕ) (fields words : List (List ℕ)) (rows : List (List (List ℕ)))
    → t0 ≡ start ++ rows_text rows → t1 ≡ t0 ++ escaped name → t2 ≡ t1 ++ fields_behind fields → t3 ≡ t2 ++ fields_behind words → t4 ≡ t3 ++ 10 ∷ []
    → t4 ≡ start ++ rows_text (rows ++ (name ∷ fields ++ words) ∷ [])
row_added start t0 t1 t2 t3 t4 name fields words rows h0 h1 h2 h3 h4 =
    let rest : fields_behind (fields ++ words) ≡ fields_behind fields ++ fields_behind words = flat_map-append (λ (field : List ℕ). space ∷ escaped field) fields words in
    let all : t3 ≡ t0 ++ (escaped name ++ (fields_behind fields ++ fields_behind words)) =
    h3 ∙ ap (λ (t : List ℕ). t ++ fields_behind words) (h2 ∙ ap (λ (t : List ℕ). t ++ fields_behind fields) h1)
    ∙ append_assoc (t0 ++ escaped name) (fields_behind fields) (fields_behind words)
    ∙ append_assoc t0 (escaped name) (fields_behind fields ++ fields_behind words) in
    let row : t3 ≡ t0 ++ row_text (name ∷ fields ++ words) = all ∙ ap (λ (t : List ℕ). t0 ++ (escaped name ++ t)) (sym rest) in
    let told : t4 ≡ t0 ++ rows_text ((name ∷ fields ++ words) ∷ []) =
    h4 ∙ ap (λ (t : List ℕ). t ++ 10 ∷ []) row ∙ append_assoc t0 (row_text (name ∷ fields ++ words)) (10 ∷ [])
    ∙ ap (λ (t : List ℕ). t0 ++ t) (sym (append-nil (line (row_text (name ∷ fields ++ words))))) in
    told ∙ ap (λ (t : List ℕ). t ++ rows_text ((name ∷ fields ++ words) ∷ [])) h0
    ∙ append_assoc start (rows_text rows) (rows_text ((name ∷ fields ++ words) ∷ []))
    ∙ ap (λ (t : List ℕ). start ++ t) (sym (flat_map-append (λ (row : List (List ℕ)). line (row_text row)) rows ((name ∷ fields ++ words) ∷ [])))

-- rows after others
pub then_rows : {T : Type 0} (has : T → T → List (List (List ℕ)) → Type 0) (a b c : T) (xs ys : List (List (List ℕ))) → Adds has a b xs → Adds has b c ys → Adds has a c (xs ++ ys)
then_rows has a b c xs ys h k start told is = subst (λ rows. has start c rows) (append_assoc told xs ys) (k start (told ++ xs) (h start told is))

-- the rows of these entries after those of others
pub then_entries : {T : Type 0} (has : T → T → List (List (List ℕ)) → Type 0) (a b c : T) (es fs : List Entry) → Adds has a b (rows_of es) → Adds has b c (rows_of fs) → Adds has a c (rows_of (es ++ fs))
then_entries has a b c es fs h k = subst (λ rows. Adds has a c rows) (sym (flat_map-append entry_rows es fs)) (then_rows has a b c (rows_of es) (rows_of fs) h k)

-- those of the first entry
pub first_entry : {T : Type 0} (has : T → T → List (List (List ℕ)) → Type 0) (a b : T) (e : Entry) → Adds has a b (entry_rows e) → Adds has a b (rows_of (e ∷ []))
first_entry has a b e h = subst (λ rows. Adds has a b rows) (sym (append-nil (entry_rows e))) h

-- those of this entry after those of others
pub then_entry : {T : Type 0} (has : T → T → List (List (List ℕ)) → Type 0) (a b c : T) (es : List Entry) (e : Entry) → Adds has a b (rows_of es) → Adds has b c (entry_rows e) → Adds has a c (rows_of (es ++ e ∷ []))
then_entry has a b c es e h k = then_entries has a b c es (e ∷ []) h (first_entry has b c e k)

-- ---- at a text

abbrev pub text_has : Vec ℕ Global → Vec ℕ Global → List (List (List ℕ)) → Type 0
text_has start text rows = text.items ≡ start.items ++ rows_text rows

-- a text that took the rows of an entry, and of entries
pub entry_added : (old new : Vec ℕ Global) (e : Entry) → Adds text_has old new (entry_rows e) → new.items ≡ old.items ++ entry_text e
unfolding entry_text
entry_added old new e h = h old [] (sym (append-nil old.items))

pub entries_added : (old new : Vec ℕ Global) (es : List Entry) → Adds text_has old new (rows_of es) → new.items ≡ old.items ++ entries_text es
entries_added old new es h = h old [] (sym (append-nil old.items)) ∙ ap (λ (t : List ℕ). old.items ++ t) (sym (entries-rows es))

-- ---- at a list

abbrev pub list_has : RowList → RowList → List (List (List ℕ)) → Type 0
list_has start list rows = held list ≡ held start ++ rows

-- a list that took rows
pub list_added : (old new : RowList) (rows : List (List (List ℕ))) → Adds list_has old new rows → held new ≡ held old ++ rows
list_added old new rows h = h old [] (sym (append-nil (held old)))
