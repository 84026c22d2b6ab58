-- A text to which the lines of entries were appended, one entry after the other.
use Rattle.std.proofs.Common.{◌≡◌, ℕ, List, [], ◌∷◌, ◌++◌, ap, sym, ◌∙◌, append-nil, append_assoc}
use Rattle.std.proofs.lemmas.Grind.{flat_map-append}
use Rattle.scl_description.specs.Rows.{Entry, entry_text, entries_text}

-- these entries after others
pub and_entries : (t0 t1 t2 : List ℕ) (es fs : List Entry) → t1 ≡ t0 ++ entries_text es → t2 ≡ t1 ++ entries_text fs → t2 ≡ t0 ++ entries_text (es ++ fs)
and_entries t0 t1 t2 es fs h k =
    k ∙ ap (λ t. t ++ entries_text fs) h ∙ append_assoc t0 (entries_text es) (entries_text fs) ∙ ap (λ t. t0 ++ t) (sym (flat_map-append entry_text es fs))

-- the first entry
pub one_entry : (t0 t1 : List ℕ) (e : Entry) → t1 ≡ t0 ++ entry_text e → t1 ≡ t0 ++ entries_text (e ∷ [])
one_entry t0 t1 e h = h ∙ ap (λ t. t0 ++ t) (sym (append-nil (entry_text e)))

-- this entry after others
pub and_entry : (t0 t1 t2 : List ℕ) (es : List Entry) (e : Entry) → t1 ≡ t0 ++ entries_text es → t2 ≡ t1 ++ entry_text e → t2 ≡ t0 ++ entries_text (es ++ e ∷ [])
and_entry t0 t1 t2 es e h k = and_entries t0 t1 t2 es (e ∷ []) h (one_entry t1 t2 e k)
