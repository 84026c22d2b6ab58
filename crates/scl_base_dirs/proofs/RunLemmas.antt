-- Texts that are mapped line by line.
use Rattle.std.proofs.Common.{◌≡◌, ℕ, ◌<◌, ◌||◌, Bool, true, false, cond, List, [], ◌∷◌, ◌++◌, length, Option, Some, refl, sym, ap, ◌∙◌, append_assoc, arith}
use Rattle.std.proofs.lemmas.List.{append-nil}
use Rattle.std.proofs.lemmas.List.Splits.{join_with_byte-slice_split}
use Rattle.std.specs.List.{join_with_byte, concat}
use Rattle.scl_base_dirs.specs.Cuts.{has_none, parts, last_part, IsCutAt}
use Rattle.scl_base_dirs.specs.Markers.{begins_raw, mapped_line}
use Rattle.scl_base_dirs.specs.Runs.{line_feed, mapped_lines, mapped_text, is_one_line, Mapping, to_come}
use Rattle.scl_base_dirs.proofs.CutLemmas.{parts_around, parts_one, parts_some, none-append, join_cons, last_around, last_one, cut_whole, cut_within}

abbrev mapping : List (List ℕ) → List ℕ → Bool → Mapping
mapping dirs begun is_raw = record { dirs = dirs; begun = begun; is_raw = is_raw }

-- what is appended for a line
abbrev pub next_line : List (List ℕ) → Bool → List ℕ → List ℕ
next_line dirs is_raw line = cond is_raw line (mapped_line dirs line)

mapped_some : (dirs : List (List ℕ)) (lines : List (List ℕ)) → 0 < length lines → 0 < length (mapped_lines dirs lines)
mapped_some dirs [] h = h
mapped_some dirs (line ∷ lines) h = omega arith

cond_some : (raw : Bool) (xs ys : List (List ℕ)) → 0 < length xs → 0 < length ys → 0 < length (cond raw xs ys)
cond_some true xs ys h k = h
cond_some false xs ys h k = k

join_after : (dirs : List (List ℕ)) (raw : Bool) (after : List ℕ) → join_with_byte line_feed (cond raw (parts line_feed after) (mapped_lines dirs (parts line_feed after))) ≡ to_come (mapping dirs [] raw) after
join_after dirs true after = join_with_byte-slice_split line_feed after
join_after dirs false after = refl

text_after : (dirs : List (List ℕ)) (line after : List ℕ) → is_one_line line ≡ true
    → mapped_text dirs (line ++ line_feed ∷ after) ≡ mapped_line dirs line ++ line_feed ∷ to_come (mapping dirs [] (begins_raw line)) after
text_after dirs line after one =
    let rest = parts line_feed after in
    let some : 0 < length rest = parts_some line_feed after in
    ap (λ (ls : List (List ℕ)). join_with_byte line_feed (mapped_lines dirs ls)) (parts_around line_feed line after one)
    ∙ join_cons line_feed (mapped_line dirs line) (cond (begins_raw line) rest (mapped_lines dirs rest)) (cond_some (begins_raw line) rest (mapped_lines dirs rest) some (mapped_some dirs rest some))
    ∙ ap (λ (t : List ℕ). mapped_line dirs line ++ line_feed ∷ t) (join_after dirs (begins_raw line) after)

-- what is to come, after a line that ends
pub come_after : (dirs : List (List ℕ)) (is_raw : Bool) (begun text before after following : List ℕ) → is_one_line begun ≡ true → IsCutAt line_feed text before after
    → to_come (mapping dirs begun is_raw) (text ++ following)
    ≡ next_line dirs is_raw (begun ++ before) ++ line_feed ∷ to_come (mapping dirs [] (is_raw || begins_raw (begun ++ before))) (after ++ following)
come_after dirs true begun text before after following one cut = cut_within line_feed text before after begun following cut
come_after dirs false begun text before after following one cut =
    ap (mapped_text dirs) (cut_within line_feed text before after begun following cut)
    ∙ text_after dirs (begun ++ before) (after ++ following) (none-append line_feed begun before one cut.first)

pub line_step : (dirs dirs' : List (List ℕ)) (is_raw is_raw' : Bool) (begun begun' begun'' line text before after mapped mapped' mapped'' : List ℕ) (total : List ℕ → List ℕ)
    → is_one_line begun ≡ true → IsCutAt line_feed text before after → dirs' ≡ dirs → line ≡ begun' → begun' ≡ begun ++ before
    → mapped' ≡ mapped ++ next_line dirs' is_raw line → is_raw' ≡ (is_raw || begins_raw line) → mapped'' ≡ mapped' ++ line_feed ∷ [] → begun'' ≡ []
    → ((following : List ℕ) → mapped ++ to_come (mapping dirs begun is_raw) (text ++ following) ≡ total following)
    → (following : List ℕ) → mapped'' ++ to_come (mapping dirs begun'' is_raw') (after ++ following) ≡ total following
line_step dirs dirs' is_raw is_raw' begun begun' begun'' line text before after mapped mapped' mapped'' total one cut same whole longer pushed raw ended cleared all following =
    let line_is : line ≡ begun ++ before = whole ∙ longer in
    rw (ended, pushed, raw, cleared, same, line_is) (simp append_assoc (sym (ap (λ (t : List ℕ). mapped ++ t) (come_after dirs is_raw begun text before after following one cut)) ∙ all following))

pub last_step : (begun begun'' text before after : List ℕ) (total : Option (List ℕ)) → is_one_line begun ≡ true → IsCutAt line_feed text before after → begun'' ≡ []
    → last_part line_feed (begun ++ text) ≡ total → last_part line_feed (begun'' ++ after) ≡ total
last_step begun begun'' text before after total one cut cleared all =
    ap (λ (t : List ℕ). last_part line_feed (t ++ after)) cleared
    ∙ sym (ap (last_part line_feed) (cut_whole line_feed text before after begun cut) ∙ last_around line_feed (begun ++ before) after (none-append line_feed begun before one cut.first))
    ∙ all

-- the rest of a piece, in which no line ends
pub end_come : (dirs : List (List ℕ)) (is_raw : Bool) (begun begun' text mapped : List ℕ) (total : List ℕ → List ℕ) → begun' ≡ begun ++ text
    → ((following : List ℕ) → mapped ++ to_come (mapping dirs begun is_raw) (text ++ following) ≡ total following)
    → (following : List ℕ) → mapped ++ to_come (mapping dirs begun' is_raw) following ≡ total following
end_come dirs is_raw begun begun' text mapped total e all following = rw (e, append_assoc) (all following)

pub end_last : (begun begun' text : List ℕ) (total : Option (List ℕ)) → is_one_line begun ≡ true → has_none line_feed text ≡ true → begun' ≡ begun ++ text
    → last_part line_feed (begun ++ text) ≡ total → Some begun' ≡ total
end_last begun begun' text total one none e all = rw e (last_one line_feed (begun ++ text) (none-append line_feed begun text one none)) ∙ all

pub end_one : (begun begun' text : List ℕ) → is_one_line begun ≡ true → has_none line_feed text ≡ true → begun' ≡ begun ++ text → is_one_line begun' ≡ true
end_one begun begun' text one none e = rw e (none-append line_feed begun text one none)

one_line : (dirs : List (List ℕ)) (raw : Bool) (line : List ℕ) → join_with_byte line_feed (mapped_line dirs line ∷ cond raw [] (mapped_lines dirs [])) ≡ mapped_line dirs line
one_line dirs true line = refl
one_line dirs false line = refl

-- the last line
pub come_last : (dirs : List (List ℕ)) (is_raw : Bool) (begun : List ℕ) → is_one_line begun ≡ true → to_come (mapping dirs begun is_raw) [] ≡ next_line dirs is_raw begun
come_last dirs true begun one = append-nil begun
come_last dirs false begun one =
    ap (mapped_text dirs) (append-nil begun) ∙ ap (λ (ls : List (List ℕ)). join_with_byte line_feed (mapped_lines dirs ls)) (parts_one line_feed begun one) ∙ one_line dirs (begins_raw begun) begun

concat-push : (xs : List (List ℕ)) (x : List ℕ) → concat (xs ++ x ∷ []) ≡ concat xs ++ x
concat-push [] x = append-nil x
concat-push (y ∷ xs) x = ap (λ (t : List ℕ). y ++ t) (concat-push xs x) ∙ sym (append_assoc y (concat xs) x)

-- one more piece
pub pieces_step : (total : List ℕ → List ℕ) (mapping mapping' : Mapping) (mapped mapped' text piece : List ℕ) (taken taken' : List (List ℕ))
    → ((following : List ℕ) → mapped ++ to_come mapping following ≡ total (concat taken ++ following))
    → ((following : List ℕ) → text ++ to_come mapping' following ≡ to_come mapping (piece ++ following))
    → mapped' ≡ mapped ++ text → taken' ≡ taken ++ piece ∷ []
    → (following : List ℕ) → mapped' ++ to_come mapping' following ≡ total (concat taken' ++ following)
pieces_step total mapping mapping' mapped mapped' text piece taken taken' all pushed more next following =
    ap (λ (m : List ℕ). m ++ to_come mapping' following) more
    ∙ append_assoc mapped text (to_come mapping' following)
    ∙ ap (λ (t : List ℕ). mapped ++ t) (pushed following)
    ∙ all (piece ++ following)
    ∙ ap total (sym (append_assoc (concat taken) piece following))
    ∙ ap (λ (t : List ℕ). total (t ++ following)) (sym (concat-push taken piece))
    ∙ ap (λ (ts : List (List ℕ)). total (concat ts ++ following)) (sym next)

pub ruleset push_rules = (end_come, end_one)
