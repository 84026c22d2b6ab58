-- The law of texts without line markers.
use Rattle.std.proofs.Common.{◌≡◌, ℕ, not, Bool, true, false, cond, List, [], ◌∷◌, Option, None, Some, refl, ap, ◌∙◌}
use Rattle.std.proofs.lemmas.Bool.{and_parts}
use Rattle.std.proofs.lemmas.List.Splits.{join_with_byte-slice_split}
use Rattle.std.specs.List.{list_all, join_with_byte}
use Rattle.std.specs.Option.{is_some}
use Rattle.scl_base_dirs.specs.Cuts.{parts}
use Rattle.scl_base_dirs.specs.Markers.{marked_name, mapped_name, begins_raw}
use Rattle.scl_base_dirs.specs.Runs.{line_feed, mapped_lines}
use Rattle.scl_base_dirs.specs.Laws.{TextsWithoutMarkersStand}

name_stands : (dirs : List (List ℕ)) (line : List ℕ) (name : Option (List ℕ)) → not (is_some name) ≡ true → mapped_name dirs line name ≡ line
name_stands dirs line None h = refl
name_stands dirs line (Some name) h = absurd (cc)

rest_stands : (raw : Bool) (mapped lines : List (List ℕ)) → mapped ≡ lines → cond raw lines mapped ≡ lines
rest_stands true mapped lines h = refl
rest_stands false mapped lines h = h

lines_stand : (dirs lines : List (List ℕ)) → list_all (λ line. not (is_some (marked_name line))) lines ≡ true → mapped_lines dirs lines ≡ lines
lines_stand dirs [] h = refl
lines_stand dirs (line ∷ lines) h =
    let both = and_parts (not (is_some (marked_name line))) (list_all (λ (l : List ℕ). not (is_some (marked_name l))) lines) h in
    ap (λ (first : List ℕ). first ∷ cond (begins_raw line) lines (mapped_lines dirs lines)) (name_stands dirs line (marked_name line) both.0)
    ∙ ap (λ (rest : List (List ℕ)). line ∷ rest) (rest_stands (begins_raw line) (mapped_lines dirs lines) lines (lines_stand dirs lines both.1))

pub texts_without_markers_stand : TextsWithoutMarkersStand
texts_without_markers_stand = λ dirs text h. ap (join_with_byte line_feed) {y = parts line_feed text} (lines_stand dirs (parts line_feed text) h) ∙ join_with_byte-slice_split line_feed text
