-- The law of descriptions of two checkouts.
use Rattle.std.proofs.Common.{◌≡◌, ℕ, ◌==◌, not, Bool, true, cond, List, [], ◌++◌, length, map, sym, ap, ◌∙◌}
use Rattle.std.proofs.lemmas.Bool.{and_parts, not-true}
use Rattle.std.specs.List.{list_all}
use Rattle.scl_catalogue.specs.Lookup.{Lexicon}
use Rattle.scl_text.specs.Records.{Parsed}
use Rattle.scl_reader.specs.declared.compiler.Compiler.{Compiler}
use Rattle.scl_key.specs.Directs.{direct_entries}
use Rattle.scl_key.specs.Keys.{Key}
use Rattle.scl_key.specs.Parts.{key_entries}
use Rattle.scl_shared_key.specs.Usuals.{is_usual}
use Rattle.scl_shared_key.specs.Verdicts.{Verdict, verdict}
use Rattle.scl_delivered.specs.Delivered.{Delivered, delivered, names_none, object_by, told_by, told_part}
use Rattle.scl_delivered.specs.Rows.{last_rows_of, rows_of}
use Rattle.scl_requests.specs.TextLaws.{TextsEndAlike}
use Rattle.scl_requests.proofs.SharedLaws.{all_usual, named_by_none, only_the_bases_differ, told_is}

-- a key is told if there are directories
delivered_is : (lexicon : Lexicon) (c : Compiler) (p : Parsed) (dirs : List (List ℕ)) (keeps : Bool) (key : Key) → names_none (verdict dirs (object_by lexicon c p key)).in_object ≡ true
    → delivered lexicon c p dirs keeps key ≡ told_by dirs (verdict dirs (object_by lexicon c p key)) (delivered lexicon c p [] keeps key)
delivered_is lexicon c p dirs keeps key none =
    let some = (and_parts (not (length dirs == 0)) (list_all is_usual dirs) (all_usual dirs (object_by lexicon c p key) none)).0 in
    ap (λ (b : Bool). cond b (delivered lexicon c p [] keeps key) (told_by dirs (verdict dirs (object_by lexicon c p key)) (delivered lexicon c p [] keeps key))) (not-true (length dirs == 0) some)

-- a key that is told has no rows but those at the end
rows_none : (dirs : List (List ℕ)) (said : Verdict) (d : Delivered) → names_none said.in_object ≡ true → rows_of (told_by dirs said d) ≡ []
rows_none dirs said d none = ap rows_of (told_is dirs said d none) ∙ ap (λ (b : Bool). cond b [] (key_entries (map (told_part dirs) d.parts) ++ direct_entries [])) none

none_of : (lexicon : Lexicon) (c : Compiler) (p : Parsed) (dirs : List (List ℕ)) (keeps : Bool) (key : Key) → names_none (verdict dirs (object_by lexicon c p key)).in_object ≡ true → rows_of (delivered lexicon c p dirs keeps key) ≡ []
none_of lexicon c p dirs keeps key none = ap rows_of (delivered_is lexicon c p dirs keeps key none) ∙ rows_none dirs (verdict dirs (object_by lexicon c p key)) (delivered lexicon c p [] keeps key) none

pub texts_end_alike : TextsEndAlike
texts_end_alike = λ dirs dirs' rows macros lexicon lexicon' c c' p p' keeps keeps' key key' here there same.
    let o = object_by lexicon c p key in
    let o' = object_by lexicon' c' p' key' in
    let none' = named_by_none dirs dirs' o o' same in
    record {
      first = none_of lexicon c p dirs keeps key same.name_none;
      second = none_of lexicon' c' p' dirs' keeps' key' none';
      ends = ap last_rows_of
          (delivered_is lexicon c p dirs keeps key same.name_none
          ∙ only_the_bases_differ dirs dirs' rows macros o o' (delivered lexicon c p [] keeps key) (delivered lexicon' c' p' [] keeps' key') here there same
          ∙ sym (delivered_is lexicon' c' p' dirs' keeps' key' none'));
    }
