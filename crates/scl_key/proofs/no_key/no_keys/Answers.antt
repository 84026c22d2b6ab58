use Rattle.std.proofs.Common.{rules, ◌≡◌, ◌++◌, List, map, filter, ap, ◌∙◌}
use Rattle.scl_values.specs.Words.{words_of}
use Rattle.scl_text.specs.Records.{Parsed, parsed_of}
use Rattle.scl_key.specs.declared.no_key.Reason.TheVariants as Reason
use Rattle.scl_key.specs.Keys.{NoKey, hazards, is_no_file, made_paths, no_key, no_keys_by_words, repeated, unnamed}
use Rattle.scl_key.specs.Known.{Known}
use Rattle.scl_key.specs.KnownViews.{known_of}
use Rattle.scl_key.specs.Views.{no_keys_of, paths_of, run_words_of}
use Rattle.scl_key.proofs.PathLaws.{paths-of}
use Rattle.scl_key.proofs.no_key.no_keys.Goals as goal

pub returns : goal.returns
returns c =
    let p : Parsed = parsed_of c.args.line.now.parsed.now in
    let k : Known = known_of c.args.known.now in
    let paths : paths_of c.args.known.now.made.items ≡ made_paths k.made = paths-of c.args.known.now.made.items in
    let words : words_of c.deref.result.now ≡ unnamed c.args.line.now.compiler p = search (rules, c.deref.ensures.value, c.in_ok-unnamed.ensures) in
    let x1 : List NoKey = hazards (run_words_of c.args.line.now.words) in
    let e1 : no_keys_of c.push_hazard.new.why.items ≡ x1 = search (rules, c.in_ok-push_hazard.ensures, c.new-why.ensures.items) in
    let x2 : List NoKey = no_keys_by_words k in
    let e2 : no_keys_of c.push_by_record.new.why.items ≡ x1 ++ x2 = c.in_ok-push_by_record.ensures ∙ ap (λ t. t ++ x2) e1 in
    let x3 : List NoKey = map (no_key Reason.WritesUnnamed) (unnamed c.args.line.now.compiler p) in
    let e3 : no_keys_of c.push_each.new.why.items ≡ x1 ++ x2 ++ x3 =
    c.in_ok-push_each.ensures ∙ ap (λ ws. no_keys_of c.push_by_record.new.why.items ++ map (no_key Reason.WritesUnnamed) ws) words ∙ ap (λ t. t ++ x3) e2 in
    let x4 : List NoKey = map (no_key Reason.OutputIsNoFile) (filter is_no_file (made_paths k.made)) in
    let e4 : no_keys_of c.push_no_files.new.why.items ≡ x1 ++ x2 ++ x3 ++ x4 =
    (rw c.deref-2.ensures.value at c.in_ok-push_no_files.ensures) ∙ ap (λ ps. no_keys_of c.push_each.new.why.items ++ map (no_key Reason.OutputIsNoFile) (filter is_no_file ps)) paths ∙ ap (λ t. t ++ x4) e3 in
    let x5 : List NoKey = map (no_key Reason.OnePathTwice) (repeated (made_paths k.made)) in
    (rw c.deref-3.ensures.value at c.in_ok-push_repeated.ensures) ∙ ap (λ ps. no_keys_of c.push_no_files.new.why.items ++ map (no_key Reason.OnePathTwice) (repeated ps)) paths ∙ ap (λ t. t ++ x5) e4
