use Rattle.std.proofs.Common.{◌≡◌, [], List, ap, sym, ◌∙◌}
use Rattle.std.proofs.lemmas.Bool.{eqb-true}
use Rattle.std.proofs.lemmas.List.{nil_from_length}
use Rattle.scl_catalogue.specs.Views.{lexicon_of}
use Rattle.scl_text.specs.Commands.{pairs_of}
use Rattle.scl_text.specs.Records.{parsed_of}
use Rattle.scl_key.specs.Keys.{Key, NoKey, keeping_by, whole_key_by}
use Rattle.scl_key.specs.KnownViews.{known_of}
use Rattle.scl_key.specs.Views.{no_keys_of, run_words_of}
use Rattle.scl_key.proofs.key.kept_unless.Goals as goal

pub returns : goal.returns
returns c =
    let key : Key = whole_key_by (lexicon_of c.args.line.now.lexicon.now) (known_of c.args.known.now) c.args.line.now.compiler (pairs_of c.args.line.now.environment.now) (run_words_of c.args.line.now.words) (parsed_of c.args.line.now.parsed.now) in
    let none : c.in_ok-why.why.items ≡ [] = nil_from_length c.in_ok-why.why.items (sym c.in_ok-why.why.ok.0 ∙ eqb-true c.in_ok-why.why.len 0 (sym c.is_empty.ensures ∙ c.if-not-is_empty.false)) in
    c.in_ok-keeping.ensures ∙ ap (λ (why : List NoKey). keeping_by why key) (sym (sym c.in_ok-why.ensures ∙ ap (λ why. no_keys_of why) none))
