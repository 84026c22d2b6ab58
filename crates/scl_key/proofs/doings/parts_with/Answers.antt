use Rattle.std.proofs.Common.{rules, ◌≡◌, ◌++◌, ap, ◌∙◌}
use Rattle.scl_text.specs.Records.{Parsed, parsed_of}
use Rattle.scl_key.specs.Doings.{parts_told}
use Rattle.scl_key.specs.Keys.{made_paths, view_of}
use Rattle.scl_key.specs.Made.{made}
use Rattle.scl_key.specs.Views.{outputs_of, parts_of, paths_of}
use Rattle.scl_key.proofs.PathLaws.{paths-of}
use Rattle.scl_key.proofs.doings.parts_with.Goals as goal

pub returns : goal.returns
returns c =
    let p : Parsed = parsed_of c.args.parsed.now in
    let files : outputs_of c.deref.result.now ≡ made p = search (rules, c.deref.ensures.value, c.in_ok-files.ensures) in
    let paths : paths_of c.deref.result.now ≡ made_paths (made p) = paths-of c.deref.result.now ∙ ap made_paths files in
    c.in_ok-push_all_parts.ensures ∙ ap (λ outputs. parts_of c.args.parts.items ++ parts_told outputs c.args.effects.now) (c.in_ok-outputs.ensures ∙ ap view_of paths)
