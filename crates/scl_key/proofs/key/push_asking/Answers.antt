use Rattle.std.proofs.Common.{◌≡◌, ◌++◌, ◌∷◌, [], List, refl, ap, subst, ◌∙◌, append_assoc}
use Rattle.std.specs.Prelude.{OnOk}
use Rattle.scl_text.specs.Records.{Parsed, parsed_of}
use Rattle.scl_key.specs.declared.part.Ask.TheVariants as Ask
use Rattle.scl_key.specs.declared.part.Part as declared_part
use Rattle.scl_key.specs.declared.part.Part.TheVariants as parts
use Rattle.scl_key.specs.Keys.{asked_each, file_parts, text_parts}
use Rattle.scl_key.specs.Known.{Known, headers}
use Rattle.scl_key.specs.KnownViews.{known_of}
use Rattle.scl_key.specs.Parts.{Part, compiler, directory}
use Rattle.scl_key.specs.Runs.{plans}
use Rattle.scl_key.specs.Views.{part_of, parts_of, run_words_of}
use Rattle.scl_key.proofs.PartLaws.{and_parts}
use Rattle.scl_key.proofs.key.push_asking.Goals as goal

first-two : (ps : List declared_part.Part) → parts_of (ps ++ parts.Directory ∷ [] ++ parts.Compiler ∷ []) ≡ parts_of ps ++ directory ∷ compiler ∷ []
first-two [] = refl
first-two (p ∷ ps) = ap (λ others. part_of p ∷ others) (first-two ps)

pub returns : goal.returns
returns c =
    let k : Known = known_of c.args.known.now in
    let p : Parsed = parsed_of c.args.line.now.parsed.now in
    let x1 : List Part = directory ∷ compiler ∷ [] in
    let e1 : parts_of c.push-2.new.self.items ≡ parts_of c.args.parts.now.items ++ x1 =
    ap (λ ps. parts_of ps) (c.in_ok-push-2.ensures.items ∙ ap (λ ps. ps ++ parts.Compiler ∷ []) c.in_ok-push.ensures.items) ∙ first-two c.args.parts.now.items in
    let x2 : List Part = plans c.args.line.now.compiler p in
    let e2 : parts_of c.push_plans.new.parts.items ≡ parts_of c.args.parts.now.items ++ (x1 ++ x2) = and_parts _ _ _ x1 x2 e1 c.in_ok-push_plans.ensures in
    let x3 : List Part = file_parts k c.args.line.now.compiler (run_words_of c.args.line.now.words) p in
    let e3 : parts_of c.push_files.new.parts.items ≡ parts_of c.args.parts.now.items ++ (x1 ++ x2 ++ x3) = and_parts _ _ _ (x1 ++ x2) x3 e2 c.in_ok-push_files.ensures in
    let x4 : List Part = asked_each Ask.Regular (p.input ∷ headers k) in
    let e4 : parts_of c.push_regular.new.parts.items ≡ parts_of c.args.parts.now.items ++ (x1 ++ x2 ++ x3 ++ x4) = and_parts _ _ _ (x1 ++ x2 ++ x3) x4 e3 c.in_ok-push_regular.ensures in
    let x5 : List Part = text_parts k c.args.line.now.compiler p in
    subst (λ (parts : List Part). OnOk c.push_texts.result (parts_of c.push_texts.new.parts.items ≡ parts))
    (ap (λ t. t ++ x5) e4 ∙ append_assoc (parts_of c.args.parts.now.items) (x1 ++ x2 ++ x3 ++ x4) x5)
    c.push_texts.ensures
