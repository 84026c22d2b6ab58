use Rattle.std.proofs.Common.{rules, ◌≡◌, ◌++◌, ◌∷◌, [], ◌+◌, ℕ, List, take, codes, refl, ap, sym, ◌∙◌, append_assoc}
use Rattle.std.specs.Prelude.{Vec}
use Rattle.std.specs.declared.alloc.Global.{Global}
use Rattle.std.proofs.lemmas.List.{map_more}
use Rattle.scl_values.specs.Words.{words_of}
use Rattle.scl_text.specs.Commands.{pairs_of}
use Rattle.scl_key.specs.Told.{flat_pairs}
use Rattle.scl_key.proofs.told.environment_fact.Goals as goal

flat_pairs-more : (pairs : List (List ℕ × List ℕ)) (pair : List ℕ × List ℕ) → flat_pairs (pairs ++ pair ∷ []) ≡ flat_pairs pairs ++ pair.0 ∷ pair.1 ∷ []
flat_pairs-more [] pair = refl
flat_pairs-more (first ∷ pairs) pair = ap (λ fields. first.0 ∷ first.1 ∷ fields) (flat_pairs-more pairs pair)

pub loop-key-preserved : goal.loop-key-preserved
loop-key-preserved c =
    let parts : (Vec ℕ Global × Vec ℕ Global) → List ℕ × List ℕ = λ p. (p.0.items, p.1.items) in
    let key : List ℕ = c.loop-key-item.result.0.items in
    let value : List ℕ = c.loop-key-item.result.1.items in
    let before : List (List ℕ × List ℕ) = pairs_of (take c.loop-key.key-index c.args.pairs.now) in
    let taken : pairs_of (take (c.loop-key.key-index + 1) c.args.pairs.now) ≡ before ++ (key, value) ∷ [] =
    map_more parts c.args.pairs.now c.loop-key.key-index c.loop-key-item.result c.loop-key-test.true ∙ ap (λ p. before ++ parts p ∷ []) (sym c.loop-key-item.is) in
    let keyed : words_of c.push_word-in-loop-key.new.list.items ≡ words_of c.loop-key.row.items ++ key ∷ [] = search (rules, c.in_ok-push_word-2.ensures, c.deref.ensures.value) in
    let valued : words_of c.push_word-in-loop-key-2.new.list.items ≡ words_of c.push_word-in-loop-key.new.list.items ++ value ∷ [] =
    search (rules, c.in_ok-push_word-3.ensures, c.deref-in-loop-key.ensures.value) in
    valued ∙ ap (λ ws. ws ++ value ∷ []) (keyed ∙ ap (λ ws. ws ++ key ∷ []) c.loop-key.invariant)
    ∙ ap (λ ws. codes "environment" ∷ ws) (append_assoc (flat_pairs before) (key ∷ []) (value ∷ []) ∙ sym (flat_pairs-more before (key, value)))
    ∙ ap (λ ps. codes "environment" ∷ flat_pairs ps) (sym taken)
