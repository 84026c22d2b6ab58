use Rattle.std.proofs.Common.{◌≡◌, ◌++◌, ◌∷◌, [], arith, List, Option, Some, None, refl, ap, ◌∙◌}
use Rattle.std.proofs.lemmas.Grind.{common_steps}
use Rattle.std.proofs.lemmas.List.Elements.{filter_map-append}
use Rattle.std.specs.List.{cons_option, filter_map}
use Rattle.std.specs.Option.{option_to_list}
use Rattle.scl_key.proofs.made.push_joined.Goals as goal

one : {A : Type 0} (o : Option A) → cons_option o [] ≡ option_to_list o
one None = refl
one (Some x) = refl

-- what the next element gives comes last
filter_map-more : {A B : Type 0} (h : A → Option B) (xs : List A) (x : A) → filter_map h (xs ++ x ∷ []) ≡ filter_map h xs ++ option_to_list (h x)
filter_map-more h xs x = filter_map-append h xs (x ∷ []) ∙ ap (λ ys. filter_map h xs ++ ys) (one (h x))

pub loop-word-preserved : goal.loop-word-preserved
loop-word-preserved c = grind (arith, common_steps, filter_map-more)
