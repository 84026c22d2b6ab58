use Rattle.std.proofs.Common.{◌≡◌, true, false, rules}
use Rattle.std.proofs.lemmas.Iterator.{cases_from_any}
use Rattle.std.proofs.lemmas.Iterator.Splits.{YieldsList-from_slice_split}
use Rattle.std.specs.List.{slice_split}
use Rattle.scl_catalogue.proofs.AnyLemmas.{any_result}
use Rattle.scl_catalogue.specs.Found.{is_comma, passes}
use Rattle.scl_catalogue.specs.Views.{text_of}
use Rattle.scl_catalogue.proofs.test.any_part.Goals as goal

pub returns : goal.returns
returns c =
    let p = passes (text_of c.args.text.now) in
    any_result p (slice_split is_comma c.args.value.now) _
    (cases_from_any _ _ _ (λ x. p x ≡ true) (λ x. p x ≡ false) c.any.ensures.ran
    (YieldsList-from_slice_split _ is_comma c.args.value.now c.split.ensures.rest c.split.ensures.done c.split.ensures.closure (λ x b q k. search rules))
    (λ x q k. search rules) (λ x q k. search rules))
