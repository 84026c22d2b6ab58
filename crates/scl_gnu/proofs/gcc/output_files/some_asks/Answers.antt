use Rattle.std.proofs.Common.{◌≡◌, true, false, nat_eq, rules}
use Rattle.std.proofs.lemmas.Iterator.{cases_from_any}
use Rattle.std.proofs.lemmas.Iterator.Splits.{YieldsList-from_slice_split}
use Rattle.std.specs.List.{slice_split}
use Rattle.scl_gnu.specs.OutputFiles.{asks_for_rules}
use Rattle.scl_gnu.proofs.OutputFileLemmas.{any-result}
use Rattle.scl_gnu.proofs.gcc.output_files.some_asks.Goals as goal

pub returns : goal.returns
returns c =
    any-result asks_for_rules (slice_split (λ b. nat_eq b 44) c.args.texts.now) _
    (cases_from_any _ _ _ (λ x. asks_for_rules x ≡ true) (λ x. asks_for_rules x ≡ false) c.any.ensures.ran
    (YieldsList-from_slice_split _ (λ b. nat_eq b 44) c.args.texts.now c.split.ensures.rest c.split.ensures.done c.split.ensures.closure (λ x b q k. search rules))
    (λ x q k. search rules) (λ x q k. search rules))
