use Rattle.std.proofs.Common.{subst}
use Rattle.scl_values.specs.Cuts.{Cutting}
use Rattle.scl_cutting.specs.Relation.{CutsInto}
use Rattle.scl_cutting.proofs.RelationLaws.{cuts, cuts_only}
use Rattle.scl_args.proofs.PrintLaws.{prints_what_was_cut}
use Rattle.scl_values.proofs.PrintLemmas.{texts_are_words}
use Rattle.scl_args.proofs.laws.of_options.Goals as goal

pub returns-clause-cuts_by_cases : goal.returns-clause-cuts_by_cases
returns-clause-cuts_by_cases g c = λ own dashes words cutting. (
  λ by_cases. cuts_only own dashes words cutting.options cutting.end by_cases,
  λ same. subst (λ (x : Cutting g.row.K.Denot). CutsInto own dashes words x.options x.end) same (cuts own dashes words),
)

pub returns-clause-prints_what_was_cut : goal.returns-clause-prints_what_was_cut
returns-clause-prints_what_was_cut g c = prints_what_was_cut

pub returns-clause-texts_are_words : goal.returns-clause-texts_are_words
returns-clause-texts_are_words g c = texts_are_words
