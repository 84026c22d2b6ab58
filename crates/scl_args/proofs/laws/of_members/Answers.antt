use Rattle.scl_args.proofs.TiesLaws.{tables_of_two, last_owner, last_looks, order_counts_on_ties}
use Rattle.scl_args.proofs.laws.of_members.Goals as goal

pub returns-clause-pair_is_tables_of_two : goal.returns-clause-pair_is_tables_of_two
returns-clause-pair_is_tables_of_two g c = tables_of_two g.S.SearchableArgInfo.tables

pub returns-clause-last_member_wins : goal.returns-clause-last_member_wins
returns-clause-last_member_wins g c = λ tables_of members member word. (last_owner tables_of members member word, last_looks tables_of members member word)

pub returns-clause-order_counts_on_ties : goal.returns-clause-order_counts_on_ties
returns-clause-order_counts_on_ties g c = order_counts_on_ties
