use Rattle.scl_msvc.proofs.EqualityLaws.{prefixes, clangs, versions}
use Rattle.scl_msvc.proofs.laws.of_equality.Goals as goal

pub returns-clause-prefixes_are_told_apart : goal.returns-clause-prefixes_are_told_apart
returns-clause-prefixes_are_told_apart c = prefixes

pub returns-clause-compilers_are_told_apart : goal.returns-clause-compilers_are_told_apart
returns-clause-compilers_are_told_apart c = clangs

pub returns-clause-versions_are_told_apart : goal.returns-clause-versions_are_told_apart
returns-clause-versions_are_told_apart c = versions
