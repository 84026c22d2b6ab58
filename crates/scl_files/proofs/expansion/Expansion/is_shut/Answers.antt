use Rattle.std.proofs.Common.{◌∙◌, sym, rules}
use Rattle.scl_files.specs.ExpansionState.{words_left}
use Rattle.scl_files.proofs.OpenLemmas.{is_shut-compared, is_shut-msvc}
use Rattle.scl_files.proofs.expansion.Expansion.is_shut.Goals as goal

pub returns-in-Gnu : goal.returns-in-Gnu
returns-in-Gnu c =
    let self = c.args.self.now in
    c.contains.ensures ∙ sym (is_shut-compared self.kind c.args.path.now (words_left self.inner) self.open_files c.in-Gnu.is)

pub returns-in-Msvc : goal.returns-in-Msvc
returns-in-Msvc c = rw c.in-Msvc.is (sym (search (rules, is_shut-msvc)))
