use Rattle.std.proofs.Common.{rules, Some, None, sym, ap, ◌∙◌, lit<}
use Rattle.std.proofs.lemmas.Str.Pattern.{strip_suffix_char}
use Rattle.scl_gnu.specs.Versions.{without_quotes}
use Rattle.scl_gnu.proofs.VersionLemmas.{quote_goes, nothing_goes}
use Rattle.scl_gnu.proofs.clang.version.without_quotes.Goals as goal

pub loop-shorter-preserved : goal.loop-shorter-preserved
loop-shorter-preserved c =
    let cut = strip_suffix_char 34 _ (Some c.in-Some.shorter) c.in-Some.ensures.cases (lit< tt) in
    (search rules, sym (quote_goes c.in-Some.shorter.now) ∙ sym (ap without_quotes cut) ∙ c.loop-shorter.invariant.1)

pub returns : goal.returns
returns c =
    let whole = strip_suffix_char 34 _ None c.in_default.ensures.cases (lit< tt) in
    sym (nothing_goes _ whole) ∙ c.loop-shorter.invariant.1
