use Rattle.std.proofs.Common.{◌≡◌, false, List, Vec, ℕ, is_some, length, sym, subst, ◌∙◌}
use Rattle.std.specs.List.{list_any}
use Rattle.std.specs.declared.alloc.Global.{Global}
use Rattle.scl_values.specs.Words.{words_of}
use Rattle.scl_files.specs.ResponseFiles.{file_name_in}
use Rattle.scl_files.proofs.ExpandedLemmas.{plain_expanded}
use Rattle.scl_files.proofs.SourceLaws.{words_count}
use Rattle.scl_files.proofs.line.expand_line.Goals as goal

pub returns : goal.returns
returns c =
    let given = c.args.given in
    let P : List (Vec ℕ Global) → Type 0 = λ ws. list_any (λ word. is_some (file_name_in c.args.kind word)) (words_of ws) ≡ false in
    plain_expanded c.args.most c.args.kind c.args.cwd.now c.args.view.now.files (words_of given.words.items) given.ats.items c.standing_line.result
    (subst P c.deref.ensures.value (sym c.name_files.ensures ∙ c.if-name_files.false)) (given.counted ∙ sym (words_count given.words.items)) c.standing_line.ensures
