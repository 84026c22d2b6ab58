use Rattle.std.proofs.Common.{◌≡◌, false, sym, subst, ◌∙◌, is_some, List, Vec, ℕ}
use Rattle.std.specs.List.{list_any}
use Rattle.std.specs.declared.alloc.Global.{Global}
use Rattle.scl_values.specs.Words.{words_of}
use Rattle.scl_files.specs.ResponseFiles.{file_name_in}
use Rattle.scl_files.proofs.ExpandLaws.{plain_words}
use Rattle.scl_files.proofs.expand.expand_words.Goals as goal

pub returns : goal.returns
returns c =
    let P : List (Vec ℕ Global) → Type 0 = λ ws. list_any (λ word. is_some (file_name_in c.args.kind word)) (words_of ws) ≡ false in
    sym (plain_words c.args.kind c.args.cwd.now c.args.view.now.files (words_of c.args.words.items) (subst P c.deref.ensures.value (sym c.name_files.ensures ∙ c.if-name_files.false)))
