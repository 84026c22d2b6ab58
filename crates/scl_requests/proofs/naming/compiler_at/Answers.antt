use Rattle.std.proofs.Common.{◌≡◌, List, [], ℕ, Vec, Option, get_or, sym, ap, ◌∙◌}
use Rattle.std.proofs.lemmas.Result.{IfOk-weaker}
use Rattle.std.specs.declared.alloc.Global.{Global}
use Rattle.scl_values.specs.Words.{words_of}
use Rattle.scl_names.specs.Names.{compiler_of}
use Rattle.scl_reader.specs.declared.compiler.Compiler.{Compiler}
use Rattle.scl_requests.specs.Naming.{compiler_at}
use Rattle.scl_requests.proofs.NamingLaws.{compiler_there, word_at}
use Rattle.scl_requests.proofs.naming.compiler_at.Goals as goal

pub returns-in-Some : goal.returns-in-Some
returns-in-Some c =
    let words : List (Vec ℕ Global) = c.args.words.now in
    let word : c.deref.result.now ≡ get_or (words_of words) c.in-Some.at [] = c.deref.ensures.value ∙ ap (λ (word : Vec ℕ Global). word.items) c.index-words-at.is ∙ word_at words c.in-Some.at c.index-words-at.result c.if-at-words.true in
    let there : compiler_of c.deref.result.now ≡ compiler_at (words_of words) c.args.at = ap compiler_of word ∙ compiler_there words c.in-Some.at c.if-at-words.true ∙ ap (compiler_at (words_of words)) (sym c.in-Some.is) in
    IfOk-weaker c.compiler_of.result (λ (compiler : Option Compiler). compiler ≡ compiler_of c.deref.result.now) (λ (compiler : Option Compiler). compiler ≡ compiler_at (words_of words) c.args.at) (λ compiler is. is ∙ there) c.compiler_of.ensures
