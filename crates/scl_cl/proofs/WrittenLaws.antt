-- What is written is read back.
use Rattle.std.proofs.Common.{◌≡◌, ℕ, List, [], ◌∷◌, ◌++◌, Some, None, refl, ap, sym, ◌∙◌, arith, append_assoc, map, codes}
use Rattle.std.specs.List.{flat_map, filter_map, cons_option}
use Rattle.scl_values.specs.Escaped.{escaped}
use Rattle.scl_description.specs.Fields.{AreBytes, AreAllBytes}
use Rattle.std.specs.Option.{option_map}
use Rattle.scl_description.specs.Lines.{cut_at, line, lines_of}
use Rattle.scl_cl.specs.Sayings.{Saying, said, keyword_text, keyword_named}
use Rattle.scl_cl.specs.Sayings as sayings
use Rattle.scl_cl.specs.Written.{CanBeWritten, AllCanBeWritten, written}
use Rattle.scl_cl.specs.AnswerTexts.{text_of, cacheable_text, arg_line}
use Rattle.scl_reader.specs.Answers.{compiled}
use Rattle.scl_reader.specs.Compilers.{name_of, compiler_named}
use Rattle.scl_text.specs.declared.records.Cacheable.{Cacheable}
use Rattle.scl_text.specs.declared.records.Cacheable.TheVariants as cacheable
use Rattle.scl_reader.specs.declared.compiler.Compiler.{Compiler}
use Rattle.scl_cl.specs.declared.keyword.Keyword as keywords
use Rattle.scl_description.proofs.CutLaws.{cut_at-append}
use Rattle.scl_description.proofs.WrittenFieldLaws.{field-escaped, fields-written, lines-feed, no-feed, lines-line}

pub name-back : (compiler : Compiler) → compiler_named (name_of compiler) ≡ Some compiler
name-back compiler = grind arith

pub keyword-back : (k : keywords.Keyword) → keyword_named (keyword_text k) ≡ Some k
keyword-back k = grind arith

pub said-written : (s : Saying) → CanBeWritten s → said (written s) ≡ Some s
said-written sayings.Blank can = refl
said-written (sayings.Compiler compiler) can = ap (option_map sayings.Compiler) (name-back compiler)
said-written (sayings.Directory directory) can = ap (option_map sayings.Directory) (field-escaped directory can)
said-written (sayings.Word word) can = ap (option_map sayings.Word) (field-escaped word can)
said-written (sayings.File path bytes) can = ap (option_map (λ p. sayings.File p.0 p.1)) (fields-written path bytes can.0 can.1)
said-written (sayings.ViewedDirectory path) can = ap (option_map sayings.ViewedDirectory) (field-escaped path can)
said-written (sayings.Existing path) can = ap (option_map sayings.Existing) (field-escaped path can)
said-written (sayings.Variable key value) can = ap (option_map (λ p. sayings.Variable p.0 p.1)) (fields-written key value can.0 can.1)
said-written sayings.Multiarch can = refl

no-feed_behind : (front bs : List ℕ) → cut_at 10 front ≡ None → AreBytes bs → cut_at 10 (front ++ escaped bs) ≡ None
no-feed_behind front bs h are = cut_at-append 10 front (escaped bs) h (no-feed bs are)

no-feed_pair : (front a b : List ℕ) → cut_at 10 front ≡ None → AreBytes a → AreBytes b → cut_at 10 (front ++ escaped a ++ 9 ∷ escaped b) ≡ None
no-feed_pair front a b h k l =
    cut_at-append 10 (front ++ escaped a) (9 ∷ escaped b) (no-feed_behind front a h k) (cut_at-append 10 (9 ∷ []) (escaped b) refl (no-feed b l))

name-no-feed : (compiler : Compiler) → cut_at 10 (codes "compiler " ++ name_of compiler) ≡ None
name-no-feed compiler = grind arith

written-no-feed : (s : Saying) → CanBeWritten s → cut_at 10 (written s) ≡ None
written-no-feed sayings.Blank can = refl
written-no-feed (sayings.Compiler compiler) can = name-no-feed compiler
written-no-feed (sayings.Directory directory) can = no-feed_behind (codes "cwd ") directory refl can
written-no-feed (sayings.Word word) can = no-feed_behind (codes "word ") word refl can
written-no-feed (sayings.File path bytes) can = no-feed_pair (codes "file ") path bytes refl can.0 can.1
written-no-feed (sayings.ViewedDirectory path) can = no-feed_behind (codes "dir ") path refl can
written-no-feed (sayings.Existing path) can = no-feed_behind (codes "exists ") path refl can
written-no-feed (sayings.Variable key value) can = no-feed_pair (codes "env ") key value refl can.0 can.1
written-no-feed sayings.Multiarch can = refl

pub request-written : (all : List Saying) → AllCanBeWritten all → filter_map said (lines_of (flat_map (λ s. line (written s)) all)) ≡ all
request-written [] can = refl
request-written (s ∷ ss) can =
    let rest : List ℕ = flat_map (λ s. line (written s)) ss in
    ap (filter_map said) (lines-line (written s) rest (written-no-feed s can.0))
    ∙ ap (λ o. cons_option o (filter_map said (lines_of rest))) (said-written s can.0)
    ∙ ap (λ xs. s ∷ xs) (request-written ss can.1)

cacheable-no-feed : (kept : Cacheable) → cut_at 10 (cacheable_text kept) ≡ None
cacheable-no-feed cacheable.Yes = refl
cacheable-no-feed cacheable.No = refl

abbrev arg_text : List ℕ → List ℕ
arg_text word = codes "arg " ++ escaped word

args-lines : (words : List (List ℕ)) (rest : List ℕ) → AreAllBytes words → lines_of (flat_map arg_line words ++ rest) ≡ map arg_text words ++ lines_of rest
args-lines [] rest are = refl
args-lines (word ∷ words) rest are =
    ap lines_of (append_assoc (arg_line word) (flat_map arg_line words) rest ∙ ap (λ l. l ++ (flat_map arg_line words ++ rest)) (sym (append_assoc (codes "arg ") (escaped word) (10 ∷ []))))
    ∙ lines-line (arg_text word) (flat_map arg_line words ++ rest) (no-feed_behind (codes "arg ") word refl are.0)
    ∙ ap (λ ls. arg_text word ∷ ls) (args-lines words rest are.1)

pub answer-lines : (words : List (List ℕ)) (kept : Cacheable) → AreAllBytes words → lines_of (text_of (compiled words kept)) ≡ (codes "ok" ∷ map arg_text words) ++ cacheable_text kept ∷ []
answer-lines words kept are =
    let last : List ℕ = line (cacheable_text kept) in
    let end : lines_of last ≡ cacheable_text kept ∷ [] = lines-feed (cacheable_text kept) [] (cacheable-no-feed kept) in
    ap lines_of (append_assoc (line (codes "ok")) (flat_map arg_line words) last)
    ∙ lines-line (codes "ok") (flat_map arg_line words ++ last) refl
    ∙ ap (λ ls. codes "ok" ∷ ls) (args-lines words last are ∙ ap (λ ls. map arg_text words ++ ls) end)
