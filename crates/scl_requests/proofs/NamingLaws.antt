-- The words of a request of a name.
use Rattle.std.proofs.Common.{◌≡◌, ◌<◌, ℕ, List, [], length, get_or, cond, Some, None, Ok, Err, Vec, sym, subst, ap, arith, ◌∙◌}
use Rattle.std.proofs.lemmas.List.{get_or-map, length-map}
use Rattle.std.specs.Prelude.{nat_lt}
use Rattle.std.specs.declared.alloc.Global.{Global}
use Rattle.scl_values.specs.Words.{words_of}
use Rattle.scl_description.specs.Rows.{entries_text}
use Rattle.scl_cl.specs.Requests.{naming, request_from}
use Rattle.scl_reader.specs.CommandLines.{Request}
use Rattle.scl_reader.specs.declared.compiler.Compiler.TheVariants.{Gcc}
use Rattle.scl_names.specs.Names.{compiler_of}
use Rattle.scl_requests.specs.Naming.{compiler_at, name_entries, named, named_by}

pub word_at : (words : List (Vec ℕ Global)) (at : ℕ) (other : Vec ℕ Global) → at < length words → (get_or words at other).items ≡ get_or (words_of words) at []
word_at words at other inside = sym (get_or-map (λ word. word.items) words at other [] inside)

if-below : {A : Type 0} (n m : ℕ) (x y : A) → n < m → cond (nat_lt n m) x y ≡ x
if-below n m x y below = grind arith

-- the compiler of a word that is there
pub compiler_there : (words : List (Vec ℕ Global)) (at : ℕ) → at < length words → compiler_of (get_or (words_of words) at []) ≡ compiler_at (words_of words) (Some at)
compiler_there words at inside = sym (if-below at (length (words_of words)) (compiler_of (get_or (words_of words) at [])) None (subst (λ n. at < n) (sym (length-map words (λ (word : Vec ℕ Global). word.items))) inside))

pub is_named : (lines : List (List ℕ)) (request : Request) (text : List ℕ) → request_from 2 (naming (Some Gcc)) lines ≡ Ok request → text ≡ entries_text (name_entries request.words) → named lines ≡ Ok text
is_named lines request text is told = ap named_by is ∙ ap Ok (sym told)

pub is_bad : (lines : List (List ℕ)) (number : ℕ) → request_from 2 (naming (Some Gcc)) lines ≡ Err number → named lines ≡ Err number
is_bad lines number is = ap named_by is
