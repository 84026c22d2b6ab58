-- The parts of a command line's words.
use Rattle.std.proofs.Common.{◌≡◌, ◌<◌, ◌+◌, ℕ, suc, Option, None, false, List, [], ◌∷◌, length, take, drop, get_or, Some, Vec, sym, ap, ◌∙◌, add-zero, arith}
use Rattle.std.proofs.lemmas.List.{drop-drop, drop-map, get_or-drop, get_or-map, length-map, take-map}
use Rattle.std.specs.List.{remove}
use Rattle.std.specs.declared.alloc.Global.{Global}
use Rattle.scl_values.specs.Words.{words_of}
use Rattle.scl_names.specs.Launchers.{Front, front, program_behind, program_from, program_or, step}

found_or : (more : List (List ℕ)) (from at : ℕ) (words : List (List ℕ)) (o : Option Front) → ((g : Front) → program_from more g (from + 1) words ≡ Some at → at < (from + 1) + length words)
    → program_or from o (λ g. program_from more g (from + 1) words) ≡ Some at → at < from + suc (length words)
found_or more from at words None inside h = let same : from ≡ at = cc in omega (arith, same)
found_or more from at words (Some g) inside h = let there = inside g h in omega (arith, there)

found_inside : (more : List (List ℕ)) (f : Front) (from at : ℕ) (words : List (List ℕ)) → program_from more f from words ≡ Some at → at < from + length words
found_inside more f from at [] h = absurd (cc)
found_inside more f from at (word ∷ words) h = found_or more from at words (step more f word) (λ g e. found_inside more g (from + 1) at words e) h

-- the program is one of the words
pub program_inside : (more : List (List ℕ)) (all : List (Vec ℕ Global)) (at : ℕ) → Some at ≡ program_behind more (words_of all) → at < length all
program_inside more all at h = let inside = found_inside more (front [] false) 0 at (words_of all) (sym h) in omega (arith, inside, length-map all (λ word. word.items))

pub words_before : (all front : List (Vec ℕ Global)) (at : ℕ) → front ≡ take at all → words_of front ≡ take at (words_of all)
words_before all front at h = ap words_of h ∙ sym (take-map (λ word. word.items) at all)

-- the first of the words from it on
pub program_of : (all tail : List (Vec ℕ Global)) (program : Vec ℕ Global) (at : ℕ) → at < length all → tail ≡ drop at all → program ≡ get_or tail 0 program → program.items ≡ get_or (words_of all) at []
program_of all tail program at inside h e =
    ap (λ word. word.items) (e ∙ ap (λ words. get_or words 0 program) h ∙ (rw add-zero at (get_or-drop at all 0 program))) ∙ sym (get_or-map (λ word. word.items) all at program [] inside)

pub words_behind : (all tail words : List (Vec ℕ Global)) (at : ℕ) → tail ≡ drop at all → words ≡ remove tail 0 → words_of words ≡ drop (at + 1) (words_of all)
words_behind all tail words at h e =
    ap words_of (e ∙ ap (λ ws. drop 1 ws) h ∙ drop-drop 1 at all) ∙ sym (drop-map (λ word. word.items) (at + 1) all)

pub ruleset divided_rules = (words_before, program_of, words_behind)
