-- A run of cutting as a list of options and the error that ends it.
use Rattle.std.specs.Prelude.{ℕ, Bool, true, false, List, [], ◌∷◌, Option, None, Some, Result, Ok, Err, Vec}
use Rattle.std.specs.declared.alloc.Global.{Global}
use Rattle.scl_values.specs.declared.argument.Argument.{Argument}
use Rattle.scl_values.specs.declared.error.ArgParseError.{ArgParseError}
use Rattle.scl_values.specs.declared.error.ArgParseError.TheVariants as error
use Rattle.scl_values.specs.Cuts.{Cutting}
use Rattle.scl_cutting.specs.Iter.{Cutter, cut_left}
use Rattle.scl_values.specs.Words.{words_of}

-- items after those of a list of options
abbrev pub after_options : {T : Type 0} → List (Argument T) → List (Result (Argument T) ArgParseError) → List (Result (Argument T) ArgParseError)
after_options [] items = items
after_options (option ∷ options) items = Ok option ∷ after_options options items

-- the items of a list of options, and of the error that ends it
abbrev pub items_of : {T : Type 0} → List (Argument T) → Option ArgParseError → List (Result (Argument T) ArgParseError)
items_of options None = after_options options []
items_of options (Some e) = after_options options (Err e ∷ [])

-- what a cutter of a list of words still makes
abbrev pub left_of : {K : Type 0} → Cutter (List (Vec ℕ Global)) K → Cutting K
left_of s = cut_left s (words_of s.arguments)

-- whether an error ended cutting, if no allocation failed; if every value can be made, that is the last flag without its
-- value
abbrev pub dangles_by : Option ArgParseError → Option Bool
dangles_by None = Some false
dangles_by (Some error.UnexpectedEndOfArgs) = Some true
dangles_by (Some (error.InvalidUnicode word)) = Some true
dangles_by (Some (error.Other reason)) = Some true
dangles_by (Some error.Memory) = None
