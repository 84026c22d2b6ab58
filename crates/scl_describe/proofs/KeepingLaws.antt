-- The rows of keeping have names of their own.
use Rattle.std.proofs.Common.{ℕ, Bool, true, false, cond, List, [], ◌∷◌, ◌++◌, map, codes, Option, None, Some, refl}
use Rattle.scl_catalogue.specs.declared.entry.Verb.{Verb}
use Rattle.scl_catalogue.specs.declared.entry.Verb.TheVariants as verb
use Rattle.scl_effects.specs.Effects.{Effect}
use Rattle.scl_values.specs.Each.{Each}
use Rattle.scl_description.specs.Laws.{IsBeside}
use Rattle.scl_description.specs.Rows.{lone, row_entry}
use Rattle.scl_key.specs.Directs.{Direct, direct_entries}
use Rattle.scl_key.specs.Keys.{NoKey, no_key_entry}
use Rattle.scl_key.specs.Parts.{Part, key_entries}
use Rattle.scl_shared_key.specs.Verdicts.{Verdict}
use Rattle.scl_delivered.specs.Delivered.{is_told_by_bases, names_none}
use Rattle.scl_delivered.specs.Rows.{nevertheless, rows_of, shown_entries, told_entries, verdict_entries}
use Rattle.scl_describe.specs.EffectRows.{effect_entries, effect_entry}
use Rattle.scl_describe.specs.Keepings.{Kept, nothing, under_key, unknown, under_none, kept_entries, last_entries}

pub each-both : {A : Type 0} (P : A → Type 0) (xs ys : List A) → Each P xs → Each P ys → Each P (xs ++ ys)
each-both P [] ys h k = k
each-both P (x ∷ xs) ys h k = (h.0, each-both P xs ys h.1 k)

parts-beside : (parts : List Part) → Each IsBeside (key_entries parts)
parts-beside [] = tt
parts-beside (part ∷ parts) = (refl, parts-beside parts)

directs-beside : (direct : List Direct) → Each IsBeside (direct_entries direct)
directs-beside [] = tt
directs-beside (row ∷ direct) = (refl, directs-beside direct)

reasons-beside : (why : List NoKey) → Each IsBeside (map no_key_entry why)
reasons-beside [] = tt
reasons-beside (reason ∷ why) = (refl, reasons-beside why)

under-beside : (is_told : Bool) (parts : List Part) (direct : List Direct) → Each IsBeside (cond is_told [] (key_entries parts ++ direct_entries direct))
under-beside true parts direct = tt
under-beside false parts direct = each-both IsBeside (key_entries parts) (direct_entries direct) (parts-beside parts) (directs-beside direct)

-- what is said of keeping has no row of a record before the options
pub kept-beside : (kept : Kept) → Each IsBeside (kept_entries kept)
kept-beside nothing = tt
kept-beside (under_key key) =
    each-both IsBeside (rows_of key) (row_entry (codes "keep") (lone (codes "yes")) ∷ []) (under-beside (is_told_by_bases key) key.parts key.direct) (refl, tt)
kept-beside (unknown word) = (refl, tt)
kept-beside (under_none why) = reasons-beside why

told-beside : (is_told : Bool) (said : Verdict) (parts : List Part) → Each IsBeside (cond is_told (told_entries said parts) [])
unfolding told_entries nevertheless
told-beside true said parts = (refl, each-both IsBeside (key_entries parts) (nevertheless said) (parts-beside parts) (refl, (refl, (refl, tt))))
told-beside false said parts = tt

verdict-beside : (verdict : Option Verdict) (parts : List Part) → Each IsBeside (verdict_entries verdict parts)
verdict-beside None parts = tt
verdict-beside (Some said) parts = (refl, told-beside (names_none said.in_object) said parts)

shown-beside : (words : List (List ℕ)) → Each IsBeside (shown_entries words)
shown-beside [] = tt
shown-beside (word ∷ words) = (refl, shown-beside words)

-- nor at the end
pub last-beside : (kept : Kept) → Each IsBeside (last_entries kept)
last-beside nothing = tt
last-beside (under_key key) =
    each-both IsBeside (verdict_entries key.verdict key.parts) (shown_entries key.shown) (verdict-beside key.verdict key.parts) (shown-beside key.shown)
last-beside (unknown word) = tt
last-beside (under_none why) = tt

effect-beside : (v : Verb) (is_like : Bool) (name : List ℕ) → IsBeside (effect_entry (record { verb = v; is_like = is_like; name = name }))
effect-beside verb.Reads false name = refl
effect-beside verb.Reads true name = refl
effect-beside verb.Writes false name = refl
effect-beside verb.Writes true name = refl
effect-beside verb.Asks false name = refl
effect-beside verb.Asks true name = refl
effect-beside verb.Loads false name = refl
effect-beside verb.Loads true name = refl

pub effects-beside : (effects : List Effect) → Each IsBeside (effect_entries effects)
effects-beside [] = tt
effects-beside (e ∷ effects) = (effect-beside e.verb e.is_like e.name, effects-beside effects)
