-- Words told by their bases.
use Rattle.std.proofs.Common.{◌≡◌, ℕ, ◌<◌, true, List, [], ◌∷◌, ◌++◌, length, map, sym, ap, ◌∙◌, append_assoc, arith}
use Rattle.std.proofs.lemmas.List.{length-map, length-append}
use Rattle.std.specs.List.{join_with_byte}
use Rattle.scl_base_dirs.specs.declared.spelling.Spelling.TheVariants as spelled
use Rattle.scl_base_dirs.specs.Cuts.{has_none, parts, IsCutAt}
use Rattle.scl_base_dirs.specs.Told.{told_path, told_list}
use Rattle.scl_base_dirs.proofs.CutLemmas.{parts_around, parts_one, parts_some, join_cons}

pub told_list-cut : (dirs : List (List ℕ)) (separator : ℕ) (text before after : List ℕ) → IsCutAt separator text before after
    → told_list dirs separator text ≡ told_path spelled.Word dirs before ++ separator ∷ told_list dirs separator after
told_list-cut dirs separator text before after cut =
    let told = told_path spelled.Word dirs in
    let split : parts separator text ≡ before ∷ parts separator after = rw cut.whole (parts_around separator before after cut.first) in
    let some : 0 < length (map told (parts separator after)) = omega (arith, length-map (parts separator after) told, parts_some separator after) in
    ap (λ (ps : List (List ℕ)). join_with_byte separator (map told ps)) split ∙ join_cons separator (told before) (map told (parts separator after)) some

pub told_list-one : (dirs : List (List ℕ)) (separator : ℕ) (text : List ℕ) → has_none separator text ≡ true → told_list dirs separator text ≡ told_path spelled.Word dirs text
told_list-one dirs separator text h = ap (λ (ps : List (List ℕ)). join_with_byte separator (map (told_path spelled.Word dirs) ps)) (parts_one separator text h)

-- one path of a list, and the byte after it
pub list_step : (dirs : List (List ℕ)) (separator : ℕ) (text before after told told' told'' total : List ℕ) → IsCutAt separator text before after
    → told' ≡ told ++ told_path spelled.Word dirs before → told'' ≡ told' ++ separator ∷ [] → told ++ told_list dirs separator text ≡ total
    → told'' ++ told_list dirs separator after ≡ total
list_step dirs separator text before after told told' told'' total cut path mark all =
    rw (mark, path) (simp append_assoc (sym (ap (λ (rest : List ℕ). told ++ rest) (told_list-cut dirs separator text before after cut)) ∙ all))

pub list_end : (dirs : List (List ℕ)) (separator : ℕ) (text told told' total : List ℕ) → has_none separator text ≡ true
    → told' ≡ told ++ told_path spelled.Word dirs text → told ++ told_list dirs separator text ≡ total → told' ≡ total
list_end dirs separator text told told' total none path all = path ∙ sym (ap (λ (rest : List ℕ). told ++ rest) (told_list-one dirs separator text none)) ∙ all

pub cut_shorter : (separator : ℕ) (text before after : List ℕ) → IsCutAt separator text before after → length after < length text
cut_shorter separator text before after cut = rw cut.whole (simp length-append (omega arith))

pub ruleset list_rules = (list_step, list_end, cut_shorter)
