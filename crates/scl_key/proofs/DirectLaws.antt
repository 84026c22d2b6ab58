-- A direct hit is right: the rows of a first key decide the key, and with a list its answers.
use Rattle.std.proofs.Common.{◌≡◌, ℕ, Bool, true, false, cond, List, [], ◌∷◌, ◌++◌, codes, refl, ap, sym, ◌∙◌}
use Rattle.scl_values.specs.Each.{Each}
use Rattle.scl_description.specs.Rows.{IsRow, row_text}
use Rattle.scl_description.specs.Records.{first_field}
use Rattle.scl_reader.specs.declared.compiler.Compiler.{Compiler}
use Rattle.std.specs.Str.{bytes_eq}
use Rattle.scl_key.specs.declared.part.Ask.TheVariants as asks
use Rattle.scl_key.specs.Directs.{Direct, env, search, first, named, refuse_if_read, direct_fields, directs}
use Rattle.scl_key.specs.Keys.{key_of}
use Rattle.scl_key.specs.Parts.{Part, asked, fields, hashed, is_asked}
use Rattle.scl_key.specs.Told.{told}
use Rattle.scl_key.specs.Laws.{World, answered, answers, material, early, is_early, part_back, valued, valued_rows, AreOne, DirectHitsAreRight}
use Rattle.scl_key.proofs.KeyLaws.{part-back, facts_in, facts-decide}
use Rattle.scl_key.proofs.HitLaws.{one-row, head_text, tail_texts, is_none, answered_by, front, facts-of-key, hits-right}

-- ---- rows decide what they are of

one-part : (x y : Part) → fields x ≡ fields y → x ≡ y
one-part x y e = sym (part-back x) ∙ ap part_back e ∙ part-back y

early-decides : (v w : World) (a b : Compiler) (xs ys : List Part) → Each (λ part. IsRow (fields part)) xs → Each (λ part. IsRow (fields part)) ys → early v a xs ≡ early w b ys → xs ≡ ys
early-decides v w a b [] [] i j h = refl
early-decides v w a b [] (y ∷ ys) i j h = absurd (let no : true ≡ false = ap is_none h in cc)
early-decides v w a b (x ∷ xs) [] i j h = absurd (let no : false ≡ true = ap is_none h in cc)
early-decides v w a b (x ∷ xs) (y ∷ ys) i j h =
    let one : x ≡ y = one-part x y (one-row (fields x) (fields y) i.0 j.0 (ap head_text h)) in
    let behind : (answered_by (is_early x) (v.answer a x) ≡ answered_by (is_early y) (w.answer b y)) × (early v a xs ≡ early w b ys) =
    front (is_early x) (is_early y) (v.answer a x) (w.answer b y) (early v a xs) (early w b ys) (ap is_early one) (ap tail_texts h) in
    ap (λ part. part ∷ xs) one ∙ ap (λ parts. y ∷ parts) (early-decides v w a b xs ys i.1 j.1 behind.1)

-- the row that is read back
abbrev direct_named : List ℕ → List (List ℕ) → Direct
direct_named name rest =
    cond (bytes_eq name (codes "env")) (env (first_field rest))
    (cond (bytes_eq name (codes "search")) (search rest)
    (cond (bytes_eq name (codes "first")) (first (first_field rest))
    (cond (bytes_eq name (codes "named")) (named (first_field rest)) (refuse_if_read (first_field rest)))))

abbrev direct_back : List (List ℕ) → Direct
direct_back [] = search []
direct_back (name ∷ rest) = direct_named name rest

direct-back : (d : Direct) → direct_back (direct_fields d) ≡ d
direct-back (env name) = refl
direct-back (search words) = refl
direct-back (first header) = refl
direct-back (named pattern) = refl
direct-back (refuse_if_read pattern) = refl

-- whether it has a value
abbrev is_valued : Direct → Bool
is_valued (env name) = true
is_valued (search words) = false
is_valued (first header) = false
is_valued (named pattern) = false
is_valued (refuse_if_read pattern) = false

abbrev value_in : World → Compiler → Direct → List ℕ
value_in v c (env name) = v.answer c (asked asks.Env name)
value_in v c (search words) = []
value_in v c (first header) = []
value_in v c (named pattern) = []
value_in v c (refuse_if_read pattern) = []

value-is : (v : World) (c : Compiler) (d : Direct) → valued v c d ≡ answered_by (is_valued d) (value_in v c d)
value-is v c (env name) = refl
value-is v c (search words) = refl
value-is v c (first header) = refl
value-is v c (named pattern) = refl
value-is v c (refuse_if_read pattern) = refl

rows-decide : (v w : World) (a b : Compiler) (xs ys : List Direct) → Each (λ row. IsRow (direct_fields row)) xs → Each (λ row. IsRow (direct_fields row)) ys → valued_rows v a xs ≡ valued_rows w b ys → xs ≡ ys
rows-decide v w a b [] [] i j h = refl
rows-decide v w a b [] (y ∷ ys) i j h = absurd (let no : true ≡ false = ap is_none h in cc)
rows-decide v w a b (x ∷ xs) [] i j h = absurd (let no : false ≡ true = ap is_none h in cc)
rows-decide v w a b (x ∷ xs) (y ∷ ys) i j h =
    let one : x ≡ y = sym (direct-back x) ∙ ap direct_back (one-row (direct_fields x) (direct_fields y) i.0 j.0 (ap head_text h)) ∙ direct-back y in
    let rest : answered_by (is_valued x) (value_in v a x) ++ valued_rows v a xs ≡ answered_by (is_valued y) (value_in w b y) ++ valued_rows w b ys =
    ap (λ t. t ++ valued_rows v a xs) (sym (value-is v a x)) ∙ ap tail_texts h ∙ ap (λ t. t ++ valued_rows w b ys) (value-is w b y) in
    let behind : (answered_by (is_valued x) (value_in v a x) ≡ answered_by (is_valued y) (value_in w b y)) × (valued_rows v a xs ≡ valued_rows w b ys) =
    front (is_valued x) (is_valued y) (value_in v a x) (value_in w b y) (valued_rows v a xs) (valued_rows w b ys) (ap is_valued one) rest in
    ap (λ row. row ∷ xs) one ∙ ap (λ rows. y ∷ rows) (rows-decide v w a b xs ys i.1 j.1 behind.1)

-- ---- answers decide what is hashed

same-material : (v w : World) (c : Compiler) (key : List Part) → answers v c key ≡ answers w c key → material v c key ≡ material w c key
same-material v w c [] h = refl
same-material v w c (part ∷ key) h =
    let both : (answered v c part ≡ answered w c part) × (answers v c key ≡ answers w c key) =
    front (is_asked part) (is_asked part) (v.answer c part) (w.answer c part) (answers v c key) (answers w c key) refl h in
    ap (λ t. row_text (hashed part) ∷ t ++ material v c key) both.0 ∙ ap (λ t. row_text (hashed part) ∷ answered w c part ++ t) (same-material v w c key both.1)

-- ---- direct hits

pub direct-hits-right : DirectHitsAreRight
direct-hits-right g v w l m well decided a b e f r s p q may i j k n first_is values_are list_is =
    let keys : key_of (g a) a e r p ≡ key_of (g b) b f s q = early-decides v w a b (key_of (g a) a e r p) (key_of (g b) b f s q) k.0 n.0 first_is in
    let rows : directs (g a) a p ≡ directs (g b) b q = rows-decide v w a b (directs (g a) a p) (directs (g b) b q) k.1 n.1 values_are in
    let facts : facts_in (told (g a) a e r p) ≡ facts_in (told (g b) b f s q) = sym (facts-of-key g a e r p) ∙ ap facts_in keys ∙ facts-of-key g b f s q in
    let one : AreOne g a b e f r s p q = facts-decide g a b e f r s p q facts in
    let back : b ≡ a = sym one.compiler_is in
    let key_back : key_of (g b) b f s q ≡ key_of (g a) a e r p = sym keys in
    let rows_back : directs (g b) b q ≡ directs (g a) a p = sym rows in
    let before : early v a (key_of (g a) a e r p) ≡ early w a (key_of (g a) a e r p) =
    first_is ∙ ap (λ c. early w c (key_of (g b) b f s q)) back ∙ ap (λ key. early w a key) key_back in
    let values : valued_rows v a (directs (g a) a p) ≡ valued_rows w a (directs (g a) a p) =
    values_are ∙ ap (λ c. valued_rows w c (directs (g b) b q)) back ∙ ap (λ ds. valued_rows w a ds) rows_back in
    let list : l a (key_of (g a) a e r p) (directs (g a) a p) ≡ m a (key_of (g a) a e r p) (directs (g a) a p) =
    list_is ∙ ap (λ c. m c (key_of (g b) b f s q) (directs (g b) b q)) back ∙ ap (λ key. m a key (directs (g b) b q)) key_back ∙ ap (λ ds. m a (key_of (g a) a e r p) ds) rows_back in
    let same : material v a (key_of (g a) a e r p) ≡ material w a (key_of (g a) a e r p) = same-material v w a (key_of (g a) a e r p) (decided a e r p may before values list) in
    let hashed_are : material v a (key_of (g a) a e r p) ≡ material w b (key_of (g b) b f s q) =
    same ∙ ap (λ key. material w a key) keys ∙ ap (λ c. material w c (key_of (g b) b f s q)) one.compiler_is in
    record {
      key_is = hashed_are;
      outcome_is = hits-right g v w well a b e f r s p q i j hashed_are;
    }
