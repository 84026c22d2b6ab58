-- A direct hit under a key as it is delivered is right: a first key decides the key, and with a list its answers and the macros that count.
use Rattle.std.proofs.Common.{◌≡◌, ℕ, ◌&&◌, not, Bool, true, false, cond, List, [], ◌∷◌, ◌++◌, codes, Option, None, refl, sym, ap, subst, ◌∙◌}
use Rattle.std.specs.Str.{bytes_eq}
use Rattle.scl_values.specs.Each.{Each}
use Rattle.scl_catalogue.specs.Lookup.{Lexicon}
use Rattle.scl_description.specs.Records.{first_field}
use Rattle.scl_description.specs.Rows.{IsRow, row_text}
use Rattle.scl_reader.specs.declared.compiler.Compiler.{Compiler}
use Rattle.scl_key.specs.declared.part.Ask.TheVariants as asks
use Rattle.scl_key.specs.Directs.{Direct, env, search, first, named, refuse_if_read, direct_fields}
use Rattle.scl_key.specs.Keys.{Key, whole_key}
use Rattle.scl_key.specs.Parts.{Part, asked, fields, hashed, is_asked}
use Rattle.scl_key.specs.Laws.{World, answered, answers, early, is_early, material, part_back, valued, valued_rows}
use Rattle.scl_key.proofs.HitLaws.{answered_by, front, head_text, is_none, one-row, tail_texts}
use Rattle.scl_key.proofs.KeyLaws.{facts_in, part-back}
use Rattle.scl_shared_key.specs.Verdicts.{Verdict}
use Rattle.scl_delivered.specs.Delivered.{Delivered, leaves_macros_out, with_macros}
use Rattle.scl_delivered.specs.Hits.{Line, with_added, key_of_line, counting, delivered_material, line_material, shown_texts, FirstKeysAreOne, DeliveredDirectHitsAreRight}
use Rattle.scl_delivered.proofs.HitLaws.{AreOneLine, delivered_hits_are_right, lines_decide, words_decide}

-- ---- parts

one_part : (x y : Part) → fields x ≡ fields y → x ≡ y
one_part x y h = sym (part-back x) ∙ ap part_back h ∙ part-back y

parts_decide : (v w : World) (a b : Compiler) (xs ys : List Part) → Each (λ part. IsRow (fields part)) xs → Each (λ part. IsRow (fields part)) ys → early v a xs ≡ early w b ys → xs ≡ ys
parts_decide v w a b [] [] i j h = refl
parts_decide v w a b [] (y ∷ ys) i j h = absurd (let no : true ≡ false = ap is_none h in cc)
parts_decide v w a b (x ∷ xs) [] i j h = absurd (let no : false ≡ true = ap is_none h in cc)
parts_decide v w a b (x ∷ xs) (y ∷ ys) i j h =
    let one : x ≡ y = one_part x y (one-row (fields x) (fields y) i.0 j.0 (ap head_text h)) in
    let rest : (answered_by (is_early x) (v.answer a x) ≡ answered_by (is_early y) (w.answer b y)) × (early v a xs ≡ early w b ys) =
    front (is_early x) (is_early y) (v.answer a x) (w.answer b y) (early v a xs) (early w b ys) (ap is_early one) (ap tail_texts h) in
    ap (λ part. part ∷ xs) one ∙ ap (λ parts. y ∷ parts) (parts_decide v w a b xs ys i.1 j.1 rest.1)

-- ---- rows of direct mode

-- the row that is read back
abbrev direct_named : List ℕ → List (List ℕ) → Direct
direct_named name rest =
    cond (bytes_eq name (codes "env")) (env (first_field rest))
    (cond (bytes_eq name (codes "search")) (search rest)
    (cond (bytes_eq name (codes "first")) (first (first_field rest))
    (cond (bytes_eq name (codes "named")) (named (first_field rest)) (refuse_if_read (first_field rest)))))

abbrev direct_back : List (List ℕ) → Direct
direct_back [] = search []
direct_back (name ∷ rest) = direct_named name rest

direct_is_back : (d : Direct) → direct_back (direct_fields d) ≡ d
direct_is_back (env name) = refl
direct_is_back (search words) = refl
direct_is_back (first header) = refl
direct_is_back (named pattern) = refl
direct_is_back (refuse_if_read pattern) = refl

-- whether it has a value
abbrev is_valued : Direct → Bool
is_valued (env name) = true
is_valued (search words) = false
is_valued (first header) = false
is_valued (named pattern) = false
is_valued (refuse_if_read pattern) = false

abbrev value_in : World → Compiler → Direct → List ℕ
value_in v c (env name) = v.answer c (asked asks.Env name)
value_in v c (search words) = []
value_in v c (first header) = []
value_in v c (named pattern) = []
value_in v c (refuse_if_read pattern) = []

value_is : (v : World) (c : Compiler) (d : Direct) → valued v c d ≡ answered_by (is_valued d) (value_in v c d)
value_is v c (env name) = refl
value_is v c (search words) = refl
value_is v c (first header) = refl
value_is v c (named pattern) = refl
value_is v c (refuse_if_read pattern) = refl

directs_decide : (v w : World) (a b : Compiler) (xs ys : List Direct) → Each (λ row. IsRow (direct_fields row)) xs → Each (λ row. IsRow (direct_fields row)) ys
    → valued_rows v a xs ≡ valued_rows w b ys → xs ≡ ys
directs_decide v w a b [] [] i j h = refl
directs_decide v w a b [] (y ∷ ys) i j h = absurd (let no : true ≡ false = ap is_none h in cc)
directs_decide v w a b (x ∷ xs) [] i j h = absurd (let no : false ≡ true = ap is_none h in cc)
directs_decide v w a b (x ∷ xs) (y ∷ ys) i j h =
    let one : x ≡ y = sym (direct_is_back x) ∙ ap direct_back (one-row (direct_fields x) (direct_fields y) i.0 j.0 (ap head_text h)) ∙ direct_is_back y in
    let texts : answered_by (is_valued x) (value_in v a x) ++ valued_rows v a xs ≡ answered_by (is_valued y) (value_in w b y) ++ valued_rows w b ys =
    ap (λ t. t ++ valued_rows v a xs) (sym (value_is v a x)) ∙ ap tail_texts h ∙ ap (λ t. t ++ valued_rows w b ys) (value_is w b y) in
    let rest : (answered_by (is_valued x) (value_in v a x) ≡ answered_by (is_valued y) (value_in w b y)) × (valued_rows v a xs ≡ valued_rows w b ys) =
    front (is_valued x) (is_valued y) (value_in v a x) (value_in w b y) (valued_rows v a xs) (valued_rows w b ys) (ap is_valued one) texts in
    ap (λ row. row ∷ xs) one ∙ ap (λ rows. y ∷ rows) (directs_decide v w a b xs ys i.1 j.1 rest.1)

-- ---- answers decide what is hashed

same_material : (v w : World) (c : Compiler) (parts : List Part) → answers v c parts ≡ answers w c parts → material v c parts ≡ material w c parts
same_material v w c [] h = refl
same_material v w c (part ∷ parts) h =
    let both : (answered v c part ≡ answered w c part) × (answers v c parts ≡ answers w c parts) =
    front (is_asked part) (is_asked part) (v.answer c part) (w.answer c part) (answers v c parts) (answers w c parts) refl h in
    ap (λ t. row_text (hashed part) ∷ t ++ material v c parts) both.0 ∙ ap (λ t. row_text (hashed part) ∷ answered w c part ++ t) (same_material v w c parts both.1)

-- ---- one key

nothing_said : (last : Bool) (key : Key) → (with_macros last key).verdict ≡ None
nothing_said true key = refl
nothing_said false key = refl

pub without_verdict : (lexicon : Compiler → Lexicon) (l : Line) → (key_of_line lexicon l).verdict ≡ None
without_verdict lexicon l =
    let key : Key = with_added l.added (whole_key (lexicon l.compiler) l.compiler l.environment l.run_words l.parsed) in
    nothing_said (not l.keeps_macros && leaves_macros_out (lexicon l.compiler) l.compiler l.parsed key) key

made : Option Verdict → List Part → List Direct → List (List ℕ) → Delivered
made said parts direct shown = record { verdict = said; parts = parts; direct = direct; shown = shown }

one_key : (d g : Delivered) → d.verdict ≡ g.verdict → d.parts ≡ g.parts → d.direct ≡ g.direct → d.shown ≡ g.shown → d ≡ g
unfolding made
one_key d g said parts direct shown =
    ap (λ s. made s d.parts d.direct d.shown) said
    ∙ ap (λ p. made g.verdict p d.direct d.shown) parts
    ∙ ap (λ r. made g.verdict g.parts r d.shown) direct
    ∙ ap (made g.verdict g.parts g.direct) shown

-- ---- direct hits

pub delivered_direct_hits_are_right : DeliveredDirectHitsAreRight
delivered_direct_hits_are_right = λ lexicon v w i j is_meant well decided l m may x y k n firsts.
    let a : Compiler = l.compiler in
    let b : Compiler = m.compiler in
    let d : Delivered = key_of_line lexicon l in
    let g : Delivered = key_of_line lexicon m in
    let keys : d ≡ g =
    one_key d g (without_verdict lexicon l ∙ sym (without_verdict lexicon m))
    (parts_decide v.world w.world a b d.parts g.parts k.0.0 n.0.0 firsts.early_are)
    (directs_decide v.world w.world a b d.direct g.direct k.0.1 n.0.1 firsts.values_are)
    (words_decide d.shown g.shown k.1 n.1 firsts.shown_are) in
    let one : AreOneLine lexicon l m = lines_decide lexicon l m x.adds_no_fact y.adds_no_fact (ap (λ (key : Delivered). facts_in key.parts) keys) in
    let here : FirstKeysAreOne v w i j a a d d =
    subst (λ (c : Compiler). FirstKeysAreOne v w i j a c d d) (sym one.compiler_is) (subst (λ (key : Delivered). FirstKeysAreOne v w i j a b d key) (sym keys) firsts) in
    let both : (answers v.world a d.parts ≡ answers w.world a d.parts) × (counting v a d ≡ counting w a d) = decided l x.meant may here in
    let key_is : line_material lexicon v l ≡ line_material lexicon w m =
    ap (λ texts. texts ++ shown_texts (counting v a d)) (same_material v.world w.world a d.parts both.0)
    ∙ ap (λ macros. material w.world a d.parts ++ shown_texts macros) both.1
    ∙ ap (λ (c : Compiler). delivered_material w c d) one.compiler_is
    ∙ ap (λ (key : Delivered). delivered_material w b key) keys in
    record { key_is = key_is; outcome_is = delivered_hits_are_right lexicon v w is_meant well l m x y key_is }
