-- The members of names, one after another.
use Rattle.std.proofs.Common.{◌≡◌, ◌<◌, ◌+◌, ℕ, List, [], ◌∷◌, ◌++◌, Vec, length, map, take, get_or, refl, ap, sym, ◌∙◌, append_assoc, append-nil}
use Rattle.std.proofs.lemmas.List.{map_more}
use Rattle.std.proofs.lemmas.Grind.{flat_map-append}
use Rattle.std.specs.List.{flat_map}
use Rattle.std.specs.declared.alloc.Global.{Global}
use Rattle.scl_values.specs.Words.{words_of}
use Rattle.scl_description.specs.Rows.{Entry}
use Rattle.scl_json.specs.Texts.{behind_comma, joined}

map-end : {X Y : Type 0} (f : X → Y) (xs : List X) (x : X) → map f (xs ++ x ∷ []) ≡ map f xs ++ f x ∷ []
map-end f [] x = refl
map-end f (y ∷ xs) x = ap (λ ys. f y ∷ ys) (map-end f xs x)

flat-end : (f : List ℕ → List ℕ) (xs : List (List ℕ)) (x : List ℕ) → flat_map f (xs ++ x ∷ []) ≡ flat_map f xs ++ f x
flat-end f xs x = flat_map-append f xs (x ∷ []) ∙ ap (λ ys. flat_map f xs ++ ys) (append-nil (f x))

-- one more, after a comma
pub behind-more : (f : List ℕ → Entry) (g : Entry → List ℕ) (all : List (Vec ℕ Global)) (start done comma more : List ℕ) (i : ℕ) (word : Vec ℕ Global) (bytes : List ℕ) → i < length all
    → word ≡ get_or all i word → bytes ≡ word.items → comma ≡ done ++ 44 ∷ [] → more ≡ comma ++ g (f bytes)
    → done ≡ start ++ flat_map behind_comma (map g (map f (words_of (take i all)))) → more ≡ start ++ flat_map behind_comma (map g (map f (words_of (take (i + 1) all))))
behind-more f g all start done comma more i word bytes inside is named c m h =
    let before : List (List ℕ) = words_of (take i all) in
    let one : List ℕ = g (f word.items) in
    let written : List ℕ = flat_map behind_comma (map g (map f before)) in
    let taken : words_of (take (i + 1) all) ≡ before ++ word.items ∷ [] =
    map_more (λ (it : Vec ℕ Global). it.items) all i word inside ∙ ap (λ (it : Vec ℕ Global). before ++ it.items ∷ []) (sym is) in
    let mapped : map g (map f (before ++ word.items ∷ [])) ≡ map g (map f before) ++ one ∷ [] = ap (map g) (map-end f before word.items) ∙ map-end g (map f before) (f word.items) in
    let all_of : flat_map behind_comma (map g (map f (words_of (take (i + 1) all)))) ≡ written ++ behind_comma one =
    ap (λ ws. flat_map behind_comma (map g (map f ws))) taken ∙ ap (λ ms. flat_map behind_comma ms) mapped ∙ flat-end behind_comma (map g (map f before)) one in
    m ∙ ap (λ b. comma ++ g (f b)) named ∙ ap (λ bs. bs ++ one) c ∙ append_assoc done (44 ∷ []) one ∙ ap (λ bs. bs ++ (44 ∷ one)) h ∙ append_assoc start written (44 ∷ one)
    ∙ ap (λ bs. start ++ bs) (sym all_of)

-- the first, and the others after it
pub first-joined : (f : List ℕ → Entry) (g : Entry → List ℕ) (all : List (Vec ℕ Global)) (start one more : List ℕ) (first : Vec ℕ Global) (others : List (Vec ℕ Global)) (bytes : List ℕ)
    → all ≡ first ∷ others → bytes ≡ first.items → one ≡ start ++ g (f bytes) → more ≡ one ++ flat_map behind_comma (map g (map f (words_of others)))
    → more ≡ start ++ joined (map g (map f (words_of all)))
first-joined f g all start one more first others bytes is named o m =
    let rest : List ℕ = flat_map behind_comma (map g (map f (words_of others))) in
    m ∙ ap (λ bs. bs ++ rest) o ∙ append_assoc start (g (f bytes)) rest ∙ ap (λ b. start ++ (g (f b) ++ rest)) named
    ∙ ap (λ ws. start ++ joined (map g (map f (words_of ws)))) (sym is)
