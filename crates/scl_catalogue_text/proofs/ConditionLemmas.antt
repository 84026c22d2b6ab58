-- Conditions, read again.
use Rattle.std.proofs.Common.{◌≡◌, ◌∙◌, ℕ, ◌==◌, Bool, true, false, not, ◌||◌, cond, List, [], ◌∷◌, ◌++◌, map, codes, Option, None, Some, Ok, refl, sym, ap, arith}
use Rattle.std.proofs.lemmas.List.{append-nil}
use Rattle.std.specs.Char.{is_ascii_control}
use Rattle.std.specs.List.{list_all, list_any}
use Rattle.std.specs.Str.{bytes_eq}
use Rattle.scl_catalogue.specs.Form.{Group, Relation, Any, Two, Before, Unfollowed, Last, Question, Is, At, Given, Inner, Condition}
use Rattle.scl_catalogue.specs.declared.condition.Fact.{Fact}
use Rattle.scl_catalogue.specs.declared.condition.Fact.TheVariants as fact
use Rattle.scl_catalogue.specs.declared.condition.Place.{Place}
use Rattle.scl_catalogue.specs.declared.condition.Place.TheVariants as place
use Rattle.scl_catalogue_text.specs.Cutting.{first_word, other_words, parts}
use Rattle.scl_catalogue_text.specs.Names.{fact_name, fact_named, place_name, place_named}
use Rattle.scl_catalogue_text.specs.Outcome.{each}
use Rattle.scl_catalogue_text.specs.Reading.{condition_by, condition_read, conditions_read, is_relation, of_one, of_two, question_by, relation_of_one, relation_of_parts, relation_of_two, relation_read}
use Rattle.scl_catalogue_text.specs.Writable.{AreConditions, CanBeAsked, IsQuestion, IsRelation, has_one}
use Rattle.scl_catalogue_text.specs.Written.{condition_text, group_text, joined, question_text, relation_text, text_text, two_texts}
use Rattle.scl_catalogue_text.proofs.GroupLemmas.{group-begins, group-behind, group-lacks, group-written, HasNoControl, joined-bytes, lacks-all, other-than-control}
use Rattle.scl_catalogue_text.proofs.SplitLemmas.{IsBehindWord, behind-blank, behind-none, first-word, is_unbroken, other-words, parts-joined, parts-next, parts-one}
use Rattle.scl_catalogue_text.proofs.TestLemmas.{all-append, all-weaker, both, lacks-passed, lacks_mark}
use Rattle.scl_catalogue_text.proofs.TextLemmas.{begins-text, behind-text, is_of_text, of-text, text-written}

-- ---- which bytes are not in it

abbrev pub is_of_group : ℕ → Bool
is_of_group b = not (list_any (λ m. b == m) (59 ∷ 62 ∷ []) || is_ascii_control b)

abbrev pub is_of_condition : ℕ → Bool
is_of_condition b = not (list_any (λ m. b == m) (59 ∷ []) || is_ascii_control b)

abbrev pub is_of_line : ℕ → Bool
is_of_line b = not (is_ascii_control b)

pub group-of-condition : (gs : List Group) (g : Group) → CanBeAsked gs g → list_all is_of_condition (group_text g) ≡ true
group-of-condition gs g h = lacks-all is_of_group (59 ∷ []) (group_text g) (other-than-control (59 ∷ 62 ∷ [])) refl (group-lacks gs g h)

pub group-lacks-mark : (gs : List Group) (g : Group) → CanBeAsked gs g → lacks_mark 62 (group_text g) ≡ true
group-lacks-mark gs g h = lacks-passed is_of_group 62 refl (group_text g) (group-lacks gs g h)

two-bytes : (gs : List Group) (g h : Group) → CanBeAsked gs g → CanBeAsked gs h → list_all is_of_condition (two_texts g h) ≡ true
two-bytes gs g h k l = all-append is_of_condition (group_text g) (62 ∷ group_text h) (group-of-condition gs g k) (group-of-condition gs h l)

relation-bytes : (gs : List Group) (r : Relation) → IsRelation gs r → list_all is_of_condition (relation_text r) ≡ true
relation-bytes gs (Any g) h = group-of-condition gs g h
relation-bytes gs (Two g) h = group-of-condition gs g h
relation-bytes gs (Before g k) h = two-bytes gs g k h.0 h.1
relation-bytes gs (Unfollowed g k) h = two-bytes gs g k h.0 h.1
relation-bytes gs (Last g k) h = two-bytes gs g k h.0 h.1

-- ---- relations

-- the words by which a line names a relation, a fact or a place
abbrev pub relation_name : Relation → List ℕ
relation_name (Any g) = codes "any"
relation_name (Two g) = codes "two"
relation_name (Before g h) = codes "before"
relation_name (Unfollowed g h) = codes "unfollowed"
relation_name (Last g h) = codes "last"

abbrev pub relation_rest : Relation → List ℕ
relation_rest (Any g) = group_text g
relation_rest (Two g) = group_text g
relation_rest (Before g h) = two_texts g h
relation_rest (Unfollowed g h) = two_texts g h
relation_rest (Last g h) = two_texts g h

one-cut : (gs : List Group) (g : Group) → CanBeAsked gs g → parts 62 (group_text g) ≡ group_text g ∷ []
one-cut gs g h = parts-one 62 (group_text g) (group-lacks-mark gs g h)

two-cut : (gs : List Group) (g h : Group) → CanBeAsked gs g → CanBeAsked gs h → parts 62 (two_texts g h) ≡ group_text g ∷ group_text h ∷ []
two-cut gs g h k l = parts-next 62 (group_text g) (group_text h) (group-lacks-mark gs g k) ∙ ap (λ ps. group_text g ∷ ps) (one-cut gs h l)

relation-written : (gs : List Group) (r : Relation) → IsRelation gs r → relation_read gs (relation_name r) (relation_rest r) ≡ Ok r
unfolding relation_read is_relation relation_of_parts relation_of_one relation_of_two of_one of_two
relation-written gs (Any g) h = rw (one-cut gs g h, group-written gs g h) refl
relation-written gs (Two g) h = rw (one-cut gs g h, group-written gs g h) refl
relation-written gs (Before g k) h = rw (two-cut gs g k h.0 h.1, group-written gs g h.0, group-written gs k h.1) refl
relation-written gs (Unfollowed g k) h = rw (two-cut gs g k h.0 h.1, group-written gs g h.0, group-written gs k h.1) refl
relation-written gs (Last g k) h = rw (two-cut gs g k h.0 h.1, group-written gs g h.0, group-written gs k h.1) refl

-- what begins with a blank
blank-behind : (xs ys zs : List ℕ) → xs ≡ 32 ∷ ys → IsBehindWord (xs ++ zs)
blank-behind xs ys zs e = rw e (behind-blank (ys ++ zs))

two-behind : (gs : List Group) (g h : Group) → CanBeAsked gs g → IsBehindWord (two_texts g h)
two-behind gs g h k = let b = group-begins gs g k in blank-behind (group_text g) b.rest (62 ∷ group_text h) b.is

relation-behind : (gs : List Group) (r : Relation) → IsRelation gs r → IsBehindWord (relation_rest r)
relation-behind gs (Any g) h = group-behind gs g h
relation-behind gs (Two g) h = group-behind gs g h
relation-behind gs (Before g k) h = two-behind gs g k h.0
relation-behind gs (Unfollowed g k) h = two-behind gs g k h.0
relation-behind gs (Last g k) h = two-behind gs g k h.0

-- ---- questions

abbrev pub question_name : Question → List ℕ
question_name (Is f) = fact_name f
question_name (At p text) = place_name p
question_name (Given r) = relation_name r
question_name (Inner r) = codes "inner"

abbrev pub question_rest : Question → List ℕ
question_rest (Is f) = []
question_rest (At p text) = text_text text
question_rest (Given r) = relation_rest r
question_rest (Inner r) = relation_text r

relation-parts : (r : Relation) → relation_text r ≡ 32 ∷ (relation_name r ++ relation_rest r)
relation-parts (Any g) = refl
relation-parts (Two g) = refl
relation-parts (Before g h) = refl
relation-parts (Unfollowed g h) = refl
relation-parts (Last g h) = refl

question-parts : (q : Question) → question_text q ≡ 32 ∷ (question_name q ++ question_rest q)
question-parts (Is f) = ap (λ xs. 32 ∷ xs) (sym (append-nil (fact_name f)))
question-parts (At p text) = refl
question-parts (Given r) = relation-parts r
question-parts (Inner r) = refl

-- names that are words, and neither `not` nor of another kind
record IsNameOf (word : List ℕ) (f : Option Fact) (p : Option Place) : Type 0 where
  is_fact : fact_named word ≡ f
  is_place : place_named word ≡ p
  no_not : bytes_eq word (codes "not") ≡ false
  unbroken : is_unbroken word ≡ true
  bytes : list_all is_of_condition word ≡ true

fact-name : (f : Fact) → IsNameOf (fact_name f) (Some f) None
fact-name fact.Plusplus = record { is_fact = refl; is_place = refl; no_not = refl; unbroken = refl; bytes = refl }
fact-name fact.Apple = record { is_fact = refl; is_place = refl; no_not = refl; unbroken = refl; bytes = refl }
fact-name fact.Preprocessed = record { is_fact = refl; is_place = refl; no_not = refl; unbroken = refl; bytes = refl }
fact-name fact.OtherLanguage = record { is_fact = refl; is_place = refl; no_not = refl; unbroken = refl; bytes = refl }
fact-name fact.SplitOtherwise = record { is_fact = refl; is_place = refl; no_not = refl; unbroken = refl; bytes = refl }
fact-name fact.EnvironmentSplitOtherwise = record { is_fact = refl; is_place = refl; no_not = refl; unbroken = refl; bytes = refl }
fact-name fact.HiddenInput = record { is_fact = refl; is_place = refl; no_not = refl; unbroken = refl; bytes = refl }
fact-name fact.HiddenObject = record { is_fact = refl; is_place = refl; no_not = refl; unbroken = refl; bytes = refl }
fact-name fact.OtherTarget = record { is_fact = refl; is_place = refl; no_not = refl; unbroken = refl; bytes = refl }
fact-name fact.RenamedObject = record { is_fact = refl; is_place = refl; no_not = refl; unbroken = refl; bytes = refl }
fact-name fact.PrecompiledHeader = record { is_fact = refl; is_place = refl; no_not = refl; unbroken = refl; bytes = refl }

place-name : (p : Place) → IsNameOf (place_name p) None (Some p)
place-name place.Word = record { is_fact = refl; is_place = refl; no_not = refl; unbroken = refl; bytes = refl }
place-name place.File = record { is_fact = refl; is_place = refl; no_not = refl; unbroken = refl; bytes = refl }
place-name place.Environment = record { is_fact = refl; is_place = refl; no_not = refl; unbroken = refl; bytes = refl }
place-name place.Language = record { is_fact = refl; is_place = refl; no_not = refl; unbroken = refl; bytes = refl }
place-name place.Input = record { is_fact = refl; is_place = refl; no_not = refl; unbroken = refl; bytes = refl }
place-name place.Extension = record { is_fact = refl; is_place = refl; no_not = refl; unbroken = refl; bytes = refl }
place-name place.Object = record { is_fact = refl; is_place = refl; no_not = refl; unbroken = refl; bytes = refl }

record IsRelationName (word : List ℕ) : Type 0 where
  name : IsNameOf word None None
  no_inner : bytes_eq word (codes "inner") ≡ false

relation-name : (r : Relation) → IsRelationName (relation_name r)
relation-name (Any g) = record { name = record { is_fact = refl; is_place = refl; no_not = refl; unbroken = refl; bytes = refl }; no_inner = refl }
relation-name (Two g) = record { name = record { is_fact = refl; is_place = refl; no_not = refl; unbroken = refl; bytes = refl }; no_inner = refl }
relation-name (Before g h) = record { name = record { is_fact = refl; is_place = refl; no_not = refl; unbroken = refl; bytes = refl }; no_inner = refl }
relation-name (Unfollowed g h) = record { name = record { is_fact = refl; is_place = refl; no_not = refl; unbroken = refl; bytes = refl }; no_inner = refl }
relation-name (Last g h) = record { name = record { is_fact = refl; is_place = refl; no_not = refl; unbroken = refl; bytes = refl }; no_inner = refl }

-- the word and what follows it, of bytes that begin so
record IsCut (bs word rest : List ℕ) : Type 0 where
  first : first_word bs ≡ word
  others : other_words bs ≡ rest

cut-word : (word rest : List ℕ) → is_unbroken word ≡ true → IsBehindWord rest → IsCut (32 ∷ (word ++ rest)) word rest
unfolding first_word other_words
cut-word word rest h k = record { first = first-word word rest h k; others = other-words word rest h k }

inner-cut : (gs : List Group) (r : Relation) → IsRelation gs r → IsCut (relation_text r) (relation_name r) (relation_rest r)
inner-cut gs r h = rw (relation-parts r) (cut-word (relation_name r) (relation_rest r) (relation-name r).name.unbroken (relation-behind gs r h))

question-written : (gs : List Group) (q : Question) → IsQuestion gs q → question_by gs (question_name q) (question_rest q) ≡ Ok q
unfolding question_by first_word
question-written gs (Is f) h = let n = fact-name f in rw n.is_fact refl
question-written gs (At p text) h = let n = place-name p in rw (n.is_fact, n.is_place, text-written text h) refl
question-written gs (Given r) h = let n = relation-name r in rw (n.name.is_fact, n.name.is_place, n.no_inner, relation-written gs r h) refl
question-written gs (Inner r) h = let c = inner-cut gs r h in rw (c.first, c.others, relation-written gs r h) refl

question-cut : (gs : List Group) (q : Question) → IsQuestion gs q → IsCut (question_text q) (question_name q) (question_rest q)
question-cut gs (Is f) h = rw (question-parts (Is f)) (cut-word (fact_name f) [] (fact-name f).unbroken behind-none)
question-cut gs (At p text) h = cut-word (place_name p) (text_text text) (place-name p).unbroken (behind-text (text_text text) (begins-text text h))
question-cut gs (Given r) h = inner-cut gs r h
question-cut gs (Inner r) h = cut-word (105 ∷ 110 ∷ 110 ∷ 101 ∷ 114 ∷ []) (relation_text r) refl (rw (relation-parts r) (behind-blank (relation_name r ++ relation_rest r)))

no-not : (q : Question) → bytes_eq (question_name q) (codes "not") ≡ false
no-not (Is f) = (fact-name f).no_not
no-not (At p text) = (place-name p).no_not
no-not (Given r) = (relation-name r).name.no_not
no-not (Inner r) = refl

-- ---- conditions

denied-written : (gs : List Group) (d : Bool) (q : Question) → IsQuestion gs q → condition_read gs (condition_text (record { is_denied = d; question = q })) ≡ Ok (record { is_denied = d; question = q })
unfolding condition_read condition_by
denied-written gs true q h =
    let c = question-cut gs q h in
    let n : IsCut (32 ∷ ((110 ∷ 111 ∷ 116 ∷ []) ++ question_text q)) (110 ∷ 111 ∷ 116 ∷ []) (question_text q) = cut-word (110 ∷ 111 ∷ 116 ∷ []) (question_text q) refl (rw (question-parts q) (behind-blank (question_name q ++ question_rest q))) in
    rw (n.first, n.others, c.first, c.others, question-written gs q h) refl
denied-written gs false q h = let c = question-cut gs q h in rw (c.first, c.others, no-not q, question-written gs q h) refl

pub condition-written : (gs : List Group) (c : Condition) → IsQuestion gs c.question → condition_read gs (condition_text c) ≡ Ok c
condition-written gs c h = denied-written gs c.is_denied c.question h

text-control : HasNoControl is_of_text
text-control b h = grind arith

question-bytes : (gs : List Group) (q : Question) → IsQuestion gs q → list_all is_of_condition (question_text q) ≡ true
question-bytes gs (Is f) h = (fact-name f).bytes
question-bytes gs (At p text) h = all-append is_of_condition (place_name p) (text_text text) (place-name p).bytes (lacks-all is_of_text (59 ∷ []) (text_text text) text-control refl (of-text text h))
question-bytes gs (Given r) h = relation-bytes gs r h
question-bytes gs (Inner r) h = relation-bytes gs r h

denied-bytes : (d : Bool) (xs : List ℕ) → list_all is_of_condition xs ≡ true → list_all is_of_condition (cond d (codes " not") [] ++ xs) ≡ true
denied-bytes true xs h = h
denied-bytes false xs h = h

condition-bytes : (gs : List Group) (c : Condition) → IsQuestion gs c.question → list_all is_of_condition (condition_text c) ≡ true
condition-bytes gs c h = denied-bytes c.is_denied (question_text c.question) (question-bytes gs c.question h)

each-condition : (gs : List Group) (cs : List Condition) → AreConditions gs cs → each (condition_read gs) (map condition_text cs) ≡ Ok cs
each-condition gs [] h = refl
each-condition gs (c ∷ cs) h = rw (condition-written gs c h.0, each-condition gs cs h.1) refl

all-bytes : (gs : List Group) (cs : List Condition) → AreConditions gs cs → list_all (list_all is_of_condition) (map condition_text cs) ≡ true
all-bytes gs [] h = refl
all-bytes gs (c ∷ cs) h = both (condition-bytes gs c h.0) (all-bytes gs cs h.1)

conditions-cut : (gs : List Group) (cs : List Condition) → has_one cs ≡ true → AreConditions gs cs → parts 59 (joined 59 (map condition_text cs)) ≡ map condition_text cs
conditions-cut gs [] o h = let no : false ≡ true = o in cc
conditions-cut gs (c ∷ cs) o h = parts-joined 59 (condition_text c) (map condition_text cs) (all-weaker (list_all is_of_condition) (lacks_mark 59) (λ bs k. lacks-passed is_of_condition 59 refl bs k) (map condition_text (c ∷ cs)) (all-bytes gs (c ∷ cs) h))

pub conditions-written : (gs : List Group) (cs : List Condition) → has_one cs ≡ true → AreConditions gs cs → conditions_read gs (joined 59 (map condition_text cs)) ≡ Ok cs
unfolding conditions_read
conditions-written gs cs o h = rw (conditions-cut gs cs o h) (each-condition gs cs h)

line-of-condition : (bs : List ℕ) → list_all is_of_condition bs ≡ true → list_all is_of_line bs ≡ true
line-of-condition bs h = lacks-all is_of_condition [] bs (other-than-control (59 ∷ [])) refl h

pub conditions-bytes : (gs : List Group) (cs : List Condition) → AreConditions gs cs → list_all is_of_line (joined 59 (map condition_text cs)) ≡ true
conditions-bytes gs cs h = joined-bytes is_of_line 59 refl (map condition_text cs) (all-weaker (list_all is_of_condition) (list_all is_of_line) line-of-condition (map condition_text cs) (all-bytes gs cs h))
