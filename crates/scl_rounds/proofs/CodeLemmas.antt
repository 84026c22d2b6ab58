-- Lists of questions and of rows, one by one.
use Rattle.std.proofs.Common.{◌≡◌, ◌≤◌, ℕ, zero, suc, drop, Bool, true, false, cond, List, [], ◌∷◌, ◌++◌, length, map, Option, None, Some, Vec, refl, sym, ap, append_assoc, ◌∙◌, arith}
use Rattle.std.specs.declared.alloc.Global.{Global}
use Rattle.std.specs.Option.{option_map, option_zip}
use Rattle.std.proofs.lemmas.List.{append-nil}
use Rattle.std.specs.List.{flat_map}
use Rattle.scl_values.specs.Words.{words_of}
use Rattle.scl_key.specs.Parts.{Part}
use Rattle.scl_lookup.specs.Keys.{Row, all_there}
use Rattle.scl_lookup.specs.Questions.{Question, Machine}
use Rattle.scl_questions.specs.Rounds.{joined, was_asked, with_one}
use Rattle.scl_questions.specs.Views.{question_of, questions_of, row_of, rows_of}
use Rattle.scl_questions.specs.declared.question.Question as declared_question
use Rattle.scl_questions.specs.declared.row.Field as declared_field
use Rattle.scl_rounds.specs.Answers.{row_on}
use Rattle.scl_rounds.specs.Keys.{Key}

-- ---- questions

pub one_more : (before : List Question) (questions : List declared_question.Question) (question : declared_question.Question)
    → joined before (questions_of (questions ++ question ∷ [])) ≡ with_one (joined before (questions_of questions)) (question_of question)
one_more before [] question = refl
one_more before (first ∷ questions) question = one_more (with_one before (question_of first)) questions question

longer : (xs : List Question) (x : Question) → length xs ≤ length (xs ++ x ∷ [])
longer [] x = omega arith
longer (y ∷ xs) x = let it : length xs ≤ length (xs ++ x ∷ []) = longer xs x in omega (arith, it)

not_shorter_by : (b : Bool) (xs : List Question) (x : Question) → length xs ≤ length (cond b xs (xs ++ x ∷ []))
not_shorter_by true xs x = omega arith
not_shorter_by false xs x = longer xs x

joined_grows : (before questions : List Question) → length before ≤ length (joined before questions)
joined_grows before [] = omega arith
joined_grows before (question ∷ questions) =
    let one : length before ≤ length (with_one before question) = not_shorter_by (was_asked question before) before question in
    let rest : length (with_one before question) ≤ length (joined (with_one before question) questions) = joined_grows (with_one before question) questions in
    omega (arith, one, rest)

pub as_many : (questions : List declared_question.Question) → length (questions_of questions) ≡ length questions
as_many [] = refl
as_many (question ∷ questions) = ap suc (as_many questions)

pub dropped : (n : ℕ) (questions : List declared_question.Question) → questions_of (drop n questions) ≡ drop n (questions_of questions)
dropped zero questions = refl
dropped (suc n) [] = refl
dropped (suc n) (question ∷ questions) = dropped n questions

pub asked_grows : (before asked : List declared_question.Question) (questions : List Question) → questions_of asked ≡ joined (questions_of before) questions → length before ≤ length asked
asked_grows before asked questions e =
    let grows : length (questions_of before) ≤ length (joined (questions_of before) questions) = joined_grows (questions_of before) questions in
    let one : length (questions_of before) ≡ length before = as_many before in
    let other : length (questions_of asked) ≡ length asked = as_many asked in
    let same : length (questions_of asked) ≡ length (joined (questions_of before) questions) = ap length e in
    omega (arith, grows, one, other, same)

-- ---- rows

row_behind : (rows : List (Vec declared_field.Field Global)) (row : Vec declared_field.Field Global) (rest : List Row) → rows_of (rows ++ row ∷ []) ++ rest ≡ rows_of rows ++ (row_of row.items ∷ rest)
row_behind [] row rest = refl
row_behind (first ∷ rows) row rest = ap (λ rest. row_of first.items ∷ rest) (row_behind rows row rest)

rows_behind : (rows : List (Vec declared_field.Field Global)) (row : Vec declared_field.Field Global) (o : Option (List Row))
    → option_map (λ rest. rows_of (rows ++ row ∷ []) ++ rest) o ≡ option_map (λ rest. rows_of rows ++ rest) (option_map (λ values. values.0 ∷ values.1) (option_zip (Some (row_of row.items)) o))
rows_behind rows row None = refl
rows_behind rows row (Some rest) = ap Some (row_behind rows row rest)

-- the row of a part is there
pub row_there : (key : Key) (m : Machine) (rows : List (Vec declared_field.Field Global)) (row : Vec declared_field.Field Global) (part : Part) (parts : List Part) → Some (row_of row.items) ≡ row_on key m part
    → option_map (λ rest. rows_of (rows ++ row ∷ []) ++ rest) (all_there (map (row_on key m) parts)) ≡ option_map (λ rest. rows_of rows ++ rest) (all_there (map (row_on key m) (part ∷ parts)))
row_there key m rows row part parts there =
    rows_behind rows row (all_there (map (row_on key m) parts))
    ∙ ap (λ it. option_map (λ rest. rows_of rows ++ rest) (option_map (λ values. values.0 ∷ values.1) (option_zip it (all_there (map (row_on key m) parts))))) there

-- ---- words

pub flat_more : (f : List ℕ → List (List ℕ)) (words : List (Vec ℕ Global)) (word : Vec ℕ Global) → flat_map f (words_of (words ++ word ∷ [])) ≡ flat_map f (words_of words) ++ f word.items
flat_more f [] word = append-nil (f word.items)
flat_more f (first ∷ words) word = ap (λ them. f first.items ++ them) (flat_more f words word) ∙ sym (append_assoc (f first.items) (flat_map f (words_of words)) (f word.items))
