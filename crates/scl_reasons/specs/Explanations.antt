-- The sentence that explains a reason.
use Rattle.std.specs.Prelude.{ℕ, Bool, true, not, ◌&&◌, List, [], ◌∷◌, Option, find, map}
use Rattle.std.specs.Borrow.{Bor}
use Rattle.std.specs.List.{list_any}
use Rattle.std.specs.Option.{option_map}
use Rattle.std.specs.Str.{bytes_eq}

-- a sentence, and the reasons that it explains
pub record Explained : Type 0 where
  pub text : List ℕ
  pub reasons : List (List ℕ)

abbrev pub explained_by : List ℕ → List (List ℕ) → Explained
explained_by text reasons = record { text = text; reasons = reasons }

-- whether the reason is one of its own
abbrev pub explains : List ℕ → Explained → Bool
explains reason e = list_any (λ name. bytes_eq name reason) e.reasons

-- the text of the first that explains the reason
abbrev pub text_for : List ℕ → List Explained → Option (List ℕ)
text_for reason all = option_map (λ e. e.text) (find (explains reason) all)

-- whether each of the texts stands once
abbrev pub stand_once : List (List ℕ) → Bool
stand_once [] = true
stand_once (text ∷ texts) = not (list_any (λ other. bytes_eq other text) texts) && stand_once texts

-- ---- the code's explanations

abbrev pub Explanation : Type 0
Explanation = Bor (List ℕ) × Bor (List (Bor (List ℕ)))

-- the code's explanation, as the definitions have it
abbrev pub explained : Explanation → Explained
explained row = explained_by row.0.now (map (λ reason. reason.now) row.1.now)

-- whether the reason is one of these
abbrev pub is_one_of : List (Bor (List ℕ)) → List ℕ → Bool
is_one_of reasons reason = list_any (λ name. bytes_eq name.now reason) reasons

-- the text of the first that explains the reason
abbrev pub text_given : List ℕ → List Explanation → Option (List ℕ)
text_given reason rows = option_map (λ row. row.0.now) (find (λ row. is_one_of row.1.now reason) rows)
