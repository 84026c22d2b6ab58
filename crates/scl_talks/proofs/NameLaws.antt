-- Texts of releases.
use Rattle.std.proofs.Common.{◌≡◌, ℕ, List, [], ◌∷◌, ap}
use Rattle.scl_lookup.proofs.KeyLaws.{texts_decide_answers}
use Rattle.scl_lookup.specs.Keys.{Row, said}
use Rattle.scl_talks.specs.Names.{TextsAreOfOneRelease, answering}

abbrev said_in : Row → List ℕ
said_in (said text ∷ fields) = text
said_in other = []

abbrev behind : Row → Row
behind [] = []
behind (field ∷ fields) = fields

abbrev first_row : List Row → Row
first_row [] = []
first_row (row ∷ rows) = row

abbrev rows_behind : List Row → List Row
rows_behind [] = []
rows_behind (row ∷ rows) = rows

pub texts_are_of_one_release : TextsAreOfOneRelease
texts_are_of_one_release release rules other others a b h k e =
    let one : answering release rules ∷ a ≡ answering other others ∷ b = texts_decide_answers (answering release rules ∷ a) (answering other others ∷ b) h k e in
    (ap (λ rows. said_in (behind (first_row rows))) one, ap (λ rows. said_in (behind (behind (first_row rows)))) one, ap rows_behind one)
