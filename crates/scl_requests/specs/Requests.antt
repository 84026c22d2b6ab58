-- What may be answered to the bytes of a request, whose first line says its kind.
use Rattle.std.specs.Prelude.{◌≡◌, ℕ, Bool, true, false, List, [], ◌∷◌, codes, drop, Result, if◌then◌else◌}
use Rattle.std.specs.Str.{bytes_eq}
use Rattle.scl_catalogue.specs.Form.{Catalogue}
use Rattle.scl_description.specs.Lines.{lines_of}
use Rattle.scl_describe.specs.Descriptions.{DescribesBytes}
use Rattle.scl_requests.specs.Depfiles.{IsSaid}
use Rattle.scl_requests.specs.Joining.{joined}
use Rattle.scl_requests.specs.Making.{made_by}
use Rattle.scl_requests.specs.Mapping.{mapped}
use Rattle.scl_requests.specs.Naming.{named}
use Rattle.scl_talks.specs.Talks.{looked_up}
use Rattle.scl_requests.specs.declared.requests.Kind.{Kind}
use Rattle.scl_requests.specs.declared.requests.Kind.TheVariants as kinds

-- whether a description is asked, or a lookup, which begins with one
abbrev pub is_described : Kind → Bool
is_described kinds.Name = false
is_described kinds.Join = false
is_described kinds.Map = false
is_described kinds.Depfile = false
is_described kinds.MadeBy = false
is_described kinds.Lookup = true
is_described kinds.Description = true

-- what is asked by a first line
abbrev pub kind_in : List ℕ → Kind
kind_in line =
    if bytes_eq line (codes "name") then kinds.Name
    else (if bytes_eq line (codes "join") then kinds.Join
    else (if bytes_eq line (codes "map") then kinds.Map
    else (if bytes_eq line (codes "depfile") then kinds.Depfile
    else (if bytes_eq line (codes "made-by") then kinds.MadeBy
    else (if bytes_eq line (codes "lookup") then kinds.Lookup else kinds.Description)))))

abbrev pub kind_of : List (List ℕ) → Kind
kind_of [] = kinds.Description
kind_of (line ∷ lines) = kind_in line

abbrev pub AnswersBy : Kind → Catalogue → List ℕ → Result (List ℕ) ℕ → Type 0
AnswersBy kinds.Name catalogue bytes said = named (drop 1 (lines_of bytes)) ≡ said
AnswersBy kinds.Join catalogue bytes said = joined (drop 1 (lines_of bytes)) ≡ said
AnswersBy kinds.Map catalogue bytes said = mapped (drop 1 (lines_of bytes)) ≡ said
AnswersBy kinds.Depfile catalogue bytes said = IsSaid (drop 1 (lines_of bytes)) said
AnswersBy kinds.MadeBy catalogue bytes said = made_by (drop 1 (lines_of bytes)) ≡ said
AnswersBy kinds.Lookup catalogue bytes said = looked_up catalogue (drop 1 (lines_of bytes)) ≡ said
AnswersBy kinds.Description catalogue bytes said = DescribesBytes catalogue bytes said

-- what a program's name means, the text of joined runs, a mapped text, a dependency file, which release answers, what to look up
-- next, or a description
abbrev pub AnswersBytes : Catalogue → List ℕ → Result (List ℕ) ℕ → Type 0
AnswersBytes catalogue bytes said = AnswersBy (kind_of (lines_of bytes)) catalogue bytes said
