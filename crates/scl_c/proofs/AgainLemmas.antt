-- Where a description is given, a command that it has is read again.
use Rattle.std.proofs.Common.{◌≡◌, ℕ, ℤ, pos, List, Result, Ok, Err, drop, refl}
use Rattle.scl_catalogue.specs.Form.{Catalogue}
use Rattle.scl_description.specs.Lines.{lines_of}
use Rattle.scl_reader.specs.CommandLines.{Request}
use Rattle.scl_reader.proofs.AgainLaws.{answers_again}
use Rattle.scl_cl.specs.Requests.{request_in}
use Rattle.scl_describe.specs.Settings.{Settings, settings_in, request_lines}
use Rattle.scl_describe.specs.Descriptions.{IsDescriptionOf}
use Rattle.scl_requests.specs.Requests.{AnswersBy, AnswersBytes, is_described, kind_of}
use Rattle.scl_requests.specs.declared.requests.Kind.{Kind}
use Rattle.scl_requests.specs.declared.requests.Kind.TheVariants as kinds
use Rattle.scl_talks.specs.Talks.{Talk, answered, silent, talk_from}
use Rattle.scl_c.specs.Described.{request_of, AskedAgainIf, AsksReadAgain, IsAskedAgain, IsDescribed}

asks : (catalogue : Catalogue) (s : Settings) (bytes text : List ℕ) (r : Result Request ℕ) → request_in (request_lines (lines_of bytes)) ≡ r → IsDescriptionOf catalogue s r (Ok text) → IsAskedAgain kinds.Description bytes
asks catalogue s bytes text (Ok request) e h = record { request = request; request_is = e; read_again = answers_again request }
asks catalogue s bytes text (Err n) e h = absurd h

looks : (catalogue : Catalogue) (talk : Talk) (bytes text : List ℕ) (r : Result Request ℕ) → request_of kinds.Lookup bytes ≡ r → answered catalogue talk r ≡ Ok text → IsAskedAgain kinds.Lookup bytes
looks catalogue talk bytes text (Ok request) e h = record { request = request; request_is = e; read_again = answers_again request }
looks catalogue talk bytes text (Err n) e h = absurd (let no : Err n ≡ Ok text = h in cc)

asked : (kind : Kind) (catalogue : Catalogue) (bytes text : List ℕ) → AnswersBy kind catalogue bytes (Ok text) → AskedAgainIf (is_described kind) kind bytes
asked kinds.Name catalogue bytes text h = tt
asked kinds.Join catalogue bytes text h = tt
asked kinds.Map catalogue bytes text h = tt
asked kinds.Depfile catalogue bytes text h = tt
asked kinds.MadeBy catalogue bytes text h = tt
asked kinds.Lookup catalogue bytes text h = looks catalogue (talk_from silent (drop 1 (lines_of bytes))) bytes text (request_of kinds.Lookup bytes) refl h
asked kinds.Description catalogue bytes text h = asks catalogue (settings_in (lines_of bytes)) bytes text (request_in (request_lines (lines_of bytes))) refl h

pub asks_again : (catalogue : Catalogue) (bytes old new : List ℕ) (wanted : ℕ) (status : ℤ) → IsDescribed (AnswersBytes catalogue bytes) bytes old new wanted status → status ≡ pos 0 → AsksReadAgain bytes
asks_again catalogue bytes old new wanted status h zero = asked (kind_of (lines_of bytes)) catalogue bytes (h.given zero).text (h.given zero).is_answer
