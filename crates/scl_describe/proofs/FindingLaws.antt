-- What is described of the reading of a request's line is described of the request.
use Rattle.std.proofs.Common.{◌≡◌, ℕ, true, false, List, [], Result, Ok, ap, subst, sym, refl, ◌∙◌}
use Rattle.scl_catalogue.specs.Form.{Catalogue}
use Rattle.scl_description.specs.Lines.{lines_of}
use Rattle.scl_description.specs.Rows.{entries_text}
use Rattle.scl_hazards.specs.Told.{given as given_told}
use Rattle.scl_reader.proofs.ReadLaws.{IsOf, answer_of_read, readings-say}
use Rattle.scl_reader.specs.Answers.{answer_to, reading_by}
use Rattle.scl_reader.specs.CommandLines.{Given, Request, asked_for, given_in}
use Rattle.scl_reader.specs.Reads.{IsReadBy, outcome_in, read_of}
use Rattle.scl_reader.specs.Within.{has_at_most}
use Rattle.scl_reader.specs.declared.reading.Reading.{Reading}
use Rattle.scl_cl.specs.Requests.{request_in}
use Rattle.scl_describe.specs.DependencyFiles.{writes_by}
use Rattle.scl_describe.specs.Descriptions.{DescribesBytes, IsDescriptionOf, description, kept_with, too_many_entries}
use Rattle.scl_describe.specs.DescriptionsGiven.{AreOf, IsDescribed, kept_given, runs_given, text_given}
use Rattle.scl_describe.specs.Hazards.{lexicon_by}
use Rattle.scl_describe.specs.Settings.{Settings, settings_in, request_lines}
use Rattle.scl_describe.specs.declared.described.Description.{Description}
use Rattle.scl_describe.proofs.DescriptionLaws.{is-description, kept-is, too-long}

-- what is described of the reading of a request's line is of the request
pub described-of : (catalogue : Catalogue) (s : Settings) (request : Request) (made : Description) → IsDescribed catalogue s (read_of request) (given_in request) made → AreOf catalogue s request made
described-of catalogue s request made h =
    let said : IsReadBy request = readings-say request in
    let is : IsOf request [] made.answer = answer_of_read request [] made.answer (read_of request) refl h.answer in
    record {
      answer = is.is;
      parts = is.parts;
      runs = h.runs ∙ ap (λ c. runs_given s c (outcome_in (read_of request))) said.compiler ∙ ap (runs_given s request.compiler) said.outcome;
      kept =
          h.kept ∙ ap (λ c. kept_given (lexicon_by catalogue s.version c) s c request.words (given_told made.told) made.answer) said.compiler
          ∙ kept-is (lexicon_by catalogue s.version request.compiler) s request (given_told made.told) made.answer is.is is.parts
          ∙ ap (λ telling. kept_with (lexicon_by catalogue s.version request.compiler) s request telling (answer_to request) (reading_by request.compiler request)) h.told;
      options = h.options;
      told = h.told;
      writes = h.writes ∙ ap (λ c. writes_by s c (outcome_in (read_of request))) said.compiler ∙ ap (writes_by s request.compiler) said.outcome;
      questions = h.questions;
    }

pub is_of : (catalogue : Catalogue) (s : Settings) (request : Request) (reading : Reading) (line : Given) (made : Description) → reading ≡ read_of request → line ≡ given_in request
    → IsDescribed catalogue s reading line made → AreOf catalogue s request made
is_of catalogue s request reading line made read its h =
    described-of catalogue s request made (subst (λ g. IsDescribed catalogue s (read_of request) g made) its (subst (λ r. IsDescribed catalogue s r line made) read h))

module _ (catalogue : Catalogue) (s : Settings) (request : Request) (line : Given) (is_its : line ≡ given_in request) where
  abbrev there : Given → Request
  there = asked_for request.compiler

  pub is_described : (reading : Reading) (made : Description) (text : List ℕ) → (has_at_most s.limits (there line) ≡ true) × (reading ≡ read_of (there line))
      → IsDescribed catalogue s reading line made → text ≡ text_given made → text ≡ description catalogue s request
  is_described reading made text read its is =
      let On : Given → Type 0 = λ g. (has_at_most s.limits (there g) ≡ true) × (reading ≡ read_of (there g)) in
      let here : On (given_in request) = subst On is_its read in
      is-description catalogue s request text made here.0 (is_of catalogue s request reading line made here.1 is_its its) is

  pub is_too_long : (text : List ℕ) → has_at_most s.limits (there line) ≡ false → text ≡ entries_text too_many_entries → text ≡ description catalogue s request
  is_too_long text within is = too-long catalogue s request text (subst (λ g. has_at_most s.limits (there g) ≡ false) is_its within) is

-- the description of a request that bytes make, by their settings, is a description of these bytes
pub describes_bytes : (catalogue : Catalogue) (bytes text : List ℕ) (s : Settings) (request : Request) → s ≡ settings_in (lines_of bytes) → request_in (request_lines (lines_of bytes)) ≡ Ok request
    → text ≡ description catalogue s request → DescribesBytes catalogue bytes (Ok text)
describes_bytes catalogue bytes text s request set made is =
    let Made : Result Request ℕ → Type 0 = λ r. IsDescriptionOf catalogue (settings_in (lines_of bytes)) r (Ok text) in
    let By : Settings → Type 0 = λ t. text ≡ description catalogue t request in
    subst Made (sym made) (subst By set is)
