-- A description, and what to look up next, of a request; and the lines of settings.
use Rattle.std.proofs.Common.{◌≡◌, ◌∙◌, ℕ, true, false, cond, List, [], ◌∷◌, Option, None, ap, subst, sym}
use Rattle.scl_catalogue.specs.Form.{Catalogue}
use Rattle.scl_describe.proofs.FindingLaws.{is_described, is_of}
use Rattle.scl_describe.specs.Descriptions.{description, too_many_entries}
use Rattle.scl_describe.specs.DescriptionsGiven.{AreOf, IsDescribed, kept_told, text_given}
use Rattle.scl_describe.specs.Settings.{Settings, settings_from}
use Rattle.scl_describe.specs.declared.described.Description.{Description}
use Rattle.scl_description.specs.Rows.{entries_text}
use Rattle.scl_questions.specs.Answers.{Reply}
use Rattle.scl_reader.specs.CommandLines.{Given, Request, asked_for, given_in}
use Rattle.scl_reader.specs.Reads.{read_of}
use Rattle.scl_reader.specs.Within.{has_at_most}
use Rattle.scl_reader.specs.declared.reading.Reading.{Reading}
use Rattle.scl_talks.specs.Next.{looked}
use Rattle.scl_talks.specs.Replies.{reply_in}
use Rattle.scl_talks.specs.Talks.{Talk, kept_for, names_base, talk_from, text_for, with_reply}

module _ (catalogue : Catalogue) (s : Settings) (replies : List Reply) (request : Request) (line : Given) (is_its : line ≡ given_in request) where
  abbrev there : Given → Request
  there = asked_for request.compiler

  abbrev ended : List ℕ → List ℕ
  ended described = looked request.directory replies described (kept_for catalogue s request)

  pub is_told : (reading : Reading) (made : Description) (described text : List ℕ) → (has_at_most s.limits (there line) ≡ true) × (reading ≡ read_of (there line))
      → IsDescribed catalogue s reading line made → described ≡ text_given made → text ≡ looked request.directory replies described (kept_told made.kept)
      → text ≡ text_for catalogue s replies request
  is_told reading made described text read its is told =
      let On : Given → Type 0 = λ g. (has_at_most s.limits (there g) ≡ true) × (reading ≡ read_of (there g)) in
      let here : On (given_in request) = subst On is_its read in
      let are : AreOf catalogue s request made = is_of catalogue s request reading line made here.1 is_its its in
      told
      ∙ ap (looked request.directory replies described) are.kept
      ∙ ap ended (is_described catalogue s request line is_its reading made described read its is)
      ∙ ap (λ b. cond b (ended (description catalogue s request)) (entries_text too_many_entries)) (sym here.0)

  pub is_too_long : (text : List ℕ) → has_at_most s.limits (there line) ≡ false → text ≡ entries_text too_many_entries → text ≡ text_for catalogue s replies request
  is_too_long text within is =
      let here : has_at_most s.limits request ≡ false = subst (λ g. has_at_most s.limits (there g) ≡ false) is_its within in
      is ∙ ap (λ b. cond b (ended (description catalogue s request)) (entries_text too_many_entries)) (sym here)

-- a line that tells no answer and names no base directory
pub takes_setting : (talk : Talk) (line : List ℕ) (settings : Settings) → None ≡ reply_in line → names_base line ≡ false → settings ≡ settings_from talk.settings (line ∷ [])
    → (rest : List (List ℕ)) → talk_from (record { settings = settings; replies = talk.replies }) rest ≡ talk_from talk (line ∷ rest)
takes_setting talk line settings none other is rest =
    ap (λ (s : Settings). talk_from (record { settings = s; replies = talk.replies }) rest) is
    ∙ ap (λ b. talk_from (cond b talk (record talk { settings = settings_from talk.settings (line ∷ []) })) rest) (sym other)
    ∙ ap (λ (reply : Option Reply). talk_from (with_reply talk line reply) rest) none
