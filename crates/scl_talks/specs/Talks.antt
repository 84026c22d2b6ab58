-- A request for a lookup: a description's request, and the answers so far.
use Rattle.std.specs.Prelude.{ℕ, Bool, true, List, [], ◌∷◌, ◌++◌, fold, map, codes, Option, None, Some, Result, Ok, Err, nat_eq, if◌then◌else◌}
use Rattle.std.specs.List.{starts_with}
use Rattle.std.specs.Option.{option_map}
use Rattle.scl_catalogue.specs.Form.{Catalogue}
use Rattle.scl_cl.specs.Requests.{request_from}
use Rattle.scl_describe.specs.Descriptions.{description, kept_with, told_for, too_many_entries}
use Rattle.scl_describe.specs.Hazards.{lexicon_by}
use Rattle.scl_describe.specs.Keepings.{Kept}
use Rattle.scl_describe.specs.Settings.{Settings, blanked, no_settings, settings_from}
use Rattle.scl_describe.specs.declared.wants.Wants.{Wants}
use Rattle.scl_description.specs.Rows.{entries_text}
use Rattle.scl_questions.specs.Answers.{Reply}
use Rattle.scl_questions.specs.Views.{replies_of}
use Rattle.scl_reader.specs.Answers.{answer_to, reading_by}
use Rattle.scl_reader.specs.CommandLines.{Request}
use Rattle.scl_reader.specs.Within.{has_at_most}
use Rattle.scl_describe.specs.SettingsRead.{settings_by}
use Rattle.scl_talks.specs.Next.{looked}
use Rattle.scl_talks.specs.Replies.{reply_in}
use Rattle.scl_talks.specs.declared.talk.Talk as declared_talk

-- what lines say beside the request: settings, and answers in order
pub record Talk : Type 0 where
  pub settings : Settings
  pub replies : List Reply

abbrev pub talk_of : declared_talk.Talk → Talk
talk_of talk = record { settings = settings_by talk.settings; replies = replies_of talk.answers.items }

-- ---- lines

-- base directories are no matter of a lookup, so a line that names one is a bad one
abbrev pub names_base : List ℕ → Bool
names_base line = starts_with nat_eq line (codes "setting base ")

abbrev pub with_other : Talk → List ℕ → Talk
with_other talk line = if names_base line then talk else record talk { settings = settings_from talk.settings (line ∷ []) }

abbrev pub with_reply : Talk → List ℕ → Option Reply → Talk
with_reply talk line None = with_other talk line
with_reply talk line (Some reply) = record talk { replies = talk.replies ++ reply ∷ [] }

-- with what one more line says
abbrev pub with_line : Talk → List ℕ → Talk
with_line talk line = with_reply talk line (reply_in line)

abbrev pub talk_from : Talk → List (List ℕ) → Talk
talk_from talk lines = fold with_line talk lines

abbrev pub left_of : List ℕ → Option Reply → List ℕ
left_of line None = if names_base line then line else blanked line
left_of line (Some reply) = []

-- what the request has in the place of a line
abbrev pub left : List ℕ → List ℕ
left line = left_of line (reply_in line)

abbrev pub silent : Talk
silent = record { settings = no_settings; replies = [] }

-- ---- what is answered

abbrev pub with_key : Wants → Wants
with_key wants = record wants { key = true }

-- the key is wanted, and macros that the runs show stay in it
abbrev pub for_key : Settings → Settings
for_key s = record s { keeps_shown = true; wants = option_map with_key s.wants }

-- what is said of keeping the outcome of a request
abbrev pub kept_for : Catalogue → Settings → Request → Kept
kept_for catalogue s request = kept_with (lexicon_by catalogue s.version request.compiler) s request (told_for catalogue s request) (answer_to request) (reading_by request.compiler request)

-- a description, and what to look up next
abbrev pub text_for : Catalogue → Settings → List Reply → Request → List ℕ
text_for catalogue s replies request =
    if has_at_most s.limits request then looked request.directory replies (description catalogue s request) (kept_for catalogue s request)
    else entries_text too_many_entries

abbrev pub answered : Catalogue → Talk → Result Request ℕ → Result (List ℕ) ℕ
answered catalogue talk (Ok request) = Ok (text_for catalogue (for_key talk.settings) talk.replies request)
answered catalogue talk (Err number) = Err number

-- what is answered to the lines after the first
abbrev pub looked_up : Catalogue → List (List ℕ) → Result (List ℕ) ℕ
looked_up catalogue lines = answered catalogue (talk_from silent lines) (request_from 2 [] (map left lines))
