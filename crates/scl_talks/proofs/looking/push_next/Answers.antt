use Rattle.std.proofs.lemmas.Result.{on_ok_weaker}
use Rattle.scl_describe.specs.DescriptionsGiven.{kept_told}
use Rattle.scl_description.proofs.TakerLaws.{entries_added}
use Rattle.scl_questions.specs.Views.{replies_of}
use Rattle.scl_talks.specs.Next.{kept_entries}
use Rattle.scl_talks.proofs.looking.push_next.Goals as goal

pub returns : goal.returns
returns c =
    on_ok_weaker c.tell_kept.result
    (λ added. entries_added c.args.text.now c.tell_kept.new.rows (kept_entries c.args.place.now (replies_of c.args.answers.now) (kept_told c.args.kept.now)) added)
    c.tell_kept.ensures
