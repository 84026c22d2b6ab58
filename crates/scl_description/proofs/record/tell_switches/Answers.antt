use Rattle.std.proofs.Common.{rules, ◌≡◌, ◌∷◌, [], List, ℕ, Option, option_copied, codes, subst}
use Rattle.std.proofs.lemmas.Result.{on_ok_weaker}
use Rattle.scl_text.specs.Records.{Parsed, parsed_of}
use Rattle.scl_description.specs.Rows.{Entry, entry_rows, row_entry, yes_entry, maybe_entry, lone}
use Rattle.scl_description.specs.Records.{color_text}
use Rattle.scl_description.specs.Takers.{Adds}
use Rattle.scl_description.proofs.TakerLaws.{first_entry, then_entry}
use Rattle.scl_description.proofs.record.tell_switches.Goals as goal

pub returns : goal.returns
returns g c =
    let p : Parsed = parsed_of c.args.parsed.now in
    let has = g.R.TakesRows.has in
    let start = c.args.rows.now in
    let x1 : Entry = yes_entry (codes "external-assembler") p.uses_external_assembler in
    let x2 : Entry = yes_entry (codes "show-includes") p.msvc_show_includes in
    let x3 : Entry = yes_entry (codes "explicit-language") p.msvc_explicit_language in
    let x4 : Entry = yes_entry (codes "profile-generate") p.profile_generate in
    let x5 : Entry = row_entry (codes "color") (lone (color_text p.color_mode)) in
    let x6 : Entry = yes_entry (codes "no-rewrite-includes-only") p.suppress_rewrite_includes_only in
    let why : option_copied c.as_deref-why.result ≡ p.too_hard_for_preprocessor_cache_mode = search (rules, c.as_deref-why.ensures) in
    let y1 = first_entry has start c.tell_yes.new.rows x1 c.in_ok-tell_yes.ensures in
    let y2 = then_entry has start c.tell_yes.new.rows c.tell_yes-2.new.rows (x1 ∷ []) x2 y1 c.in_ok-tell_yes-2.ensures in
    let y3 = then_entry has start c.tell_yes-2.new.rows c.tell_yes-3.new.rows (x1 ∷ x2 ∷ []) x3 y2 c.in_ok-tell_yes-3.ensures in
    let y4 = then_entry has start c.tell_yes-3.new.rows c.tell_yes-4.new.rows (x1 ∷ x2 ∷ x3 ∷ []) x4 y3 c.in_ok-tell_yes-4.ensures in
    let y5 = then_entry has start c.tell_yes-4.new.rows c.tell_color.new.rows (x1 ∷ x2 ∷ x3 ∷ x4 ∷ []) x5 y4 c.in_ok-tell_color.ensures in
    let y6 = then_entry has start c.tell_color.new.rows c.tell_yes-5.new.rows (x1 ∷ x2 ∷ x3 ∷ x4 ∷ x5 ∷ []) x6 y5 c.in_ok-tell_yes-5.ensures in
    on_ok_weaker c.tell_maybe.result
    (λ last. then_entry has start c.tell_yes-5.new.rows c.tell_maybe.new.rows (x1 ∷ x2 ∷ x3 ∷ x4 ∷ x5 ∷ x6 ∷ []) (maybe_entry (codes "too-hard") p.too_hard_for_preprocessor_cache_mode) y6
    (subst (λ (word : Option (List ℕ)). Adds has c.tell_yes-5.new.rows c.tell_maybe.new.rows (entry_rows (maybe_entry (codes "too-hard") word))) why last))
    c.tell_maybe.ensures
