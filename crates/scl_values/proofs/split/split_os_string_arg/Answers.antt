-- The parts are those of a search in the text, whose bytes are the word's.
use Rattle.std.proofs.Common.{sym, ap, subst, ◌∙◌, ℕ, List, Some}
use Rattle.std.specs.Str.{IsUtf8}
use Rattle.std.proofs.lemmas.Str.{IsUtf8-string_bytes}
use Rattle.scl_values.specs.Texts.{before_text, after_text}
use Rattle.scl_values.proofs.SplitLemmas.{split_none, split_found}
use Rattle.scl_values.proofs.split.split_os_string_arg.Goals as goal

pub returns-in_ok-from_str-in-Some : goal.returns-in_ok-from_str-in-Some
returns-in_ok-from_str-in-Some c =
    let parts = split_found _ _ _ _ c.in-Some.ensures.cases in
    let same = c.as_str.ensures.value ∙ c.in_ok-text.ensures in (
      subst (λ (w : List ℕ). IsUtf8 w) c.in_ok-text.ensures (IsUtf8-string_bytes c.in_ok-text.text),
      c.in_ok-before-in-Some.ensures.ok ∙ sym parts.0 ∙ ap (before_text c.args.split.now) same,
      ap (λ t. Some t) c.in_ok-from_str-in-Some.ensures.ok ∙ sym parts.1 ∙ ap (after_text c.args.split.now) same,
    )

pub returns-in-None : goal.returns-in-None
returns-in-None c =
    let parts = split_none _ _ c.in-None.ensures.cases in
    let same = c.as_str.ensures.value ∙ c.in_ok-text.ensures in (
      subst (λ (w : List ℕ). IsUtf8 w) c.in_ok-text.ensures (IsUtf8-string_bytes c.in_ok-text.text),
      sym c.as_str.ensures.value ∙ sym parts.0 ∙ ap (before_text c.args.split.now) same,
      sym parts.1 ∙ ap (after_text c.args.split.now) same,
    )
