-- What is known of every record that was read: it has an object, and no option of an either row in its line has an empty
-- value.
use Rattle.std.proofs.Common.{◌≡◌, Some, sym, ap, ◌∙◌}
use Rattle.std.specs.Prelude.{map, is_some}
use Rattle.scl_values.specs.Seen.{shown}
use Rattle.scl_args.specs.Options.{◌>>=◌}
use Rattle.scl_args.proofs.OutcomeLaws.{bind-ok}
use Rattle.scl_text.specs.Commands.{object_of}
use Rattle.scl_msvc_reading.specs.declared.msvc.data.Kind.TheVariants as kind
use Rattle.scl_msvc.specs.Environment.{surrounded}
use Rattle.scl_msvc_reading.specs.Readings.{reading}
use Rattle.scl_msvc_reading.specs.Inners.{BothInner}
use Rattle.scl_msvc.specs.Promises.{MsvcRecordsHaveObjects, MsvcLinesHaveNoEmpty}
use Rattle.scl_msvc.specs.ReadAgain.{outer_options_of, inner_options_of}
use Rattle.scl_msvc.proofs.ReadingLaws.{is-read, object-found}

pub have-objects : MsvcRecordsHaveObjects
have-objects is_clang directory pairs view words p e =
    let given = bind-ok (surrounded pairs words) (reading is_clang directory view) p e in
    let r = is-read is_clang directory view given.0 p given.2 in
    let os = map shown (outer_options_of is_clang directory view given.0) in
    let inside : BothInner = record { xclang = map shown (inner_options_of kind.XClang directory view os); clang = map shown (inner_options_of kind.Clang directory view os) } in
    let has : object_of p ≡ Some r.tested.object = sym (ap object_of r.is) ∙ object-found directory view os inside r.tested in
    ap is_some has

pub has-no-empty : MsvcLinesHaveNoEmpty
has-no-empty is_clang directory pairs view words all p all_words e =
    let r = is-read is_clang directory view all p (sym (ap (λ w. w >>= reading is_clang directory view) all_words) ∙ e) in
    record { outer = r.clear; inner = (r.xclang_clear, (r.clang_clear, tt)) }
