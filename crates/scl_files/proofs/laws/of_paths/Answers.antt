use Rattle.std.proofs.Common.{refl, sym, ◌∙◌, if◌then◌else◌}
use Rattle.std.specs.Prelude.{is_some}
use Rattle.scl_files.specs.Paths.{components, parent, file_place}
use Rattle.scl_files.proofs.ExtensionLaws.{file_name-with_extension, extension-with_extension, stem-with_extension}
use Rattle.scl_files.proofs.PathLaws.{same_components-Decides, file_name-join}
use Rattle.scl_files.proofs.laws.of_paths.Goals as goal

pub returns-clause-same_components : goal.returns-clause-same_components
returns-clause-same_components c = same_components-Decides (components c.args._a.now) (components c.args._b.now)

pub returns-clause-reflexive : goal.returns-clause-reflexive
returns-clause-reflexive c = (same_components-Decides (components c.args._a.now) (components c.args._a.now)).1 refl

pub returns-clause-symmetric : goal.returns-clause-symmetric
returns-clause-symmetric c h =
    (same_components-Decides (components c.args._b.now) (components c.args._a.now)).1 (sym ((same_components-Decides (components c.args._a.now) (components c.args._b.now)).0 h))

pub returns-clause-transitive : goal.returns-clause-transitive
returns-clause-transitive c h k =
    (same_components-Decides (components c.args._a.now) (components c.args._c.now)).1
    ((same_components-Decides (components c.args._a.now) (components c.args._b.now)).0 h ∙ (same_components-Decides (components c.args._b.now) (components c.args._c.now)).0 k)

pub returns-clause-joined_name : goal.returns-clause-joined_name
returns-clause-joined_name c h = file_name-join c.args._a.now c.args._b.now h

pub returns-clause-replaced_name : goal.returns-clause-replaced_name
returns-clause-replaced_name c h = file_name-join (if is_some (file_place c.args._a.now) then parent c.args._a.now else c.args._a.now) c.args._b.now h

pub returns-clause-extended_name : goal.returns-clause-extended_name
returns-clause-extended_name c = file_name-with_extension c.args._a.now c.args._b.now (file_place c.args._a.now) refl

pub returns-clause-new_extension : goal.returns-clause-new_extension
returns-clause-new_extension c = extension-with_extension c.args._a.now c.args._b.now (file_place c.args._a.now) refl

pub returns-clause-same_stem : goal.returns-clause-same_stem
returns-clause-same_stem c = stem-with_extension c.args._a.now c.args._b.now (file_place c.args._a.now) refl
