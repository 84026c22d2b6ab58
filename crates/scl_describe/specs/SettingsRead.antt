-- What of settings the code keeps.
use Rattle.std.specs.Prelude.{string_bytes}
use Rattle.std.specs.Option.{option_map}
use Rattle.scl_values.specs.Words.{words_of}
use Rattle.scl_describe.specs.Settings.{Settings, Setting}
use Rattle.scl_describe.specs.Settings as settings
use Rattle.scl_describe.specs.declared.settings.Settings as code
use Rattle.scl_describe.specs.declared.settings.Setting as line
use Rattle.scl_describe.specs.declared.settings.Setting.TheVariants as lines

abbrev pub settings_by : code.Settings → Settings
settings_by s = record { runs = s.runs; version = option_map string_bytes s.version; limits = s.limits; wants = s.wants; bases = words_of s.bases.items; keeps_shown = s.keeps_shown }

abbrev pub set_by : line.Setting → Setting
set_by lines.MayDist = settings.MayDist
set_by lines.RewriteIncludesOnly = settings.RewriteIncludesOnly
set_by lines.CacheMode = settings.CacheMode
set_by (lines.Version text) = settings.Version (string_bytes text)
set_by (lines.Words words) = settings.Words words
set_by (lines.Bytes bytes) = settings.Bytes bytes
set_by (lines.Wanted part) = settings.Wanted part
set_by (lines.Base dir) = settings.Base dir.items
set_by lines.KeepShown = settings.KeepShown
