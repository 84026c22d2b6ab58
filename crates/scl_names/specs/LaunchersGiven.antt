-- The code's launchers and options, as the definitions have them.
use Rattle.scl_names.specs.Launchers.{Front, LauncherOption, front, option}
use Rattle.scl_names.specs.declared.launchers.Launched.{Launched}
use Rattle.scl_names.specs.declared.options.Row.{Row}

abbrev pub option_by : Row → LauncherOption
option_by it = option it.launcher.now it.text.now it.standing

abbrev pub front_by : Launched → Front
front_by it = front it.launcher.now it.awaits_value
