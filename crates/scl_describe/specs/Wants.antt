-- Which parts of a description are wanted, and what is then reported.
use Rattle.std.specs.Prelude.{Bool, true, false, ◌||◌, List, [], if◌then◌else◌}
use Rattle.scl_description.specs.declared.names.Part.{Part}
use Rattle.scl_description.specs.declared.names.Part.TheVariants.{Always, Runs, Key, Tables, Options, Questions as Asks}
use Rattle.scl_hazards.specs.Told.{Told, nothing}
use Rattle.scl_reader.specs.Questions.{Questions}
use Rattle.scl_describe.specs.declared.wants.Wants.{Wants}

-- ---- what is wanted

abbrev pub everything : Wants
everything = record { runs = true; key = true; tables = true; options = true; questions = true }

-- only what is always reported
abbrev pub nothing_more : Wants
nothing_more = record { runs = false; key = false; tables = false; options = false; questions = false }

abbrev pub with_part : Wants → Part → Wants
with_part w Always = w
with_part w Runs = record w { runs = true }
with_part w Key = record w { key = true }
with_part w Tables = record w { tables = true }
with_part w Options = record w { options = true }
with_part w Asks = record w { questions = true }

-- ---- what is reported

-- these, if they are wanted
abbrev pub if_wanted : {A : Type 0} → Bool → List A → List A
if_wanted wanted them = if wanted then them else []

-- What the tables report. The key is judged by it.
abbrev pub told_if : Wants → Told → Told
told_if w told = if w.tables || w.key then told else nothing

abbrev pub no_questions : Questions
no_questions = record { files = []; directories = []; existing = [] }

abbrev pub questions_if : Wants → Questions → Questions
questions_if w questions = if w.questions then questions else no_questions
