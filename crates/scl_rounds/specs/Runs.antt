-- What the runs of a key write.
use Rattle.std.specs.Prelude.{ℕ, ◌==◌, ◌||◌, ◌&&◌, not, is_none, is_some, Bool, true, false, cond, List, [], ◌∷◌, ◌++◌, length, codes, Option, None, Some}
use Rattle.std.specs.List.{list_any}
use Rattle.scl_key.specs.Parts.{Part, run, run_else}
use Rattle.std.specs.Option.{option_map}
use Rattle.scl_lookup.specs.Keys.{Field, said, ran_on}
use Rattle.scl_lookup.specs.Questions.{Written, Machine}
use Rattle.scl_readings.specs.Lines.{lines_after}
use Rattle.scl_readings.specs.Markers.{files_in, marker_of}
use Rattle.scl_readings.specs.declared.files.Named.TheVariants.{Anywhere, Entered, Loaded}
use Rattle.scl_rounds.specs.Files.{any_flawed, files_told}
use Rattle.scl_rounds.specs.declared.file.Flaw.TheVariants as flaws
use Rattle.scl_rounds.specs.Keys.{Key}

-- ---- runs that fail

abbrev pub is_else : Part → Bool
is_else (run_else words) = true
is_else other = false

-- a run may fail: the key has others in its place
abbrev pub may_fail : Key → Bool
may_fail key = list_any is_else key.parts

abbrev pub fails : Machine → Part → Bool
fails m (run words) = is_none (ran_on m words)
fails m other = false

-- a run failed, so the others are needed
abbrev pub has_failed : Key → Machine → Bool
has_failed key m = list_any (fails m) key.parts

-- ---- what is hashed of a run

abbrev pub has_marker : List ℕ → Bool
has_marker text = list_any (λ directive. is_some (marker_of directive)) (lines_after 0x23 text)

-- a text names its sources: it is empty, or has a line marker
abbrev pub names_sources : List ℕ → Bool
names_sources text = length text == 0 || has_marker text

-- the precompiled headers that the compiler loads in place of texts
abbrev pub loaded_in : List ℕ → List (List ℕ)
loaded_in text = files_in Loaded (lines_after 0x23 text)

-- the files that line markers name
abbrev pub marked_in : List ℕ → List (List ℕ)
marked_in text = files_in Anywhere (lines_after 0x23 text)

-- those that the text enters
abbrev pub entered_in : List ℕ → List (List ℕ)
entered_in text = files_in Entered (lines_after 0x23 text)

-- The compilation may read other bytes than the run: of a pipe or a device, or of another header than one that is gone.
abbrev pub is_fleeting : Machine → List ℕ → Bool
is_fleeting m text = any_flawed flaws.Special m (marked_in text) || any_flawed flaws.Gone m (entered_in text)

-- a text of which the sources are known, and can be read again
abbrev pub is_sound : Machine → List ℕ → Bool
is_sound m text = names_sources text && not (is_fleeting m text)

-- both outputs and the bytes of its own file
abbrev pub outputs_told : Written → List Field
outputs_told it = said it.output ∷ said it.messages ∷ said it.own ∷ []

-- its outputs, and the headers that its text loads; nothing may be kept if the text is not sound, or a header is no file
abbrev pub written_told : Machine → Written → Option (List Field)
written_told m it = cond (is_sound m it.output) (option_map (λ headers. outputs_told it ++ headers) (files_told m (loaded_in it.output))) None

-- that there is no text
abbrev pub no_text : List Field
no_text = said (codes "-") ∷ []

-- what a run wrote, or that it failed, if it may fail
abbrev pub run_told : Machine → (may_fail : Bool) → Option Written → Option (List Field)
run_told m may_fail None = cond may_fail (Some no_text) None
run_told m may_fail (Some it) = written_told m it
