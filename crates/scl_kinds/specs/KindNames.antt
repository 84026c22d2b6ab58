-- The names of kinds of options. Only the tables of the code have them: the definitions name these.
use Rattle.std.specs.Prelude.{ℕ, ◌+◌, ◌&&◌, nat_le, Bool, cond, List, [], ◌∷◌, drop}
use Rattle.std.specs.List.{flat_map}
use Rattle.scl_gnu_reading.specs.contracts.gcc.data.KindPartialEq.TheImpl as gnu_kinds
use Rattle.scl_gnu_reading.specs.declared.gcc.data.Kind as gnu
use Rattle.scl_msvc_reading.specs.contracts.msvc.data.KindPartialEq.TheImpl as msvc_kinds
use Rattle.scl_msvc_reading.specs.declared.msvc.data.Kind as msvc
use Rattle.scl_small.specs.contracts.diab.data.KindPartialEq.TheImpl as diab_kinds
use Rattle.scl_small.specs.contracts.tasking_vx.data.KindPartialEq.TheImpl as tasking_kinds
use Rattle.scl_small.specs.declared.diab.data.Kind as diab
use Rattle.scl_small.specs.declared.tasking_vx.data.Kind as tasking
use Rattle.scl_kinds.specs.declared.kind_names.TheConstants.{DIAB, GNU, MSVC, TASKING}

abbrev pub is_capital : ℕ → Bool
is_capital c = nat_le 65 c && nat_le c 90

-- a capital in lower case after a `-`; other characters are themselves
abbrev pub lowered_character : ℕ → List ℕ
lowered_character c = cond (is_capital c) (45 ∷ (c + 32) ∷ []) (c ∷ [])

-- a catalogue's name of a kind, from that in descriptions: `too-hard-flag` from `TooHardFlag`
abbrev pub lowered : List ℕ → List ℕ
lowered name = drop 1 (flat_map lowered_character name)

-- a row of a table: the kind and its two names
abbrev pub Names : Type 0 → Type 0
Names K = K × record { now : List ℕ } × record { now : List ℕ }

-- the name in descriptions of the first row of the kind
abbrev pub name_among : {K : Type 0} → (K → K → Bool) → List (Names K) → K → List ℕ
name_among same [] kind = []
name_among same (row ∷ rows) kind = cond (same row.0 kind) row.1.now (name_among same rows kind)

-- of Gcc and Clang
unfoldable pub gnu_kind_name : gnu.Kind → List ℕ
gnu_kind_name kind = name_among gnu_kinds.ghosts.eq GNU.now kind

-- of Msvc's cl and of clang-cl
unfoldable pub msvc_kind_name : msvc.Kind → List ℕ
msvc_kind_name kind = name_among msvc_kinds.ghosts.eq MSVC.now kind

-- of Diab
unfoldable pub diab_kind_name : diab.Kind → List ℕ
diab_kind_name kind = name_among diab_kinds.ghosts.eq DIAB.now kind

-- of TaskingVX
unfoldable pub tasking_kind_name : tasking.Kind → List ℕ
tasking_kind_name kind = name_among tasking_kinds.ghosts.eq TASKING.now kind

-- ---- what a catalogue calls them

abbrev pub gnu_kind_text : gnu.Kind → List ℕ
gnu_kind_text kind = lowered (gnu_kind_name kind)

abbrev pub cl_kind_text : msvc.Kind → List ℕ
cl_kind_text kind = lowered (msvc_kind_name kind)

abbrev pub diab_kind_text : diab.Kind → List ℕ
diab_kind_text kind = lowered (diab_kind_name kind)

abbrev pub tasking_kind_text : tasking.Kind → List ℕ
tasking_kind_text kind = lowered (tasking_kind_name kind)
