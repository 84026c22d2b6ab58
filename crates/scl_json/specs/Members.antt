-- Which member of the JSON a row has, and in which form.
use Rattle.std.specs.Prelude.{ℕ, Bool, List, [], ◌∷◌, codes, find, unwrap_or}
use Rattle.std.specs.Str.{bytes_eq}
use Rattle.scl_json.specs.declared.members.Form.{Form}
use Rattle.scl_json.specs.declared.members.Form.TheVariants.{Named, Number, Truth, Yes, One, Each, Rows, Objects}

-- the rows of a name, their member, its form, and of objects the names of their first fields
pub record Line : Type 0 where
  pub row : List ℕ
  pub name : List ℕ
  pub form : Form
  pub fields : List (List ℕ)

abbrev pub line : List ℕ → List ℕ → Form → List (List ℕ) → Line
line row name form fields = record { row = row; name = name; form = form; fields = fields }

abbrev alone : List ℕ → List ℕ → Form → Line
alone row name form = line row name form []

-- each row of docs/PROTOCOL.md, and those that the program adds
unfoldable pub table : List Line
table =
    alone (codes "version") (codes "version") Number
    ∷ alone (codes "ok") (codes "outcome") Named
    ∷ alone (codes "cannot-cache") (codes "outcome") Named
    ∷ alone (codes "not-compilation") (codes "outcome") Named
    ∷ alone (codes "too-many-words") (codes "outcome") Named
    ∷ alone (codes "arg") (codes "command") Each
    ∷ alone (codes "cacheable") (codes "cacheable") Truth
    ∷ alone (codes "input") (codes "input") One
    ∷ alone (codes "double-dash-input") (codes "double_dash_input") Yes
    ∷ alone (codes "language") (codes "language") One
    ∷ alone (codes "compilation-flag") (codes "compilation_flag") One
    ∷ alone (codes "depfile") (codes "depfile") One
    ∷ line (codes "output") (codes "outputs") Objects (codes "name" ∷ codes "path" ∷ codes "optional" ∷ [])
    ∷ alone (codes "dependency") (codes "dependency_words") Each
    ∷ alone (codes "preprocessor") (codes "preprocessor_words") Each
    ∷ alone (codes "common") (codes "common_words") Each
    ∷ alone (codes "arch") (codes "arch_words") Each
    ∷ alone (codes "unhashed") (codes "unhashed_words") Each
    ∷ alone (codes "dist") (codes "dist_files") Each
    ∷ alone (codes "hash") (codes "hash_files") Each
    ∷ alone (codes "external-assembler") (codes "external_assembler") Yes
    ∷ alone (codes "show-includes") (codes "show_includes") Yes
    ∷ alone (codes "explicit-language") (codes "explicit_language") Yes
    ∷ alone (codes "profile-generate") (codes "profile_generate") Yes
    ∷ alone (codes "color") (codes "color") One
    ∷ alone (codes "no-rewrite-includes-only") (codes "no_rewrite_includes_only") Yes
    ∷ alone (codes "too-hard") (codes "too_hard") One
    ∷ alone (codes "run") (codes "preprocessor") Rows
    ∷ line (codes "environment") (codes "environment") Objects (codes "name" ∷ codes "value" ∷ [])
    ∷ alone (codes "reason") (codes "reason") One
    ∷ alone (codes "because") (codes "detail") One
    ∷ alone (codes "at") (codes "at") Number
    ∷ alone (codes "sentence") (codes "sentence") One
    ∷ line (codes "option") (codes "options") Objects (codes "origin" ∷ codes "goes_to" ∷ codes "at" ∷ codes "kind" ∷ codes "flag" ∷ codes "value" ∷ codes "given" ∷ [])
    ∷ alone (codes "hazard") (codes "hazard_names") Each
    ∷ line (codes "wants") (codes "wants") Objects (codes "kind" ∷ codes "path" ∷ [])
    ∷ alone (codes "key") (codes "key") Rows
    ∷ alone (codes "direct") (codes "direct") Rows
    ∷ alone (codes "keep") (codes "keep") Rows
    ∷ alone (codes "directory-in-object") (codes "directory_in_object") One
    ∷ alone (codes "reads") (codes "reads") Rows
    ∷ alone (codes "reads-like") (codes "reads-like") Rows
    ∷ alone (codes "writes") (codes "writes") Rows
    ∷ alone (codes "writes-like") (codes "writes-like") Rows
    ∷ alone (codes "loads") (codes "loads") Rows
    ∷ alone (codes "loads-like") (codes "loads-like") Rows
    ∷ alone (codes "asks") (codes "asks") Rows
    ∷ alone (codes "entry") (codes "entry") Number
    ∷ alone (codes "file") (codes "file") One
    ∷ alone (codes "error") (codes "error") One
    ∷ alone (codes "compiler") (codes "compiler") One
    ∷ alone (codes "program") (codes "program") One
    ∷ alone (codes "directory") (codes "directory") One
    ∷ alone (codes "response-file") (codes "response_files") Each
    ∷ alone (codes "missing-file") (codes "missing_files") Each
    ∷ alone (codes "unrunnable") (codes "unrunnable") One
    ∷ alone (codes "nothing") (codes "reason") One
    ∷ line (codes "danger") (codes "hazards") Objects (codes "name" ∷ codes "danger" ∷ codes "consequence" ∷ [])
    ∷ []

-- any other row: a member of its own name, an array of arrays
abbrev pub own_line : List ℕ → Line
own_line name = alone name name Rows

abbrev pub is_of : List ℕ → Line → Bool
is_of name it = bytes_eq it.row name

-- the line of a row's name
abbrev pub line_of : List ℕ → Line
line_of name = unwrap_or (find (is_of name) table) (own_line name)
