-- A catalogue of one's own over another.
use Rattle.std.specs.Prelude.{ℕ, not, Bool, List, ◌++◌, filter}
use Rattle.std.specs.List.{list_any}
use Rattle.std.specs.Str.{bytes_eq}
use Rattle.scl_catalogue.specs.Form.{Entry, Catalogue}

abbrev pub is_named : List Entry → List ℕ → Bool
is_named es name = list_any (λ e. bytes_eq e.name name) es

-- the entries whose name none of these has
abbrev pub not_named_in : List Entry → List Entry → List Entry
not_named_in own es = filter (λ e. not (is_named own e.name)) es

-- one's own, and after it what it does not replace by an entry of the same name
abbrev pub over : (own base : Catalogue) → Catalogue
over own base = record { groups = own.groups ++ base.groups; entries = own.entries ++ not_named_in own.entries base.entries }
