-- Numbers of options, by which most groups are known to have none of them.
use Rattle.std.specs.Prelude.{ℕ, ◌+◌, ◌*◌, ◌%◌, nat_lt, Bool, true, false, cond, ◌&&◌, List, [], ◌∷◌, length, Option, None, Some, unwrap_or, slice_get, slice_index, slice_set}
use Rattle.std.specs.List.{list_any}
use Rattle.scl_catalogue.specs.Form.{Pattern, Text, Test, Group, Relation, Any, Two, Before, Unfollowed, Last}
use Rattle.scl_catalogue.specs.Found.{OptionSeen}
use Rattle.scl_catalogue.specs.declared.keys.Keys.{Keys}
use Rattle.scl_catalogue.specs.declared.seen.Standing.{Standing}
use Rattle.scl_catalogue.specs.declared.seen.Standing.TheVariants as standing
use Rattle.scl_catalogue.specs.declared.test.Class.{Class}
use Rattle.scl_catalogue.specs.declared.test.Class.TheVariants as class
use Rattle.scl_catalogue.specs.declared.text.How.{How}
use Rattle.scl_catalogue.specs.declared.text.How.TheVariants as how

-- the number of a word, by its second and third byte
abbrev pub number : List ℕ → ℕ
number word = (slice_index word 1 * 5 + slice_index word 2) % 64

abbrev pub is_numbered : List Bool → List ℕ → Bool
is_numbered numbers word = unwrap_or (slice_get numbers (number word)) true

abbrev pub is_keyed_as : Keys → Standing → List ℕ → List ℕ → Bool
is_keyed_as k standing.Raw name kind = k.has_raw
is_keyed_as k standing.Unknown name kind = k.has_unknown && is_numbered k.unknown name
is_keyed_as k standing.Known name kind = k.has_known && (is_numbered k.flags name && is_numbered k.kinds kind)

-- the option's numbers are among these
unfoldable pub is_keyed : Keys → OptionSeen → Bool
is_keyed k o = is_keyed_as k o.standing o.name o.kind

abbrev pub added_as : Keys → Standing → List ℕ → List ℕ → Keys
added_as k standing.Raw name kind = record k { has_raw = true }
added_as k standing.Unknown name kind = record k { has_unknown = true; unknown = slice_set k.unknown (number name) true }
added_as k standing.Known name kind = record k { has_known = true; flags = slice_set k.flags (number name) true; kinds = slice_set k.kinds (number kind) true }

-- the numbers, and those of the option
abbrev pub added : Keys → OptionSeen → Keys
added k o = added_as k o.standing o.name o.kind

abbrev pub all_added : Keys → List OptionSeen → Keys
all_added k [] = k
all_added k (o ∷ os) = all_added (added k o) os

abbrev pub key_by : How → List ℕ → Option ℕ
key_by how.Is text = Some (number text)
key_by how.Begins text = cond (nat_lt (length text) 3) None (Some (number text))
key_by how.Ends text = None
key_by how.Holds text = None

-- the number of each word that the pattern fits, where they have one
abbrev pub key_of : Pattern → Option ℕ
key_of p = key_by p.how p.text

abbrev pub may_be : List Bool → Option ℕ → Bool
may_be numbers None = true
may_be numbers (Some n) = unwrap_or (slice_get numbers n) true

abbrev pub may_fit : List Bool → Pattern → Bool
may_fit numbers p = may_be numbers (key_of p)

abbrev pub may_have : List Bool → Text → Bool
may_have numbers t = list_any (may_fit numbers) t.any

abbrev pub may_pass_as : Keys → Class → Text → Bool
may_pass_as k class.Option names = true
may_pass_as k class.Raw names = k.has_raw
may_pass_as k class.Unknown names = k.has_unknown && may_have k.unknown names
may_pass_as k class.Flag names = k.has_known && may_have k.flags names
may_pass_as k class.Kind names = k.has_known && may_have k.kinds names

-- an option with these numbers may pass the test
unfoldable pub may_pass : Keys → Test → Bool
may_pass k t = may_pass_as k t.class t.names

-- the group of which an option must stand
abbrev pub first_group : Relation → Group
first_group (Any g) = g
first_group (Two g) = g
first_group (Before g h) = g
first_group (Unfollowed g h) = g
first_group (Last g h) = g
