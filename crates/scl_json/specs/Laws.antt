-- What follows from the definitions of a description's JSON.
use Rattle.std.specs.Prelude.{◌≡◌, true, List, find, is_some}
use Rattle.std.specs.List.{list_all}
use Rattle.scl_description.specs.Names.{parts}
use Rattle.scl_description.specs.Rows.{Entry}
use Rattle.scl_json.specs.Json.{IsJson}
use Rattle.scl_json.specs.Members.{is_of, table}
use Rattle.scl_json.specs.Objects.{json_of}

-- what is written of any rows is JSON
abbrev pub WhatIsWrittenIsJson : Type 0
WhatIsWrittenIsJson = (entries : List Entry) → IsJson (json_of entries)

-- the table has a member for each row of a description
abbrev pub EachRowHasAMember : Type 0
EachRowHasAMember = list_all (λ row. is_some (find (is_of row.text) table)) parts ≡ true
