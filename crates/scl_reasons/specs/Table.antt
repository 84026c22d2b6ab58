-- The sentences for people, each with the reasons that it explains.
use Rattle.std.specs.Prelude.{ℕ, List, map}
use Rattle.scl_reasons.specs.Explanations.{Explained, explained_by}
use Rattle.scl_reasons.specs.declared.table.TheConstants.{EXPLANATIONS, OTHER}

-- the sentence for a reason that no compiler of this repository gives
abbrev pub other : List ℕ
other = OTHER.now

-- the explanations of every reason that a compiler of this repository gives
unfoldable pub table : List Explained
table = map (λ row. explained_by row.0.now (map (λ reason. reason.now) row.1.now)) EXPLANATIONS.now
