-- A parameter that the body passes on for good: at the return, what is had of it is what the callee's contract says of its last value.
use Prim.Native.Nat.{ℕ}
use seplogic.Ra.Ura.{Ura}
use types.Logic.{Logic}
use denote.Exit.{Kept, left}
use denote.Signature.{Slot}
use denote.Triple.Walked.{Stay, Goes}

abbrev pub stay_left : {n : ℕ} (s : Slot n) (k : Kept) → Stay s k
stay_left s k = record { fit = λ κs x w. Unit {0}; has = λ κs x w vs. left ((s.row κs).exit k) x w }

pub Goes-left : {M : Type 1} {𝓤 : Ura M} (𝓛 : Logic 𝓤) (n : ℕ) (s : Slot n) (k : Kept) → Goes 𝓛 n s k (stay_left s k)
Goes-left 𝓛 n s k κs x w vs ok = 𝓛.laws.⇛_intro _
