-- Who owns the memory behind a handle.
use Rattle.std.specs.Prelude.{ℕ, ℤ, zero, suc, pos, List, ◌≡◌, Ok}
use lib.IntN.{negsuc}
use base.Fraction.{full_share}
use base.Fml.{Fml, Lft, Share, ftrue, fsep, flft, flent, fex}
use mir.Raw.{raw}
use denote.Memory.{lone}
use denote.RawPtr.{Ptr, lies_at}
use denote.Struct.Lending.{lent_at}
use Rattle.std.specs.Global.{Global}
use Rattle.std.specs.contracts.impls.GlobalAllocator.TheImpl.{ghosts}
use Rattle.std.specs.Box.Ownership.{box_owns}
use Rattle.scl_catalogue.specs.Views.{catalogue_of}
use Rattle.scl_catalogue.specs.declared.catalogue.Catalogue.{Catalogue}
use Rattle.scl_catalogue.specs.contracts.catalogue.Catalogue.{the_row}
use Rattle.scl_catalogue_default.specs.Over.{read_over}

-- the block at the pointer holds this catalogue, and who owns this may free it
abbrev pub owned : Global → Ptr → Catalogue → Fml
owned alloc p catalogue = box_owns (ghosts.dealloc_token alloc) the_row p catalogue

-- the catalogue at the pointer may be read: it is lent for a lifetime, of which this is a share
abbrev pub lease : Lft × Share → Ptr → Catalogue → Fml
lease l p catalogue = fsep (lent_at the_row p catalogue l.0) (flft l.0 l.1)

-- what the lender has meanwhile: the catalogue again when the lifetime has ended, and the right to free it
abbrev pub due : Lft → Global → Ptr → Catalogue → Fml
due κ alloc p catalogue = fsep (flent κ (lies_at the_row full_share p catalogue)) (ghosts.dealloc_token alloc (raw (lone the_row.mir)) p)

-- a catalogue that is read of a text over the built-in one
pub record Made (text : List ℕ) : Type 0 where
  pub catalogue : Catalogue
  pub is_read : read_over text ≡ Ok (catalogue_of catalogue)

-- where the status is 0 the block at the pointer holds such a catalogue, and else nothing is handed out
abbrev pub handed : Global → List ℕ → Ptr → ℤ → Fml
handed alloc text p (pos zero) = fex (Made text) (λ made. owned alloc p made.catalogue)
handed alloc text p (pos (suc n)) = ftrue
handed alloc text p (negsuc n) = ftrue
