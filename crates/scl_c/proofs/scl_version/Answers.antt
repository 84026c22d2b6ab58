use Rattle.std.proofs.Common.{◌≡◌, arith, codes, refl, subst, sym}
use Rattle.std.proofs.lemmas.Fmt.{decimal_digit}
use Rattle.scl_description.specs.Rows.{lone, row_entry}
use Rattle.scl_c.proofs.scl_version.Goals as goal

pub returns : goal.returns
returns c = subst (λ digits. row_entry (codes "version") (lone (codes "1")) ≡ row_entry (codes "version") (lone digits)) (sym (decimal_digit 1 (omega arith))) refl
