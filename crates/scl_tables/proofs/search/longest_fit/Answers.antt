use Rattle.std.proofs.Common.{◌≡◌, ◌+◌, ◌-◌, ◌<◌, ◌≤◌, List, length, take, nat_eq, false, sym, ◌∙◌, arith, length-take-le}
use Rattle.std.proofs.Math.Nat.{mul-le-mul_left}
use Rattle.std.specs.Ordering.{is_gt}
use Rattle.scl_values.specs.Row.{Row, row_of, fits}
use Rattle.scl_tables.specs.Probes.{bits}
use Rattle.std.specs.List.{common_prefix_len}
use Rattle.std.proofs.lemmas.List.Sums.{common_prefix_len-le}
use Rattle.scl_tables.proofs.OrderLemmas.{cmp, fits_below, fits_shorter, none_fits, other_place, owner_some, shares_less}
use Rattle.scl_tables.proofs.search.longest_fit.Goals as goal

pub returns-then-found-eq0-clause-owner : goal.returns-then-found-eq0-clause-owner
returns-then-found-eq0-clause-owner g c =
    let rows : List (Row g.row.K.Denot) = c.args.rows.now in
    sym (none_fits rows c.args.word.now (λ k d l f.
    let below = fits_below rows c.requires c.args.word.now c.loop-len.len c.rows_up_to-found.result (λ j e h i. c.rows_up_to-found.ensures.above j e h (omega arith)) c.loop-len.invariant.1 k d l f in
    omega arith))

pub returns-then-fits-clause-owner : goal.returns-then-fits-clause-owner
returns-then-fits-clause-owner g c =
    let rows : List (Row g.row.K.Denot) = c.args.rows.now in
    let row : Row g.row.K.Denot = row_of c.look-row.result.now in
    let not : is_gt (cmp row.flag (take c.loop-len.len c.args.word.now)) ≡ false = rw (c.look-row.ensures.row row) at (c.rows_up_to-found.ensures.below (c.rows_up_to-found.result - 1) row (omega arith)) in
    sym (owner_some rows c.args.word.now (c.rows_up_to-found.result - 1) row (omega (arith, c.rows_up_to-found.ensures.bound)) c.look-row.ensures.row (sym c.fits.ensures ∙ c.if-fits.true)
    (λ k d l ne f. (fits_shorter rows c.requires c.args.word.now c.loop-len.len c.rows_up_to-found.result (λ j e h i. c.rows_up_to-found.ensures.above j e h (omega arith)) c.loop-len.invariant.1
    (c.rows_up_to-found.result - 1) row (omega arith) (omega (arith, c.rows_up_to-found.ensures.bound)) c.look-row.ensures.row not k d l ne f).1))

pub loop-len-smaller-then-shared-flag : goal.loop-len-smaller-then-shared-flag
loop-len-smaller-then-shared-flag g c =
    let row : Row g.row.K.Denot = row_of c.look-row.result.now in
    let not : is_gt (cmp row.flag (take c.loop-len.len c.args.word.now)) ≡ false = rw (c.look-row.ensures.row row) at (c.rows_up_to-found.ensures.below (c.rows_up_to-found.result - 1) row (omega arith)) in
    let less = rw (c.as_bytes-flag.ensures.value, c.flag.ensures) at c.if-shared-flag.true in
    let shared : c.common_len-shared.result ≡ common_prefix_len nat_eq row.flag (take c.loop-len.len c.args.word.now) = rw (← c.flag.ensures, ← c.as_bytes-flag.ensures.value) c.common_len-shared.ensures in
    let all = shares_less row.flag (take c.loop-len.len c.args.word.now) not (omega (arith, less, shared)) in
    omega (arith, all, shared, length-take-le c.loop-len.len c.args.word.now)

pub loop-len-preserved-then-shared-flag : goal.loop-len-preserved-then-shared-flag
loop-len-preserved-then-shared-flag g c =
    let rows : List (Row g.row.K.Denot) = c.args.rows.now in
    let row : Row g.row.K.Denot = row_of c.look-row.result.now in
    let inv = c.loop-len.invariant in
    let smaller : c.common_len-shared.result < c.loop-len.len = loop-len-smaller-then-shared-flag g c in
    let not : is_gt (cmp row.flag (take c.loop-len.len c.args.word.now)) ≡ false = rw (c.look-row.ensures.row row) at (c.rows_up_to-found.ensures.below (c.rows_up_to-found.result - 1) row (omega arith)) in
    let shared : c.common_len-shared.result ≡ common_prefix_len nat_eq row.flag (take c.loop-len.len c.args.word.now) = rw (← c.flag.ensures, ← c.as_bytes-flag.ensures.value) c.common_len-shared.ensures in
    let unfit : fits row c.args.word.now ≡ false = sym c.fits.ensures ∙ c.if-fits.false in (
      omega (arith, inv.0, smaller),
      λ k d l f.
          let both = fits_shorter rows c.requires c.args.word.now c.loop-len.len c.rows_up_to-found.result (λ j e h i. c.rows_up_to-found.ensures.above j e h (omega arith)) inv.1
          (c.rows_up_to-found.result - 1) row (omega arith) (omega (arith, c.rows_up_to-found.ensures.bound)) c.look-row.ensures.row not k d l (other_place rows c.args.word.now (c.rows_up_to-found.result - 1) row c.look-row.ensures.row unfit k d f) f in
          omega (arith, both.0, shared),
      omega (arith, inv.2, c.rows_up_to-found.ensures.count.keeps, c.look-row.ensures.count.keeps),
      omega (
        arith,
        inv.3,
        c.rows_up_to-found.ensures.count.most,
        c.look-row.ensures.count.most,
        mul-le-mul_left (bits (length c.args.rows.now) + 1) (let step : c.common_len-shared.result + 2 ≤ c.loop-len.len + 1 = omega (arith, smaller) in step),
      ),
    )

pub returns-then-shared-eq0-clause-owner : goal.returns-then-shared-eq0-clause-owner
returns-then-shared-eq0-clause-owner g c =
    let rows : List (Row g.row.K.Denot) = c.args.rows.now in
    let row : Row g.row.K.Denot = row_of c.look-row.result.now in
    let not : is_gt (cmp row.flag (take c.loop-len.len c.args.word.now)) ≡ false = rw (c.look-row.ensures.row row) at (c.rows_up_to-found.ensures.below (c.rows_up_to-found.result - 1) row (omega arith)) in
    let unfit : fits row c.args.word.now ≡ false = sym c.fits.ensures ∙ c.if-fits.false in
    let within = rw (c.as_bytes-flag.ensures.value, c.flag.ensures) at c.if-shared-flag.false in
    sym (none_fits rows c.args.word.now (λ k d l f.
    let both = fits_shorter rows c.requires c.args.word.now c.loop-len.len c.rows_up_to-found.result (λ j e h i. c.rows_up_to-found.ensures.above j e h (omega arith)) c.loop-len.invariant.1
    (c.rows_up_to-found.result - 1) row (omega arith) (omega (arith, c.rows_up_to-found.ensures.bound)) c.look-row.ensures.row not k d l (other_place rows c.args.word.now (c.rows_up_to-found.result - 1) row c.look-row.ensures.row unfit k d f) f in
    omega (arith, both.1, within, c.if-shared-eq0.true)))

pub loop-len-smaller : goal.loop-len-smaller
loop-len-smaller g c =
    let all = common_prefix_len-le nat_eq c.as_bytes-flag.result.now (take c.loop-len.len c.args.word.now) in
    omega (arith, all.1, c.common_len-shared.ensures, length-take-le c.loop-len.len c.args.word.now)

pub loop-len-preserved : goal.loop-len-preserved
loop-len-preserved g c =
    let rows : List (Row g.row.K.Denot) = c.args.rows.now in
    let row : Row g.row.K.Denot = row_of c.look-row.result.now in
    let inv = c.loop-len.invariant in
    let smaller : c.common_len-shared.result - 1 < c.loop-len.len = loop-len-smaller g c in
    let not : is_gt (cmp row.flag (take c.loop-len.len c.args.word.now)) ≡ false = rw (c.look-row.ensures.row row) at (c.rows_up_to-found.ensures.below (c.rows_up_to-found.result - 1) row (omega arith)) in
    let unfit : fits row c.args.word.now ≡ false = sym c.fits.ensures ∙ c.if-fits.false in
    let within = rw (c.as_bytes-flag.ensures.value, c.flag.ensures) at c.if-shared-flag.false in (
      omega (arith, inv.0, smaller),
      λ k d l f.
          let both = fits_shorter rows c.requires c.args.word.now c.loop-len.len c.rows_up_to-found.result (λ j e h i. c.rows_up_to-found.ensures.above j e h (omega arith)) inv.1
          (c.rows_up_to-found.result - 1) row (omega arith) (omega (arith, c.rows_up_to-found.ensures.bound)) c.look-row.ensures.row not k d l (other_place rows c.args.word.now (c.rows_up_to-found.result - 1) row c.look-row.ensures.row unfit k d f) f in
          omega (arith, both.1, within),
      omega (arith, inv.2, c.rows_up_to-found.ensures.count.keeps, c.look-row.ensures.count.keeps),
      omega (
        arith,
        inv.3,
        c.rows_up_to-found.ensures.count.most,
        c.look-row.ensures.count.most,
        mul-le-mul_left (bits (length c.args.rows.now) + 1) (let step : (c.common_len-shared.result - 1) + 2 ≤ c.loop-len.len + 1 = omega (arith, smaller) in step),
      ),
    )
