-- A prefix of words, appended to others.
use Rattle.std.proofs.Common.{◌≡◌, ℕ, ◌+◌, ◌-◌, ◌≤◌, List, ◌++◌, Result, Ok, Err, OnErr, ap, sym, ◌∙◌, length, take, arith}
use Rattle.std.proofs.lemmas.Grind.{common_steps}
use Rattle.std.proofs.Math.Seq.{take-append_seam, take-append-add}
use Rattle.scl_args.specs.Wrapped.{HasFirstOf}

-- what holds anyway holds if there is an error
pub if-err : {T E P : Type 0} (r : Result T E) → P → OnErr r P
if-err (Ok value) holds = tt
if-err (Err error) holds = holds

pub put-first : {T E : Type 0} (r : Result T E) (before others after : List (List ℕ)) (n : ℕ) → after ≡ before ++ take n others → OnErr r (HasFirstOf before others after)
put-first r before others after n e = if-err {P = HasFirstOf before others after} r (n, e)

-- appending gives no fewer words
pub no-fewer : (before middle each after : List (List ℕ)) → length before ≤ length middle → after ≡ middle ++ each → length before ≤ length after
no-fewer before middle each after longer e = grind (arith, common_steps, longer, e)

-- a prefix that has at least the words from before
pub first-of : (before others after left : List (List ℕ)) → after ++ left ≡ before ++ others → length before ≤ length after → HasFirstOf before others after
first-of before others after left e longer =
    let n = length after - length before in
    let len : length after ≡ length before + n = grind (arith, common_steps, longer) in
    (n, sym (take-append_seam after left) ∙ ap (λ ws. take (length after) ws) e ∙ ap (λ k. take k (before ++ others)) len ∙ take-append-add before others n)
