-- Patterns whose texts stand one behind the other.
use Rattle.std.proofs.Common.{◌≡◌, ◌∙◌, ℕ, ◌+◌, ◌<◌, ◌≤◌, List, [], ◌∷◌, ◌++◌, length, take, drop, Result, Ok, Err, append_assoc, refl, sym, ap, subst, arith}
use Rattle.std.proofs.Math.Seq.{take-length}
use Rattle.std.proofs.lemmas.List.{append-nil, drop-append-le, length-append, length-drop, take-append-le}
use Rattle.scl_catalogue.specs.Form.{Pattern}
use Rattle.scl_catalogue.specs.Views.{cut_up}
use Rattle.scl_catalogue.specs.declared.text.Cut.{Cut}
use Rattle.scl_catalogue.specs.declared.text.How.{How}
use Rattle.scl_catalogue_text.specs.Outcome.{StopsAt, after, each}
use Rattle.scl_catalogue_text.specs.Reading.{appended, not_none, pattern_read}
use Rattle.scl_catalogue_text.specs.declared.mistake.Mistake.{Mistake}
use Rattle.scl_catalogue_text.specs.declared.mistake.Stop.{Stop}
use Rattle.scl_catalogue_text.specs.declared.mistake.Stop.TheVariants as stop

-- how many bytes are cut
abbrev pub total : List Cut → ℕ
total [] = 0
total (c ∷ cs) = c.length + total cs

abbrev cut_with : How → List ℕ → Cut
cut_with h t = record { how = h; length = length t }

total-push : (cs : List Cut) (h : How) (t : List ℕ) → total (cs ++ cut_with h t ∷ []) ≡ total cs + length t
total-push [] h t = omega arith
total-push (c ∷ cs) h t = let e = total-push cs h t in omega arith

-- what is appended to texts that are cut to their end is a pattern more
cut-push : (cs : List Cut) (bs : List ℕ) (h : How) (t : List ℕ) → total cs ≡ length bs → cut_up (bs ++ t) (cs ++ cut_with h t ∷ []) ≡ cut_up bs cs ++ record { how = h; text = t } ∷ []
cut-push [] [] h t e = ap (λ (text : List ℕ). record { how = h; text = text } ∷ []) (take-length t)
cut-push [] (b ∷ bs) h t e = absurd (omega arith)
cut-push (c ∷ cs) bs h t e =
    let within : c.length ≤ length bs = omega arith in
    let left = length-drop c.length bs in
    let rest : total cs ≡ length (drop c.length bs) = omega arith in
    let front : take c.length (bs ++ t) ≡ take c.length bs = take-append-le c.length bs t within in
    let behind : drop c.length (bs ++ t) ≡ drop c.length bs ++ t = drop-append-le c.length bs t within in
    rw (front, behind) (ap (λ (ps : List Pattern). record { how = c.how; text = take c.length bs } ∷ ps) (cut-push cs (drop c.length bs) h t rest))

-- what is read so far, and that no byte of it is left over
pub record IsReadSo (bs : List ℕ) (cs : List Cut) (left : Result (List Pattern) Mistake) (all : Result (List Pattern) Mistake) : Type 0 where
  pub whole : total cs ≡ length bs
  pub read : after left (λ more. Ok (cut_up bs cs ++ more)) ≡ all

nothing-before : (r : Result (List Pattern) Mistake) → after r (λ more. Ok ([] ++ more)) ≡ r
nothing-before (Ok ps) = refl
nothing-before (Err m) = refl

pub pattern_first : (r : Result (List Pattern) Mistake) → IsReadSo [] [] r r
pattern_first r = record { whole = refl; read = nothing-before r }

abbrev told : Cut × List ℕ → Result (Cut × List ℕ) Mistake
told p = Ok p

same-pair : (p q : Cut × List ℕ) → told p ≡ told q → p ≡ q
same-pair p q h = cc

one-more : (e : Result (List Pattern) Mistake) (ps : List Pattern) (p : Pattern) → after (after e (λ more. Ok (p ∷ more))) (λ more. Ok (ps ++ more)) ≡ after e (λ more. Ok ((ps ++ p ∷ []) ++ more))
one-more (Ok more) ps p = ap Ok (sym (append_assoc ps (p ∷ []) more))
one-more (Err m) ps p = refl

step : (one : Result Pattern Mistake) (e all : Result (List Pattern) Mistake) (bs new : List ℕ) (cs : List Cut) (c : Cut) → after one (λ p. Ok (appended bs p)) ≡ told (c, new)
    → IsReadSo bs cs (after one (λ p. after e (λ more. Ok (p ∷ more)))) all → IsReadSo new (cs ++ c ∷ []) e all
step (Ok p) e all bs new cs c h so =
    let same : appended bs p ≡ (c, new) = same-pair (appended bs p) (c, new) h in
    let cut : cut_with p.how p.text ≡ c = ap (λ (q : Cut × List ℕ). q.0) same in
    let bytes : bs ++ p.text ≡ new = ap (λ (q : Cut × List ℕ). q.1) same in
    rw (← cut, ← bytes) (record {
      whole = (let t = total-push cs p.how p.text in let l = length-append bs p.text in let w = so.whole in omega arith);
      read = rw (cut-push cs bs p.how p.text so.whole) (sym (one-more e (cut_up bs cs) p) ∙ so.read);
    })
step (Err m) e all bs new cs c h so = cc

pub pattern_step : (xs ys : List (List ℕ)) (w : List ℕ) (all : Result (List Pattern) Mistake) (bs new : List ℕ) (cs after_push : List Cut) (c : Cut) → xs ≡ w ∷ ys → after (pattern_read w) (λ p. Ok (appended bs p)) ≡ Ok (c, new) → after_push ≡ cs ++ c ∷ []
    → IsReadSo bs cs (each pattern_read xs) all → IsReadSo new after_push (each pattern_read ys) all
pattern_step xs ys w all bs new cs after_push c e one pushed so =
    rw pushed (step (pattern_read w) (each pattern_read ys) all bs new cs c one (subst (λ (zs : List (List ℕ)). IsReadSo bs cs (each pattern_read zs) all) e so))

pub pattern_last : (xs : List (List ℕ)) (all : Result (List Pattern) Mistake) (bs : List ℕ) (cs : List Cut) → xs ≡ [] → IsReadSo bs cs (each pattern_read xs) all → all ≡ Ok (cut_up bs cs)
pattern_last xs all bs cs e so =
    let end : after (each pattern_read xs) (λ more. Ok (cut_up bs cs ++ more)) ≡ Ok (cut_up bs cs) = rw e (ap Ok (append-nil (cut_up bs cs))) in
    sym so.read ∙ end

abbrev failed : Mistake → Result (Cut × List ℕ) Mistake
failed m = Err m

same-mistake : (n m : Mistake) → failed n ≡ failed m → n ≡ m
same-mistake n m h = cc

stopped : (s : Stop) (one : Result Pattern Mistake) (e all : Result (List Pattern) Mistake) (bs : List ℕ) (cs : List Cut) → StopsAt s (after one (λ p. Ok (appended bs p)))
    → IsReadSo bs cs (after one (λ p. after e (λ more. Ok (p ∷ more)))) all → StopsAt s all
stopped (stop.Mistake m) (Ok p) e all bs cs h so = cc
stopped (stop.Mistake m) (Err n) e all bs cs h so = sym so.read ∙ ap (λ (k : Mistake). Err k) (same-mistake n m h)
stopped stop.Memory one e all bs cs h so = tt

pub pattern_stop : (s : Stop) (xs ys : List (List ℕ)) (w : List ℕ) (all : Result (List Pattern) Mistake) (bs : List ℕ) (cs : List Cut) → xs ≡ w ∷ ys → StopsAt s (after (pattern_read w) (λ p. Ok (appended bs p)))
    → IsReadSo bs cs (each pattern_read xs) all → StopsAt s all
pattern_stop s xs ys w all bs cs e h so = stopped s (pattern_read w) (each pattern_read ys) all bs cs h (subst (λ (zs : List (List ℕ)). IsReadSo bs cs (each pattern_read zs) all) e so)

pub pattern_some : (all : Result (List Pattern) Mistake) (bs : List ℕ) (cs : List Cut) → all ≡ Ok (cut_up bs cs) → 0 < length cs → after all not_none ≡ Ok (cut_up bs cs)
pattern_some all bs [] e some = absurd (omega arith)
pattern_some all bs (c ∷ cs) e some = rw e refl
