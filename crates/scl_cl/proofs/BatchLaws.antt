-- Batches, read line by line.
use Rattle.std.proofs.Common.{◌≡◌, ℕ, ◌+◌, ◌-◌, ◌<◌, ◌≤◌, ◌^◌, Bool, true, false, cond, List, [], ◌∷◌, ◌++◌, codes, length, take, drop, Option, Some, None, IfSome, Result, Ok, Err, refl, ap, sym, subst, ◌∙◌, append-nil, append_assoc, nat_eq, is_some, arith, inl, inr, length-drop, take-append-drop}
use Rattle.std.specs.List.{flat_map, onto_first}
use Rattle.std.specs.Str.{bytes_eq}
use Rattle.std.specs.Io.KnownBytes.{Appends, Consumes, IsAtEnd}
use Rattle.std.proofs.Math.Seq.{drop-append_seam, take-append_seam, take-length}
use Rattle.std.proofs.lemmas.Grind.{flat_map-append}
use Rattle.std.proofs.lemmas.List.{length-append, length-take-le}
use Rattle.scl_description.specs.Lines.{cut_at, with_first, line, lines_of}
use Rattle.scl_description.proofs.CutLaws.{cut_at-append, cut_at-shorter, lines_of-cut, lines_of-only}
use Rattle.scl_cl.specs.Batches.{requests_of, told, AreTold, AreToldBegun, AreToldBroken, Stays, LosesLine, HadNone, TakesLine, ReadsMore}
use Rattle.std.specs.declared.alloc.Global.{Global}
use Rattle.std.specs.Prelude.{Vec}
use Rattle.scl_devices.specs.Counts.{one_more}
use Rattle.scl_cl.specs.declared.batch.Stop.{Stop}
use Rattle.scl_cl.specs.declared.batch.Stop.TheVariants as stops
use Rattle.scl_cl.specs.declared.transfer.ReadError.{ReadError}
use Rattle.scl_cl.specs.declared.transfer.ReadError.TheVariants as read_errors
use Rattle.scl_cl.specs.BatchesGiven.{before_requests, Steps, Ends, Fits, Owes, IsTold, IsToldPart, TakesIn, TakesEnd, Served, BatchEnds, LastOf, StopsBy}

-- ---- lines of what is left

abbrev parts : List ℕ → List ℕ → Option (List ℕ × List ℕ)
parts a b = Some (a, b)

abbrev more_behind : List ℕ → Option (List ℕ × List ℕ) → Option (List ℕ × List ℕ)
more_behind r None = None
more_behind r (Some p) = Some (p.0, p.1 ++ r)

first-more : (b : ℕ) (r : List ℕ) (o : Option (List ℕ × List ℕ)) → with_first b (more_behind r o) ≡ more_behind r (with_first b o)
first-more b r None = refl
first-more b r (Some p) = refl

some-first : (b : ℕ) (o : Option (List ℕ × List ℕ)) → is_some (with_first b o) ≡ is_some o
some-first b None = refl
some-first b (Some p) = refl

first-none : (b : ℕ) (o : Option (List ℕ × List ℕ)) → with_first b o ≡ None → o ≡ None
first-none b None e = refl
first-none b (Some p) e = absurd (cc)

-- what comes before a mark stays if more bytes follow
cut-more : (m : ℕ) (xs r : List ℕ) → is_some (cut_at m xs) ≡ true → cut_at m (xs ++ r) ≡ more_behind r (cut_at m xs)
cut-more m [] r h = absurd (let no : true ≡ false = sym h in cc)
cut-more m (x ∷ xs) r h =
    elim (nat_eq x m) as (λ v. is_some (cond v (parts [] xs) (with_first x (cut_at m xs))) ≡ true
    → cond v (parts [] (xs ++ r)) (with_first x (cut_at m (xs ++ r))) ≡ more_behind r (cond v (parts [] xs) (with_first x (cut_at m xs))))
    [ true ↦ λ e. refl | false ↦ λ e. ap (with_first x) (cut-more m xs r (sym (some-first x (cut_at m xs)) ∙ e)) ∙ first-more x r (cut_at m xs) ] h

lines-more : (xs r text rest : List ℕ) → cut_at 10 xs ≡ parts text rest → lines_of (xs ++ r) ≡ text ∷ lines_of (rest ++ r)
lines-more xs r text rest h = lines_of-cut (xs ++ r) text (rest ++ r) (cut-more 10 xs r (ap is_some h) ∙ ap (more_behind r) h)

-- if there is no mark in front, the first mark is in what follows
cut-behind : (m : ℕ) (xs ys front rest : List ℕ) → cut_at m xs ≡ None → cut_at m ys ≡ parts front rest → cut_at m (xs ++ ys) ≡ parts (xs ++ front) rest
cut-behind m [] ys front rest n e = e
cut-behind m (x ∷ xs) ys front rest n e =
    elim (nat_eq x m) as (λ v. cond v (parts [] xs) (with_first x (cut_at m xs)) ≡ None → cond v (parts [] (xs ++ ys)) (with_first x (cut_at m (xs ++ ys))) ≡ parts (x ∷ xs ++ front) rest) [
      | true ↦ λ k. absurd (cc)
      | false ↦ λ k. ap (with_first x) (cut-behind m xs ys front rest (first-none x (cut_at m xs) k) e)
    ] n

-- the part before a mark
abbrev front-of : Option (List ℕ × List ℕ) → List ℕ
front-of None = []
front-of (Some p) = p.0

abbrev rest-of : Option (List ℕ × List ℕ) → List ℕ
rest-of None = []
rest-of (Some p) = p.1

some-parts : (o : Option (List ℕ × List ℕ)) (b : ℕ) (front rest : List ℕ) → with_first b o ≡ parts front rest → o ≡ parts (front-of o) rest
some-parts None b front rest e = absurd (cc)
some-parts (Some p) b front rest e = ap (λ r. parts p.0 r) (ap rest-of e)

some-front : (o : Option (List ℕ × List ℕ)) (b : ℕ) (front rest : List ℕ) → with_first b o ≡ parts front rest → b ∷ front-of o ≡ front
some-front None b front rest e = absurd (cc)
some-front (Some p) b front rest e = ap front-of e

cut-is : (m : ℕ) (xs front rest : List ℕ) → cut_at m xs ≡ parts front rest → (mark : ℕ) × (xs ≡ front ++ mark ∷ rest)
cut-is m [] front rest e = absurd (cc)
cut-is m (x ∷ xs) front rest e =
    elim (nat_eq x m) as (λ v. cond v (parts [] xs) (with_first x (cut_at m xs)) ≡ parts front rest → (mark : ℕ) × (x ∷ xs ≡ front ++ mark ∷ rest)) [
      | true ↦ λ k. (x, ap (λ r. x ∷ r) (ap rest-of k) ∙ ap (λ f. f ++ x ∷ rest) (ap front-of k))
      | false ↦ λ k.
          let more = cut-is m xs (front-of (cut_at m xs)) rest (some-parts (cut_at m xs) x front rest k) in
          (more.0, ap (λ ys. x ∷ ys) more.1 ∙ ap (λ f. f ++ more.0 ∷ rest) (some-front (cut_at m xs) x front rest k))
    ] e

-- what a slice to the end takes
pub slice-all : (n : ℕ) (xs : List ℕ) → take (length xs - n) (drop n xs) ≡ drop n xs
slice-all n xs = subst (λ k. take k (drop n xs) ≡ drop n xs) (length-drop n xs) (take-length (drop n xs))

-- if bytes end with these, that end follows the others
joined : (a b : List ℕ) (m : ℕ) (rest : List ℕ) → a ++ (b ++ m ∷ rest) ≡ (a ++ (b ++ m ∷ [])) ++ rest
joined [] [] m rest = refl
joined [] (x ∷ b) m rest = ap (λ t. x ∷ t) (joined [] b m rest)
joined (x ∷ a) b m rest = ap (λ t. x ∷ t) (joined a b m rest)

ends-so : (xs rest : List ℕ) → drop (length (xs ++ rest) - length rest) (xs ++ rest) ≡ rest
ends-so xs rest =
    let long : length (xs ++ rest) ≡ length xs + length rest = length-append xs rest in
    let less : length (xs ++ rest) - length rest ≡ length xs = omega arith in
    rw less (drop-append_seam xs rest)

ends-behind : (bytes a left b rest : List ℕ) (m : ℕ) → bytes ≡ a ++ left → left ≡ b ++ m ∷ rest → (drop (length bytes - length rest) bytes ≡ rest) × (length rest ≤ length bytes)
ends-behind bytes a left b rest m e f =
    let all : bytes ≡ (a ++ (b ++ m ∷ [])) ++ rest = e ∙ ap (λ xs. a ++ xs) f ∙ joined a b m rest in
    let long : length ((a ++ (b ++ m ∷ [])) ++ rest) ≡ length (a ++ (b ++ m ∷ [])) + length rest = length-append (a ++ (b ++ m ∷ [])) rest in
    let same : length bytes ≡ length ((a ++ (b ++ m ∷ [])) ++ rest) = ap length all in
    (subst (λ bs. drop (length bs - length rest) bs ≡ rest) (sym all) (ends-so (a ++ (b ++ m ∷ [])) rest), omega arith)

begins-so : (left b rest : List ℕ) (m : ℕ) → left ≡ b ++ m ∷ rest → (take (length b) left ≡ b) × (length b ≤ length left)
begins-so left b rest m f =
    let long : length (b ++ m ∷ rest) ≡ length b + length (m ∷ rest) = length-append b (m ∷ rest) in
    let same : length left ≡ length (b ++ m ∷ rest) = ap length f in
    (subst (λ xs. take (length b) xs ≡ b) (sym f) (take-append_seam b (m ∷ rest)), omega arith)

-- the first line, if none ends in the first `searched` bytes
module _ (bytes : List ℕ) (begin searched : ℕ) (within : searched ≤ length (drop begin bytes)) (none : cut_at 10 (take searched (drop begin bytes)) ≡ None) where
  abbrev left : List ℕ
  left = drop begin bytes

  whole : take searched left ++ drop searched left ≡ left
  whole = take-append-drop searched left

  pub first-lacks : cut_at 10 (drop searched left) ≡ None → cut_at 10 left ≡ None
  first-lacks n = subst (λ xs. cut_at 10 xs ≡ None) whole (cut_at-append 10 (take searched left) (drop searched left) none n)

  first-cut : (front rest : List ℕ) → cut_at 10 (drop searched left) ≡ parts front rest → cut_at 10 left ≡ parts (take searched left ++ front) rest
  first-cut front rest e = subst (λ xs. cut_at 10 xs ≡ parts (take searched left ++ front) rest) whole (cut-behind 10 (take searched left) (drop searched left) front rest none e)

  first-long : (front : List ℕ) → length (take searched left ++ front) ≡ searched + length front
  first-long front = length-append (take searched left) front ∙ ap (λ n. n + length front) (length-take-le searched left within)

  pub first-fits : (front rest : List ℕ) → cut_at 10 (drop searched left) ≡ parts front rest → searched + length front ≤ length left
  first-fits front rest e =
      let is = cut-is 10 left (take searched left ++ front) rest (first-cut front rest e) in
      subst (λ n. n ≤ length left) (first-long front) (begins-so left (take searched left ++ front) rest is.0 is.1).1

  pub rest-fits : (front rest : List ℕ) → cut_at 10 (drop searched left) ≡ parts front rest → length rest ≤ length bytes
  rest-fits front rest e =
      let is = cut-is 10 left (take searched left ++ front) rest (first-cut front rest e) in
      (ends-behind bytes (take begin bytes) left (take searched left ++ front) rest is.0 (sym (take-append-drop begin bytes)) is.1).1

  pub first-line : (front rest : List ℕ) → cut_at 10 (drop searched left) ≡ parts front rest
      → cut_at 10 left ≡ parts (take (searched + length front) left) (drop (length bytes - length rest) bytes)
  first-line front rest e =
      let is = cut-is 10 left (take searched left ++ front) rest (first-cut front rest e) in
      let ends = (ends-behind bytes (take begin bytes) left (take searched left ++ front) rest is.0 (sym (take-append-drop begin bytes)) is.1).0 in
      let begins = subst (λ n. take n left ≡ take searched left ++ front) (first-long front) (begins-so left (take searched left ++ front) rest is.0 is.1).0 in
      first-cut front rest e ∙ ap (λ f. parts f rest) (sym begins) ∙ ap (λ r. parts (take (searched + length front) left) r) (sym ends)

pub stays-on : (a b c : Option (List ℕ)) (p q s : List ℕ) → Stays a b p q → Stays b c q s → Stays a c p s
stays-on None b c p q s h k = tt
stays-on (Some x) None c p q s h k = absurd h
stays-on (Some x) (Some y) None p q s h k = absurd k
stays-on (Some x) (Some y) (Some z) p q s h k = h ∙ k

length-on : (x y : List ℕ) → length (x ++ y) ≡ length x + length y
length-on x y = length-append x y

-- a line was taken of what is left
pub takes-line : (old new : Option (List ℕ)) (pending pending' text rest : List ℕ) → Stays old new pending pending' → cut_at 10 pending' ≡ parts text rest → LosesLine old new pending rest text
takes-line None new pending pending' text rest h k = tt
takes-line (Some r) None pending pending' text rest h k = h
takes-line (Some r) (Some r') pending pending' text rest h k =
    let shorter : length rest < length pending' = cut_at-shorter 10 pending' (text, rest) k in
    let all : length (pending ++ r) ≡ length (pending' ++ r') = ap length h in
    let one = length-on pending' r' in
    let two = length-on rest r' in
    (ap lines_of h ∙ lines-more pending' r' text rest k, omega arith)

-- the last line, without its LF
pub takes-last : (old new : Option (List ℕ)) (pending pending' : List ℕ) → Stays old new pending pending' → IsAtEnd new → cut_at 10 pending' ≡ None → 0 < length pending' → LosesLine old new pending [] pending'
takes-last None new pending pending' h end none some = tt
takes-last (Some r) None pending pending' h end none some = h
takes-last (Some r) (Some r') pending pending' h end none some =
    let all : length (pending ++ r) ≡ length (pending' ++ r') = ap length h in
    let one = length-on pending' r' in
    let no : length r' ≡ 0 = ap length end in (
      ap lines_of (h ∙ ap (λ x. pending' ++ x) end ∙ append-nil pending') ∙ lines_of-only pending' some none ∙ ap (λ x. pending' ∷ lines_of x) (sym end),
      omega arith,
    )

pub takes-none : (old new : Option (List ℕ)) (pending pending' : List ℕ) → Stays old new pending pending' → IsAtEnd new → pending' ≡ [] → HadNone old pending
takes-none None new pending pending' h end none = tt
takes-none (Some r) None pending pending' h end none = absurd h
takes-none (Some r) (Some r') pending pending' h end none = h ∙ ap (λ x. pending' ++ x) end ∙ append-nil pending' ∙ none

-- ---- the lines of a request

before-more : (so_far : List (List ℕ)) (text : List ℕ) (requests : List (List (List ℕ))) → before_requests (so_far ++ text ∷ []) requests ≡ before_requests so_far (onto_first text requests)
before-more [] text requests = refl
before-more (l ∷ ls) text requests = ap (onto_first l) (before-more ls text requests)

before-ended : (so_far : List (List ℕ)) (requests : List (List (List ℕ))) → before_requests so_far ([] ∷ requests) ≡ so_far ∷ requests
before-ended [] requests = refl
before-ended (l ∷ ls) requests = ap (onto_first l) (before-ended ls requests)

before-none : (l : List ℕ) (ls : List (List ℕ)) → before_requests (l ∷ ls) [] ≡ (l ∷ ls) ∷ []
before-none l [] = refl
before-none l (k ∷ ls) = ap (onto_first l) (before-none k ls)

-- a line of a request
pub steps-on : (answers : List ℕ → Result (List ℕ) ℕ → Type 0) (text request : List ℕ) → bytes_eq text (codes "end") ≡ false → Steps answers text request (request ++ line text) []
steps-on answers text request other so_far is = (
  so_far ++ text ∷ [],
  ap (λ r. r ++ line text) is ∙ ap (λ l. flat_map line so_far ++ l) (sym (append-nil (line text))) ∙ sym (flat_map-append line so_far (text ∷ [])),
  [],
  refl,
  λ lines. ap (λ b. before_requests so_far (cond b ([] ∷ requests_of lines) (onto_first text (requests_of lines)))) other ∙ sym (before-more so_far text (requests_of lines)),
)

-- the line that ends a request
ends-here : (so_far lines : List (List ℕ)) (text : List ℕ) → bytes_eq text (codes "end") ≡ true → before_requests so_far (requests_of (text ∷ lines)) ≡ so_far ∷ requests_of lines
ends-here so_far lines text ended =
    ap (λ b. before_requests so_far (cond b ([] ∷ requests_of lines) (onto_first text (requests_of lines)))) ended ∙ before-ended so_far (requests_of lines)

pub steps-end : (answers : List ℕ → Result (List ℕ) ℕ → Type 0) (text request : List ℕ) (said : Result (List ℕ) ℕ) → bytes_eq text (codes "end") ≡ true → answers request said → Steps answers text request [] (told said)
steps-end answers text request said ended answer so_far is = (
  [],
  refl,
  so_far ∷ [],
  (said, [], subst (λ bytes. answers bytes said) is answer, sym (append-nil (told said)), refl),
  λ lines. ends-here so_far lines text ended,
)

-- the end after a request's lines
pub ends-none : (answers : List ℕ → Result (List ℕ) ℕ → Type 0) (request : List ℕ) → request ≡ [] → Ends answers request []
ends-none answers request none [] is = refl
ends-none answers request none (l ∷ ls) is = absurd (no-line l (flat_map line ls) (sym none ∙ is)) where
  no-line : (l more : List ℕ) → [] ≡ line l ++ more → ⊥
  no-line [] more e = cc
  no-line (b ∷ bs) more e = cc

pub ends-one : (answers : List ℕ → Result (List ℕ) ℕ → Type 0) (request : List ℕ) (said : Result (List ℕ) ℕ) → (request ≡ [] → ⊥) → answers request said → Ends answers request (told said)
ends-one answers request said some answer [] is = absurd (some is)
ends-one answers request said some answer (l ∷ ls) is =
    subst (λ requests. AreTold answers requests (told said)) (sym (before-none l ls))
    (said, [], subst (λ bytes. answers bytes said) is answer, sym (append-nil (told said)), refl)

-- ---- what the code gives, by how it ends

pub told-takes : (answers : List ℕ → Result (List ℕ) ℕ → Type 0) (text request moved request' : List ℕ) (old new : Option (List ℕ)) (before after : ℕ) (r : Result (Unit {0}) Stop)
    → moved ≡ request → request' ≡ [] → bytes_eq text (codes "end") ≡ true → IsTold (answers moved) old new before after r → TakesIn answers text request request' old new before after r
told-takes answers text request moved request' old new before after (Ok done) m e ended h = (
  told h.0,
  subst (λ now. Steps answers text request now (told h.0)) (sym e) (steps-end answers text request h.0 ended (subst (λ bytes. answers bytes h.0) m h.1)),
  h.2,
  h.3,
)
told-takes answers text request moved request' old new before after (Err stops.Memory) m e ended h = h
told-takes answers text request moved request' old new before after (Err stops.Read) m e ended h = h
told-takes answers text request moved request' old new before after (Err stops.Write) m e ended h = (ended, subst (λ bytes. IsToldPart (answers bytes) old new) m h.0, h.1)

pub told-ends : (answers : List ℕ → Result (List ℕ) ℕ → Type 0) (request : List ℕ) (old new : Option (List ℕ)) (before after : ℕ) (r : Result (Unit {0}) Stop)
    → (request ≡ [] → ⊥) → IsTold (answers request) old new before after r → TakesEnd answers request old new before after r
told-ends answers request old new before after (Ok done) some h = (told h.0, ends-one answers request h.0 some h.1, h.2, h.3)
told-ends answers request old new before after (Err stops.Memory) some h = h
told-ends answers request old new before after (Err stops.Read) some h = h
told-ends answers request old new before after (Err stops.Write) some h = (some, h.0, h.1)

-- the end was reached
pub takes-end : (old new : Option (List ℕ)) (p0 p p' : List ℕ) (before after : ℕ) (o : Option (Vec ℕ Global)) → Stays old new p0 p → IsAtEnd new → cut_at 10 p ≡ None → after ≡ before → LastOf p p' o
    → TakesLine old new p0 p' before after (Ok o)
takes-end old new p0 p p' before after None stays end none same last = (takes-none old new p0 p stays end last, end, same)
takes-end old new p0 p p' before after (Some text) stays end none same last =
    (subst (λ t. LosesLine old new p0 p' t) (sym last.0) (subst (λ q. LosesLine old new p0 q p) (sym last.1) (takes-last old new p0 p stays end none last.2)), same)

-- ---- the whole batch

pub appends-on : (a b c : Option (List ℕ)) (first last : List ℕ) → Appends a b first → Appends b c last → Appends a c (first ++ last)
appends-on None b c first last h k = tt
appends-on (Some x) None c first last h k = absurd h
appends-on (Some x) (Some y) None first last h k = k
appends-on (Some x) (Some y) (Some z) first last h k = k ∙ ap (λ t. t ++ last) h ∙ append_assoc x first last

pub appends-none : (a : Option (List ℕ)) → Appends a a []
appends-none None = tt
appends-none (Some x) = sym (append-nil x)

-- what is written for requests, and for more after them
pub told-on : (answers : List ℕ → Result (List ℕ) ℕ → Type 0) (done more : List (List (List ℕ))) (written next : List ℕ) → AreTold answers done written → AreTold answers more next → AreTold answers (done ++ more) (written ++ next)
told-on answers [] more written next h k = subst (λ w. AreTold answers more (w ++ next)) (sym h) k
told-on answers (lines ∷ done) more written next h k =
    (h.0, h.1 ++ next, h.2, ap (λ w. w ++ next) h.3 ∙ append_assoc (told h.0) h.1 next, told-on answers done more h.1 next h.4 k)

module _ (answers : List ℕ → Result (List ℕ) ℕ → Type 0) where
  owes-less : (all now now' : Option (List ℕ)) (pending pending' text request request' written more : List ℕ) → Owes answers all now pending request written
      → LosesLine now now' pending pending' text → Steps answers text request request' more → Owes answers all now' pending' request' (written ++ more)
  owes-less None now now' pending pending' text request request' written more owes loses steps = let step = steps owes.0 owes.1 in (step.0, step.1)
  owes-less (Some r0) None now' pending pending' text request request' written more owes loses steps = absurd owes
  owes-less (Some r0) (Some r) None pending pending' text request request' written more owes loses steps = absurd loses
  owes-less (Some r0) (Some r) (Some r') pending pending' text request request' written more owes loses steps =
      let step = steps owes.0 owes.1 in (
        step.0,
        step.1,
        owes.2 ++ step.2,
        told-on answers owes.2 step.2 written more owes.3 step.3,
        owes.4 ∙ ap (λ lines. owes.2 ++ before_requests owes.0 (requests_of lines)) loses.0 ∙ ap (λ requests. owes.2 ++ requests) (step.4 (lines_of (pending' ++ r')))
            ∙ sym (append_assoc owes.2 step.2 (before_requests step.0 (requests_of (lines_of (pending' ++ r'))))),
      )

  fits-less : (all now now' : Option (List ℕ)) (pending pending' text : List ℕ) (lines : ℕ) → Fits all now pending lines → LosesLine now now' pending pending' text → Fits all now' pending' (lines + 1)
  fits-less None now now' pending pending' text lines fits loses = tt
  fits-less (Some r0) None now' pending pending' text lines fits loses = absurd fits
  fits-less (Some r0) (Some r) None pending pending' text lines fits loses = absurd loses
  fits-less (Some r0) (Some r) (Some r') pending pending' text lines fits loses = let less = loses.1 in omega arith

  owes-none : (all now : Option (List ℕ)) (pending request written more : List ℕ) → Owes answers all now pending request written
      → HadNone now pending → Ends answers request more → IfSome all (λ bytes. AreTold answers (requests_of (lines_of bytes)) (written ++ more))
  owes-none None now pending request written more owes none ends = tt
  owes-none (Some r0) None pending request written more owes none ends = absurd owes
  owes-none (Some r0) (Some r) pending request written more owes none ends =
      subst (λ requests. AreTold answers requests (written ++ more)) (sym (owes.4 ∙ ap (λ bytes. owes.2 ++ before_requests owes.0 (requests_of (lines_of bytes))) none))
      (told-on answers owes.2 (before_requests owes.0 []) written more owes.3 (ends owes.0 owes.1))

  -- ---- a batch that ends early

  owes-begun : (all now : Option (List ℕ)) (pending request written : List ℕ) → Owes answers all now pending request written
      → IfSome all (λ bytes. (done left : List (List (List ℕ))) × (requests_of (lines_of bytes) ≡ done ++ left) × AreTold answers done written)
  owes-begun None now pending request written owes = tt
  owes-begun (Some r0) None pending request written owes = absurd owes
  owes-begun (Some r0) (Some r) pending request written owes = (owes.2, before_requests owes.0 (requests_of (lines_of (pending ++ r))), owes.4, owes.3)

  pub served-begun : (all now old mid new : Option (List ℕ)) (pending request : List ℕ) (lines : ℕ) → Served answers all now old mid pending request lines → new ≡ mid → AreToldBegun answers all old new
  served-begun all now old mid new pending request lines served e = record {
    written = served.written;
    appended = subst (λ w. Appends old w served.written) (sym e) served.appended;
    are_told = owes-begun all now pending request served.written served.owes;
  }

  owes-line : (all now now' : Option (List ℕ)) (pending pending' text request written : List ℕ) (said : Result (List ℕ) ℕ) → Owes answers all now pending request written
      → LosesLine now now' pending pending' text → bytes_eq text (codes "end") ≡ true → answers request said
      → IfSome all (λ bytes. (done left : List (List (List ℕ))) × (next : List (List ℕ)) × (requests_of (lines_of bytes) ≡ done ++ next ∷ left) × AreTold answers done written × answers (flat_map line next) said)
  owes-line None now now' pending pending' text request written said owes loses ended answer = tt
  owes-line (Some r0) None now' pending pending' text request written said owes loses ended answer = absurd owes
  owes-line (Some r0) (Some r) None pending pending' text request written said owes loses ended answer = absurd loses
  owes-line (Some r0) (Some r) (Some r') pending pending' text request written said owes loses ended answer = (
    owes.2,
    requests_of (lines_of (pending' ++ r')),
    owes.0,
    owes.4 ∙ ap (λ lines. owes.2 ++ before_requests owes.0 (requests_of lines)) loses.0 ∙ ap (λ requests. owes.2 ++ requests) (ends-here owes.0 (lines_of (pending' ++ r')) text ended),
    owes.3,
    subst (λ bytes. answers bytes said) owes.1 answer,
  )

  -- a line ended a request, and its answer was written in part
  pub served-broken : (all now now' old mid new : Option (List ℕ)) (pending pending' text request : List ℕ) (lines : ℕ) → Served answers all now old mid pending request lines
      → LosesLine now now' pending pending' text → bytes_eq text (codes "end") ≡ true → IsToldPart (answers request) mid new → AreToldBroken answers all old new
  served-broken all now now' old mid new pending pending' text request lines served loses ended part = record {
    written = served.written;
    said = part.0;
    count = part.2;
    is_part = part.3;
    appended = appends-on old mid new served.written (take part.2 (told part.0)) served.appended part.4;
    are_told = owes-line all now now' pending pending' text request served.written part.0 served.owes loses ended part.1;
  }

  last-one : (so_far : List (List ℕ)) (request : List ℕ) → ¬ (request ≡ []) → request ≡ flat_map line so_far → before_requests so_far [] ≡ so_far ∷ []
  last-one [] request some is = absurd (some is)
  last-one (l ∷ ls) request some is = before-none l ls

  owes-last : (all now : Option (List ℕ)) (pending request written : List ℕ) (said : Result (List ℕ) ℕ) → Owes answers all now pending request written → HadNone now pending → ¬ (request ≡ []) → answers request said
      → IfSome all (λ bytes. (done left : List (List (List ℕ))) × (next : List (List ℕ)) × (requests_of (lines_of bytes) ≡ done ++ next ∷ left) × AreTold answers done written × answers (flat_map line next) said)
  owes-last None now pending request written said owes none some answer = tt
  owes-last (Some r0) None pending request written said owes none some answer = absurd owes
  owes-last (Some r0) (Some r) pending request written said owes none some answer = (
    owes.2,
    [],
    owes.0,
    owes.4 ∙ ap (λ bytes. owes.2 ++ before_requests owes.0 (requests_of (lines_of bytes))) none ∙ ap (λ requests. owes.2 ++ requests) (last-one owes.0 request some owes.1),
    owes.3,
    subst (λ bytes. answers bytes said) owes.1 answer,
  )

  served-last : (all now old mid new : Option (List ℕ)) (pending request : List ℕ) (lines : ℕ) → Served answers all now old mid pending request lines
      → HadNone now pending → ¬ (request ≡ []) → IsToldPart (answers request) mid new → AreToldBroken answers all old new
  served-last all now old mid new pending request lines served none some part = record {
    written = served.written;
    said = part.0;
    count = part.2;
    is_part = part.3;
    appended = appends-on old mid new served.written (take part.2 (told part.0)) served.appended part.4;
    are_told = owes-last all now pending request served.written part.0 served.owes none some part.1;
  }

  fits-many : (all now : Option (List ℕ)) (pending : List ℕ) (lines : ℕ) → Fits all now pending lines → IfSome now (λ r. 2 ^ 40 ≤ length (pending ++ r)) → IfSome all (λ bytes. 2 ^ 40 ≤ length bytes)
  fits-many None now pending lines fits many = tt
  fits-many (Some r0) None pending lines fits many = absurd fits
  fits-many (Some r0) (Some r) pending lines fits many = omega arith

  fits-all : (all now : Option (List ℕ)) (pending : List ℕ) (lines : ℕ) → 2 ^ 40 ≤ lines → Fits all now pending lines → IfSome all (λ bytes. 2 ^ 40 ≤ length bytes)
  fits-all None now pending lines long fits = tt
  fits-all (Some r0) None pending lines long fits = absurd fits
  fits-all (Some r0) (Some r) pending lines long fits = omega arith

  -- a read failed, or there were too many bytes
  pub read-fails : (all now now' old mid : Option (List ℕ)) (pending pending' request : List ℕ) (lines rb rm ra wb wa : ℕ) → Served answers all now old mid pending request lines → rm ≡ rb → wa ≡ wb
      → TakesLine now now' pending pending' rm ra (Err read_errors.Device) → BatchEnds answers all now' old mid rb ra wb wa (Err stops.Read)
  read-fails all now now' old mid pending pending' request lines rb rm ra wb wa served same wrote (inl failed) =
      (served-begun all now old mid mid pending request lines served refl, inl (failed ∙ ap one_more same), wrote)
  read-fails all now now' old mid pending pending' request lines rb rm ra wb wa served same wrote (inr many) =
      (served-begun all now old mid mid pending request lines served refl, inr (fits-many all now pending lines served.fits many.0, many.1 ∙ same), wrote)

  -- there were too many lines
  pub lines-end : (all now old mid : Option (List ℕ)) (pending request : List ℕ) (lines rb ra wb wa : ℕ) → 2 ^ 40 ≤ lines → Served answers all now old mid pending request lines → ra ≡ rb → wa ≡ wb
      → BatchEnds answers all now old mid rb ra wb wa (Err stops.Read)
  lines-end all now old mid pending request lines rb ra wb wa long served same wrote =
      (served-begun all now old mid mid pending request lines served refl, inr (fits-all all now pending lines long served.fits, same), wrote)

  pub batch-ends : (all now now' old mid new : Option (List ℕ)) (pending request : List ℕ) (lines rb ra wb wm wa : ℕ) (r : Result (Unit {0}) Stop)
      → Served answers all now old mid pending request lines → HadNone now pending → IsAtEnd now' → ra ≡ rb → wm ≡ wb → TakesEnd answers request mid new wm wa r → BatchEnds answers all now' old new rb ra wb wa r
  batch-ends all now now' old mid new pending request lines rb ra wb wm wa (Ok done) served none end read wrote h = (
    served.written ++ h.0,
    appends-on old mid new served.written h.0 served.appended h.2,
    owes-none all now pending request served.written h.0 served.owes none h.1,
    end,
    read,
    h.3 ∙ wrote,
  )
  batch-ends all now now' old mid new pending request lines rb ra wb wm wa (Err stops.Memory) served none end read wrote h = (served-begun all now old mid new pending request lines served h.0, read, h.1 ∙ wrote)
  batch-ends all now now' old mid new pending request lines rb ra wb wm wa (Err stops.Read) served none end read wrote h = absurd h
  batch-ends all now now' old mid new pending request lines rb ra wb wm wa (Err stops.Write) served none end read wrote h =
      (served-last all now old mid new pending request lines served none h.0 h.1, read, h.2 ∙ ap one_more wrote)

  -- one more line
  pub served-more : (all now now' old mid new : Option (List ℕ)) (pending pending' text request request' more : List ℕ) (lines : ℕ) → Served answers all now old mid pending request lines
      → LosesLine now now' pending pending' text → Steps answers text request request' more → Appends mid new more → Served answers all now' old new pending' request' (lines + 1)
  served-more all now now' old mid new pending pending' text request request' more lines served loses steps appends = record {
    written = served.written ++ more;
    appended = appends-on old mid new served.written more served.appended appends;
    owes = owes-less all now now' pending pending' text request request' served.written more served.owes loses steps;
    fits = fits-less all now now' pending pending' text lines served.fits loses;
  }

  -- before any line
  first-owes : (all : Option (List ℕ)) → Owes answers all all [] [] []
  first-owes None = ([], refl)
  first-owes (Some r0) = ([], refl, [], refl, refl)

  fits-first : (all : Option (List ℕ)) → Fits all all [] 0
  fits-first None = tt
  fits-first (Some r0) = omega arith

  pub served-first : (all old : Option (List ℕ)) → Served answers all all old old [] [] 0
  served-first all old = record { written = []; appended = appends-none old; owes = first-owes all; fits = fits-first all }

-- ---- a batch that stops

module _ (answers : List ℕ → Result (List ℕ) ℕ → Type 0) where
  -- no line was taken
  pub read-stops : (all now now' old mid : Option (List ℕ)) (pending pending' request : List ℕ) (lines rb rm ra wb wa : ℕ) (error : ReadError) (stop : Stop) → StopsBy error stop
      → Served answers all now old mid pending request lines → rm ≡ rb → wa ≡ wb → TakesLine now now' pending pending' rm ra (Err error) → BatchEnds answers all now' old mid rb ra wb wa (Err stop)
  read-stops all now now' old mid pending pending' request lines rb rm ra wb wa read_errors.Memory stop is served same wrote h =
      subst (λ s. BatchEnds answers all now' old mid rb ra wb wa (Err s)) (sym is) (served-begun answers all now old mid mid pending request lines served refl, h ∙ same, wrote)
  read-stops all now now' old mid pending pending' request lines rb rm ra wb wa read_errors.Device stop is served same wrote h =
      subst (λ s. BatchEnds answers all now' old mid rb ra wb wa (Err s)) (sym is) (read-fails answers all now now' old mid pending pending' request lines rb rm ra wb wa served same wrote h)

  -- the line that was taken ended a request that could not be answered
  pub take-stops : (all now now' old mid new : Option (List ℕ)) (pending pending' text request request' : List ℕ) (lines rb ra wb wm wa : ℕ) (stop : Stop)
      → Served answers all now old mid pending request lines → LosesLine now now' pending pending' text → ra ≡ rb → wm ≡ wb → TakesIn answers text request request' mid new wm wa (Err stop)
      → BatchEnds answers all now' old new rb ra wb wa (Err stop)
  take-stops all now now' old mid new pending pending' text request request' lines rb ra wb wm wa stops.Memory served loses read wrote h =
      (served-begun answers all now old mid new pending request lines served h.0, read, h.1 ∙ wrote)
  take-stops all now now' old mid new pending pending' text request request' lines rb ra wb wm wa stops.Read served loses read wrote h = absurd h
  take-stops all now now' old mid new pending pending' text request request' lines rb ra wb wm wa stops.Write served loses read wrote h =
      (served-broken answers all now now' old mid new pending pending' text request lines served loses h.0 h.1, read, h.2 ∙ ap one_more wrote)

-- ---- reads for one line

-- n reads gave bytes since the line began, and there is no LF in the bytes that were searched
pub record IsSearched (old now : Option (List ℕ)) (p0 p : List ℕ) (turns searched : ℕ) : Type 0 where
  pub bytes : List ℕ
  pub consumed : Consumes old now bytes
  pub long : turns ≤ length bytes
  pub left : p ≡ p0 ++ bytes
  pub within : searched ≤ length p
  pub none : cut_at 10 (take searched p) ≡ None

consumes-none : (r : Option (List ℕ)) → Consumes r r []
consumes-none None = tt
consumes-none (Some x) = refl

consumes-on : (a b c : Option (List ℕ)) (first last : List ℕ) → Consumes a b first → Consumes b c last → Consumes a c (first ++ last)
consumes-on None b c first last h k = tt
consumes-on (Some x) None c first last h k = absurd h
consumes-on (Some x) (Some y) None first last h k = k
consumes-on (Some x) (Some y) (Some z) first last h k = h ∙ ap (λ t. first ++ t) k ∙ sym (append_assoc first last z)

consumes-stays : (old now : Option (List ℕ)) (p0 p bytes : List ℕ) → Consumes old now bytes → p ≡ p0 ++ bytes → Stays old now p0 p
consumes-stays None now p0 p bytes h e = tt
consumes-stays (Some x) None p0 p bytes h e = h
consumes-stays (Some x) (Some y) p0 p bytes h e = ap (λ t. p0 ++ t) h ∙ sym (append_assoc p0 bytes y) ∙ ap (λ t. t ++ y) (sym e)

pub stays-searched : (old now : Option (List ℕ)) (p0 p : List ℕ) (turns searched : ℕ) → IsSearched old now p0 p turns searched → Stays old now p0 p
stays-searched old now p0 p turns searched is = consumes-stays old now p0 p is.bytes is.consumed is.left

pub none-searched : (r : Option (List ℕ)) (p : List ℕ) → IsSearched r r p p 0 0
none-searched r p = record { bytes = []; consumed = consumes-none r; long = omega arith; left = sym (append-nil p); within = omega arith; none = refl }

-- one block more
pub more-searched : (old now new : Option (List ℕ)) (p0 p q : List ℕ) (turns searched before after : ℕ) (more : Bool) → more ≡ true → IsSearched old now p0 p turns searched → cut_at 10 p ≡ None
    → ReadsMore now new p q before after (Ok more) → IsSearched old new p0 q (turns + 1) (length p)
more-searched old now new p0 p q turns searched before after false is_more is none read = absurd (let no : false ≡ true = is_more in cc)
more-searched old now new p0 p q turns searched before after true is_more is none read =
    let both : length (is.bytes ++ read.0) ≡ length is.bytes + length read.0 = length-append is.bytes read.0 in
    let all : length (p ++ read.0) ≡ length p + length read.0 = length-append p read.0 in
    let some : 0 < length read.0 = read.3 in
    let long : turns ≤ length is.bytes = is.long in
    let grown : length q ≡ length (p ++ read.0) = ap length read.2 in
    record {
      bytes = is.bytes ++ read.0;
      consumed = consumes-on old now new is.bytes read.0 is.consumed read.1;
      long = omega arith;
      left = read.2 ∙ ap (λ t. t ++ read.0) is.left ∙ append_assoc p0 is.bytes read.0;
      within = omega arith;
      none = rw read.2 (rw (take-append_seam p read.0) none);
    }

-- there were too many reads
consumed-many : (old now : Option (List ℕ)) (p0 bytes : List ℕ) → Consumes old now bytes → 2 ^ 40 ≤ length bytes → IfSome old (λ r. 2 ^ 40 ≤ length (p0 ++ r))
consumed-many None now p0 bytes h long = tt
consumed-many (Some x) None p0 bytes h long = absurd h
consumed-many (Some x) (Some y) p0 bytes h long =
    let all : length x ≡ length (bytes ++ y) = ap length h in
    let one = length-append bytes y in
    let two = length-append p0 x in
    omega arith

pub many-searched : (old now : Option (List ℕ)) (p0 p : List ℕ) (turns searched : ℕ) → 2 ^ 40 ≤ turns → IsSearched old now p0 p turns searched → IfSome old (λ r. 2 ^ 40 ≤ length (p0 ++ r))
many-searched old now p0 p turns searched many is = let long = is.long in consumed-many old now p0 is.bytes is.consumed (omega arith)

-- nothing was read: the bytes that do not make a line are the last line
pub read-none : (old now new : Option (List ℕ)) (p0 p q p' : List ℕ) (before at after : ℕ) (more : Bool) (o : Option (Vec ℕ Global)) → more ≡ false → Stays old now p0 p → at ≡ before
    → ReadsMore now new p q at after (Ok more) → cut_at 10 p ≡ None → LastOf q p' o → TakesLine old new p0 p' before after (Ok o)
read-none old now new p0 p q p' before at after true o none stays same read cut last = absurd (let no : true ≡ false = none in cc)
read-none old now new p0 p q p' before at after false o none stays same read cut last =
    takes-end old new p0 q p' before after o (stays-on old now new p0 p q stays read.0) read.2 (ap (cut_at 10) read.1 ∙ cut) (read.3 ∙ same) last
