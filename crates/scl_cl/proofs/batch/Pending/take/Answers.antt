use Rattle.std.proofs.Common.{rules, ◌≡◌, Some, None, drop, refl, sym, subst}
use Rattle.std.proofs.lemmas.List.{length-take-le}
use Rattle.scl_description.specs.Lines.{cut_at}
use Rattle.scl_cl.specs.BatchesGiven.{left_of}
use Rattle.scl_cl.proofs.BatchLaws.{first-fits, first-lacks, first-line, rest-fits, slice-all}
use Rattle.scl_cl.proofs.batch.Pending.take.Goals as goal

pub returns-in_default : goal.returns-in_default
returns-in_default c =
    let lacks : cut_at 10 (drop c.args.searched (left_of c.args.self.now)) ≡ None =
    subst (λ xs. cut_at 10 xs ≡ None) (slice-all c.args.searched (left_of c.args.self.now)) (rw c.left-left.ensures at c.in_default.ensures) in
    (first-lacks c.args.self.now.bytes.items c.args.self.now.begin c.args.searched c.requires.within c.requires.searched lacks, refl)

pub slice_bounds-from_slice-end : goal.slice_bounds-from_slice-end
slice_bounds-from_slice-end c =
    let cut : cut_at 10 (drop c.args.searched (left_of c.args.self.now)) ≡ Some (c.in-Some.front.now, c.in-Some.rest.now) =
    subst (λ xs. cut_at 10 xs ≡ Some (c.in-Some.front.now, c.in-Some.rest.now)) (slice-all c.args.searched (left_of c.args.self.now)) (rw c.left-left.ensures at c.in-Some.ensures) in
    let fits = first-fits c.args.self.now.bytes.items c.args.self.now.begin c.args.searched c.requires.within c.requires.searched c.in-Some.front.now c.in-Some.rest.now cut in
    rw c.left-left.ensures (sym (length-take-le _ _ fits))

pub overflow_sub-self : goal.overflow_sub-self
overflow_sub-self c =
    let cut : cut_at 10 (drop c.args.searched (left_of c.args.self.now)) ≡ Some (c.in-Some.front.now, c.in-Some.rest.now) =
    subst (λ xs. cut_at 10 xs ≡ Some (c.in-Some.front.now, c.in-Some.rest.now)) (slice-all c.args.searched (left_of c.args.self.now)) (rw c.left-left.ensures at c.in-Some.ensures) in
    let fits = rest-fits c.args.self.now.bytes.items c.args.self.now.begin c.args.searched c.requires.within c.requires.searched c.in-Some.front.now c.in-Some.rest.now cut in
    search (rules, fits)

pub returns : goal.returns
returns c =
    let cut : cut_at 10 (drop c.args.searched (left_of c.args.self.now)) ≡ Some (c.in-Some.front.now, c.in-Some.rest.now) =
    subst (λ xs. cut_at 10 xs ≡ Some (c.in-Some.front.now, c.in-Some.rest.now)) (slice-all c.args.searched (left_of c.args.self.now)) (rw c.left-left.ensures at c.in-Some.ensures) in
    let line = first-line c.args.self.now.bytes.items c.args.self.now.begin c.args.searched c.requires.within c.requires.searched c.in-Some.front.now c.in-Some.rest.now cut in
    search (rules, line)
