use Rattle.std.proofs.Common.{refl}
use Rattle.scl_reader.specs.Questions.{questions_of}
use Rattle.scl_load.specs.Leads.{leads_of}
use Rattle.scl_load.specs.Loads.{asked_on, load_of}
use Rattle.scl_load.proofs.LoadLaws.{followed, last-reading, led-first, read-more, same-answer, same-record}
use Rattle.scl_load.proofs.loader.load.Goals as goal

pub loop-round-init : goal.loop-round-init
loop-round-init g c = rw (c.set_multiarch.ensures, c.new-view.ensures, c.new-leads.ensures) (λ held h m. led-first held c.args.line.now c.args.most c.args.rounds m)

pub loop-round-preserved : goal.loop-round-preserved
loop-round-preserved g c =
    let holds = g.D.Disk.holds c.args.disk.now in
    let fails = g.D.Disk.fails c.args.disk.now in
    let line = c.args.line.now in
    let way = followed holds fails line c.args.most c.args.rounds c.loop-round.round c.loop-round.view c.follow.new.view (leads_of c.loop-round.leads) (leads_of c.follow.new.self) c.loop-round.invariant
    c.in_default.field-0 (rw c.in_default.is at c.in_ok-error.ensures) in
    let once = rw (c.in-Ok-default-true.is, c.in-Ok-default-true.field-0-1-test) at c.in_ok-reading.ensures in
    read-more holds fails line c.args.most c.args.rounds c.loop-round.round c.follow.new.view c.read_once.new.view (leads_of c.follow.new.self) (leads_of c.push_found.new.self) way
    c.in-Ok-default-true.reading once c.in_ok-push_found-in-Ok-default-true.ensures

-- ---- a reading found nothing

pub returns-in-Ok-default-false-clause-answer : goal.returns-in-Ok-default-false-clause-answer
returns-in-Ok-default-false-clause-answer g c =
    let holds = g.D.Disk.holds c.args.disk.now in
    let fails = g.D.Disk.fails c.args.disk.now in
    let line = c.args.line.now in
    let way = followed holds fails line c.args.most c.args.rounds c.loop-round.round c.loop-round.view c.follow.new.view (leads_of c.loop-round.leads) (leads_of c.follow.new.self) c.loop-round.invariant
    c.in_default.field-0 (rw c.in_default.is at c.in_ok-error.ensures) in
    let once = rw (c.in-Ok-default-false.is, c.in-Ok-default-false.field-0-1-test) at c.in_ok-reading.ensures in
    same-answer holds line c.args.most c.args.rounds c.loop-round.round c.follow.new.view c.read_once.new.view (leads_of c.follow.new.self) (questions_of (asked_on line c.follow.new.view)) way refl once.2

pub returns-in-Ok-default-false-clause-decided : goal.returns-in-Ok-default-false-clause-decided
returns-in-Ok-default-false-clause-decided g c =
    let holds = g.D.Disk.holds c.args.disk.now in
    let fails = g.D.Disk.fails c.args.disk.now in
    let line = c.args.line.now in
    let way = followed holds fails line c.args.most c.args.rounds c.loop-round.round c.loop-round.view c.follow.new.view (leads_of c.loop-round.leads) (leads_of c.follow.new.self) c.loop-round.invariant
    c.in_default.field-0 (rw c.in_default.is at c.in_ok-error.ensures) in
    let once = rw (c.in-Ok-default-false.is, c.in-Ok-default-false.field-0-1-test) at c.in_ok-reading.ensures in
    same-record holds line c.args.most c.args.rounds c.loop-round.round c.follow.new.view c.read_once.new.view (leads_of c.follow.new.self) (questions_of (asked_on line c.follow.new.view)) way refl once.2
    c.in-Ok-default-false.reading once.1

pub returns-in-Ok-default-false-clause-end : goal.returns-in-Ok-default-false-clause-end
returns-in-Ok-default-false-clause-end g c =
    let holds = g.D.Disk.holds c.args.disk.now in
    let fails = g.D.Disk.fails c.args.disk.now in
    let line = c.args.line.now in
    let way = followed holds fails line c.args.most c.args.rounds c.loop-round.round c.loop-round.view c.follow.new.view (leads_of c.loop-round.leads) (leads_of c.follow.new.self) c.loop-round.invariant
    c.in_default.field-0 (rw c.in_default.is at c.in_ok-error.ensures) in
    let once = rw (c.in-Ok-default-false.is, c.in-Ok-default-false.field-0-1-test) at c.in_ok-reading.ensures in
    last-reading holds (load_of line c.args.most c.args.rounds) c.loop-round.round c.follow.new.view c.read_once.new.view (leads_of c.follow.new.self) (questions_of (asked_on line c.follow.new.view))
    c.loop-round-test.true way once.0 refl once.2
