-- Each turn passes an event and puts its line out. The measure is what is seen yet.
use Rattle.std.proofs.Common.{◌-◌, length}
use Rattle.journal.proofs.Passed.{Going}
use Rattle.journal.proofs.events.pass_events.Given as goal

abbrev pub invariant-loop-out : goal.invariant-loop-out
invariant-loop-out l = Going l.net l.seen l.from l.fn.estimates l.fn.remainders l.fn.out l.estimates l.remainders l.out l.at l.used

abbrev pub decreases-loop-out : goal.decreases-loop-out
decreases-loop-out l = length l.seen - l.at
