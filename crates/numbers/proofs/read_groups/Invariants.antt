-- The number at `at` is the groups from `next` on, put above those read so far, whose unit is small enough that nothing wraps.
use Rattle.numbers.proofs.Reading.{Reading}
use Rattle.numbers.proofs.read_groups.Given as goal

abbrev pub invariant-loop-next : goal.invariant-loop-next
invariant-loop-next l = Reading l.s l.at l.next l.low l.unit
