-- Each read keeps what stood before it. The measure is what is wanted yet.
use Rattle.std.proofs.Common.{◌-◌}
use Rattle.journal.proofs.Reading.{Filling}
use Rattle.journal.proofs.streams.fill.Given as goal

abbrev pub invariant-loop-end : goal.invariant-loop-end
invariant-loop-end l = Filling l.fn.space l.held l.space l.end

abbrev pub decreases-loop-end : goal.decreases-loop-end
decreases-loop-end l = l.wanted - l.end
