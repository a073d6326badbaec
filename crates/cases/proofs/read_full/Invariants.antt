-- What is held lies in the buffer. The measure is what is left of it.
use Rattle.std.proofs.Common.{◌-◌, ◌≤◌, length}
use Rattle.cases.proofs.read_full.Given as goal

abbrev pub invariant-loop-held : goal.invariant-loop-held
invariant-loop-held l = l.held ≤ length l.space

abbrev pub decreases-loop-held : goal.decreases-loop-held
decreases-loop-held l = length l.space - l.held
