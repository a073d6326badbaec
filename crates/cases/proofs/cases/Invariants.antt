-- The measure is what is left of the input.
use Rattle.std.proofs.Common.{◌-◌, length}
use Rattle.cases.proofs.cases.Given as goal

abbrev pub decreases-loop-at : goal.decreases-loop-at
decreases-loop-at g l = length l.input - l.at
