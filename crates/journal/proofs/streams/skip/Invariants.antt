-- The measure is what is left to read.
use Rattle.journal.proofs.streams.skip.Given as goal

abbrev pub decreases-loop-left : goal.decreases-loop-left
decreases-loop-left l = l.left
