-- A read leaves what stands before it.
use Rattle.journal.proofs.Reading.{Kept}
use Rattle.journal.proofs.streams.read_more.Given as goal

abbrev pub invariant-loop : goal.invariant-loop
invariant-loop l = Kept l.fn.space l.held l.space
