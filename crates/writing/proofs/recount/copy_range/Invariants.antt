-- The bytes passed are copied.
use Rattle.writing.proofs.Writing.Recount.{Copying}
use Rattle.writing.proofs.recount.copy_range.Given as goal

abbrev pub invariant-loop-i : goal.invariant-loop-i
invariant-loop-i l = Copying l.d l.from l.size l.fn.out l.at l.i l.out
