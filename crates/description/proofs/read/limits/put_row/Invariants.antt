-- With the elements that are left, the table becomes what it is to be.
use Rattle.std.proofs.lemmas.List.Edits.{sets}
use Rattle.description.proofs.ReadingTables.{Putting}
use Rattle.description.proofs.read.limits.put_row.Given as goal

abbrev pub invariant-loop-offset : goal.invariant-loop-offset
invariant-loop-offset l = Putting (sets l.initial.table l.first l.row) l.row l.table l.first l.offset
