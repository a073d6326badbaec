-- What is done lies within what is used.
use Rattle.std.proofs.Common.{◌≤◌}
use Rattle.journal.proofs.streams.write_out.Given as goal

abbrev pub invariant-loop : goal.invariant-loop
invariant-loop l = l.done ≤ l.used
