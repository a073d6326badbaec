-- Between two passes what is left of the input lies in its buffer, and the output has room for a line.
use Rattle.std.proofs.Common.{◌≤◌, length}
use Rattle.journal.specs.Lines.{longest_line}
use Rattle.journal.specs.Passing.{Running}
use Rattle.journal.proofs.run.Given as goal

abbrev pub invariant-loop : goal.invariant-loop
invariant-loop l =
    record {
      ordered : l.at ≤ l.end;
      within : l.end ≤ length l.space;
      roomy : longest_line ≤ length l.out;
      running : Running l.net l.estimates l.remainders;
    }
