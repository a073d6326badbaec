-- The numbers passed are walked.
use Rattle.std.proofs.Common.{true, ◌∷◌, get_or}
use Rattle.codec.proofs.Walk.{Walking}
use Rattle.journal.specs.Lines.{space, decimal}
use Rattle.journal.proofs.lines.put_numbers.Given as goal

abbrev pub invariant-loop-number : goal.invariant-loop-number
invariant-loop-number l =
    Walking true l.fn.out l.at l.count (λ j. space ∷ decimal (get_or l.numbers j 0)) l.number-index l.out l.next
