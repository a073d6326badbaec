-- What is left of storing the number's form is to store that of `rest` from `next` on. The measure is `rest`.
use Rattle.numbers.proofs.Writing.{Writing}
use Rattle.numbers.proofs.write_number.Given as goal

abbrev pub invariant-loop-rest : goal.invariant-loop-rest
invariant-loop-rest l = Writing l.initial.out l.at l.number l.out l.next l.rest

abbrev pub decreases-loop-rest : goal.decreases-loop-rest
decreases-loop-rest l = l.rest
