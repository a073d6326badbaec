-- `numbers::read_number` meets its contract: no byte, one group, or what `read_groups` answers.
use Rattle.std.proofs.Common.{arith, refl}
use Rattle.numbers.proofs.Number.{at_one}
use Rattle.numbers.proofs.Reading.{at-end}
use Rattle.numbers.proofs.read_number.Goals as goal

pub returns-then-s-at : goal.returns-then-s-at
returns-then-s-at c = at-end c.args.s.now c.args.at (omega arith)

pub returns-then-first-lt128 : goal.returns-then-first-lt128
returns-then-first-lt128 c = at_one c.args.s.now c.args.at _ (omega arith) refl (omega arith)
