-- `numbers::read_groups` meets its contract: each way out of a turn is one law of `Reading`.
use Rattle.std.proofs.Common.{arith}
use Rattle.numbers.proofs.Reading.{turned, reading-first, reading-end, last-zero, last-large, last-number, more-large, more-reading}
use Rattle.numbers.proofs.read_groups.Goals as goal

pub loop-next-init : goal.loop-next-init
loop-next-init c =
    let byte = c.type_inv.s c.args.at in
    reading-first c.args.s.now c.args.at c.args.first (omega arith) c.requires.first_value (omega arith) (omega (arith, byte))

pub returns-then-group-eq0 : goal.returns-then-group-eq0
returns-then-group-eq0 c =
    let byte = c.type_inv.s c.loop-next.next in
    last-zero (turned c.loop-next.invariant (omega arith) (omega (arith, byte))) (omega arith)

pub returns-then-value-gt-LARGEST : goal.returns-then-value-gt-LARGEST
returns-then-value-gt-LARGEST c =
    let byte = c.type_inv.s c.loop-next.next in
    last-large (turned c.loop-next.invariant (omega arith) (omega (arith, byte))) (omega arith) (omega arith) (omega arith)

pub returns-then-group-lt128 : goal.returns-then-group-lt128
returns-then-group-lt128 c =
    let byte = c.type_inv.s c.loop-next.next in
    last-number (turned c.loop-next.invariant (omega arith) (omega (arith, byte))) (omega arith) (omega arith) (omega arith)

pub returns-then-unit-ge-FIFTH_UNIT : goal.returns-then-unit-ge-FIFTH_UNIT
returns-then-unit-ge-FIFTH_UNIT c =
    let byte = c.type_inv.s c.loop-next.next in
    more-large (turned c.loop-next.invariant (omega arith) (omega (arith, byte))) (omega arith) (omega arith)

pub loop-next-preserved : goal.loop-next-preserved
loop-next-preserved c =
    let byte = c.type_inv.s c.loop-next.next in
    more-reading (turned c.loop-next.invariant (omega arith) (omega (arith, byte))) (omega arith) (omega arith)

pub returns : goal.returns
returns c = reading-end c.loop-next.invariant (omega arith)
