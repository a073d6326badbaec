-- `numbers::write_number` meets its contract: there is no room, or each turn stores one group.
use Rattle.std.proofs.Common.{arith}
use Rattle.numbers.proofs.Writing.{no_room, writing-first, writing-inside, writing_more, writing-last}
use Rattle.numbers.proofs.write_number.Goals as goal

pub returns-then-out-at : goal.returns-then-out-at
returns-then-out-at c =
    let none = no_room c.args.out.now c.args.at c.args.number (omega arith) in
    record { value = none.0; out_after = none.1 }

pub returns-then-out-at-2 : goal.returns-then-out-at-2
returns-then-out-at-2 c =
    let none = no_room c.args.out.now c.args.at c.args.number (omega arith) in
    record { value = none.0; out_after = none.1 }

pub loop-rest-init : goal.loop-rest-init
loop-rest-init c = writing-first c.args.out.now c.args.at c.args.number (omega arith) (omega arith)

pub bounds-out-next : goal.bounds-out-next
bounds-out-next c = writing-inside c.loop-rest.invariant

pub loop-rest-preserved : goal.loop-rest-preserved
loop-rest-preserved c = writing_more c.loop-rest.invariant (omega arith)

pub bounds-out-next-2 : goal.bounds-out-next-2
bounds-out-next-2 c = writing-inside c.loop-rest.invariant

pub returns : goal.returns
returns c =
    let last = writing-last c.loop-rest.invariant (omega arith) in
    record { value = last.0; out_after = last.1 }
