-- The numbers are walked one by one: each that is passed is one of the first `count`.
use Rattle.std.proofs.Common.{arith, ◌<◌, length-take}
use Rattle.std.proofs.lemmas.List.{get_or-take}
use Rattle.codec.proofs.Walk.{walking-none, walking-room, walking-more, walking-all}
use Rattle.journal.proofs.lines.put_numbers.Goals as goal

pub loop-number-init : goal.loop-number-init
loop-number-init c = walking-none c.requires.room

pub put_spaced-next-requires : goal.put_spaced-next-requires
put_spaced-next-requires c =
    let few : c.loop-number.number-index < c.args.count = omega (arith, simp length-take at c.loop-number-test.true) in
    rw get_or-take (walking-room c.loop-number.invariant few)

pub loop-number-preserved : goal.loop-number-preserved
loop-number-preserved c =
    let few : c.loop-number.number-index < c.args.count = omega (arith, simp length-take at c.loop-number-test.true) in
    walking-more c.loop-number.invariant few (rw get_or-take at c.put_spaced-next.ensures)

pub returns : goal.returns
returns c = walking-all c.loop-number.invariant (omega (arith, simp length-take at c.loop-number-test.false))
