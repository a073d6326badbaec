-- The last digit after those of a tenth.
use Rattle.std.proofs.Common.{arith}
use Rattle.journal.proofs.Putting.{digit_room, digit-walked, tenth-room, last-room, last-walked}
use Rattle.journal.proofs.lines.+put_number.Goals as goal

pub put_byte-requires : goal.put_byte-requires
put_byte-requires t c = digit_room (omega arith) c.requires

pub returns-then-number-lt10 : goal.returns-then-number-lt10
returns-then-number-lt10 t c = digit-walked (omega arith) c.put_byte.ensures

pub put_number-next-requires : goal.put_number-next-requires
put_number-next-requires t c = (omega arith, tenth-room (omega arith) (omega arith) c.requires)

pub put_byte-requires-2 : goal.put_byte-requires-2
put_byte-requires-2 t c = last-room (omega arith) (omega arith) c.requires c.put_number-next.ensures

pub returns : goal.returns
returns t c = last-walked (omega arith) (omega arith) c.put_number-next.ensures c.put_byte-2.ensures
