-- The word, the number and a newline.
use Rattle.std.proofs.Common.{arith}
use Rattle.codec.specs.Refusals.{number}
use Rattle.codec.proofs.Walk.{walked_both, room-first, room_next}
use Rattle.journal.specs.Lines.{refused_bytes}
use Rattle.journal.proofs.Putting.{refused-room}
use Rattle.journal.proofs.lines.put_refusal.Goals as goal

pub put_number-next-requires : goal.put_number-next-requires
unfolding refused_bytes
put_number-next-requires c =
    rw c.number.ensures (room-first _ (room_next (refused-room c.requires (omega arith) (number c.args.refusal)) c.put_text-next.ensures))

pub put_byte-requires : goal.put_byte-requires
unfolding refused_bytes
put_byte-requires c =
    room_next (room_next (refused-room c.requires (omega arith) (number c.args.refusal)) c.put_text-next.ensures)
    (rw c.number.ensures at c.put_number-next.ensures)

pub returns : goal.returns
unfolding refused_bytes
returns c =
    walked_both c.put_text-next.ensures (walked_both (rw c.number.ensures at c.put_number-next.ensures) c.put_byte.ensures)
