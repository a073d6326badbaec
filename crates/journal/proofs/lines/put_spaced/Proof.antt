-- `journal::lines::put_spaced` meets its contract: a space, and then the number.
use Rattle.codec.proofs.Walk.{walked-length, walked_both, room-first, room_next}
use Rattle.journal.proofs.lines.put_spaced.Statement.{statement}
use Rattle.journal.proofs.lines.put_spaced.Tie as tie

put-byte-requires : tie.Need-put_byte-next-requires
put-byte-requires c κs = room-first _ c.requires

put-number-requires : tie.Need-put_number-requires
put-number-requires c κs =
    room_next c.requires c.put_byte-next.ensures

returns : tie.Need-returns
returns c =
    walked_both c.put_byte-next.ensures c.put_number.ensures

same_length : tie.Need-shape_of-out
same_length c = walked-length (returns c)

pub put_spaced_spec : {M : Type 1} → statement M
put_spaced_spec = tie.close (tie.spec
    put-byte-requires
    put-number-requires
    same_length
    returns)
