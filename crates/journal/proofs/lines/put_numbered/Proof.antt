-- `journal::lines::put_numbered` meets its contract: the text, and then the number.
use Rattle.codec.proofs.Walk.{walked-length, walked_both, room-first, room_next}
use Rattle.journal.proofs.lines.put_numbered.Statement.{statement}
use Rattle.journal.proofs.lines.put_numbered.Tie as tie

put-text-requires : tie.Need-put_text-next-requires
put-text-requires c κs = room-first _ c.requires

put-number-requires : tie.Need-put_number-requires
put-number-requires c κs =
    room_next c.requires c.put_text-next.ensures

returns : tie.Need-returns
returns c =
    walked_both c.put_text-next.ensures c.put_number.ensures

same_length : tie.Need-shape_of-out
same_length c = walked-length (returns c)

pub put_numbered_spec : {M : Type 1} → statement M
put_numbered_spec = tie.close (tie.spec
    put-text-requires
    put-number-requires
    same_length
    returns)
