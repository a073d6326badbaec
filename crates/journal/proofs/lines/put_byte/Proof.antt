-- `journal::lines::put_byte` meets its contract: one byte is stored.
use borrow.Author.Rules.{rules}
use Rattle.journal.proofs.Putting.{byte-walked, byte_inside}
use Rattle.journal.proofs.lines.put_byte.Statement.{statement}
use Rattle.journal.proofs.lines.put_byte.Tie as tie

slice-write-out : tie.Need-bounds-out-at
slice-write-out c = byte_inside c.requires

add-result : tie.Need-overflow_add-result
add-result c = search rules

same_length : tie.Need-shape_of-out
same_length c = search rules

returns : tie.Need-returns
returns c = byte-walked _ _ _

pub put_byte_spec : {M : Type 1} → statement M
put_byte_spec = tie.close (tie.spec
    slice-write-out
    add-result
    same_length
    returns)
