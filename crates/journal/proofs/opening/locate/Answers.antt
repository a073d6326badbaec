-- What is seen tells the size, or that there is none.
use Rattle.std.proofs.Common.{sym, ◌∙◌}
use Rattle.journal.proofs.Telling.{front-short}
use Rattle.journal.proofs.Printing.{none-printed, refused-prints}
use Rattle.journal.proofs.opening.locate.Goals as goal

pub returns : goal.returns
returns c = (front-short _ _ _ c.in-Number.ensures, record { within = c.in-Number.ensures.1; read = c.in-Number.ensures.2 })

pub returns-in_default : goal.returns-in_default
returns-in_default c =
    let prints = refused-prints 1 c.requires c.put_refusal.ensures in
    (prints.within, λ rest all. prints.are ∙ sym (none-printed _ rest _ c.in_default.not-Number c.next_number.ensures all))
