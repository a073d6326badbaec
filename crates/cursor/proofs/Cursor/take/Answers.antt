-- `cursor::Cursor::take`: what was read is what stands at the cursor, and the cursor goes to the position after it.
use Rattle.std.proofs.Common.{◌∙◌, ap}
use Rattle.cursor.specs.Cursors.{next, position_after}
use Rattle.cursor.proofs.Cursor.take.Goals as goal

pub returns : goal.returns
unfolding next
returns c =
    let from = c.args.self.now in
    let after = c.position_after-self.ensures ∙ ap (λ r. position_after r from.at) c.read_number-read.ensures in
    (c.read_number-read.ensures, ap (λ at. record { description = from.description; at = at }) after)
