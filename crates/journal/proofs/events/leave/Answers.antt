-- What is left is refused.
use Rattle.std.proofs.Common.{sym, ◌∙◌, arith}
use Rattle.journal.proofs.Printing.{refused-prints}
use Rattle.journal.proofs.Runs.{lines-refused}
use Rattle.journal.proofs.events.leave.Goals as goal

pub returns-clause-within : goal.returns-clause-within
returns-clause-within c = (refused-prints 1 c.requires c.put_refusal.ensures).within

pub returns-clause-lines : goal.returns-clause-lines
returns-clause-lines c =
    λ bytes net s size none. (refused-prints 1 c.requires c.put_refusal.ensures).are ∙ sym (lines-refused net s bytes 1 (omega arith) none)
