-- What follows the bytes changes no number in them.
use Rattle.std.proofs.Common.{sym, ◌∙◌}
use Rattle.journal.proofs.Telling.{tells-number}
use Rattle.journal.proofs.input.next_number.Goals as goal

pub returns-in-Some : goal.returns-in-Some
returns-in-Some c = tells-number _ _ _ _ (sym c.read_number.ensures ∙ c.in-Some.is)
