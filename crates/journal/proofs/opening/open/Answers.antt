-- The net that is read is the one that is printed by; a refusal is all that is printed.
use Rattle.std.proofs.Common.{sym, ◌∙◌}
use Rattle.codec.specs.Refusals.{number}
use Rattle.description.proofs.Answered.{read-checked}
use Rattle.journal.proofs.Printing.{printed-described, refused-prints}
use Rattle.journal.proofs.Stepping.{begun-net, begun-refused, fresh-running, fresh_lines}
use Rattle.journal.proofs.opening.open.Goals as goal

pub returns-in-Ok-clause-starts : goal.returns-in-Ok-clause-starts
returns-in-Ok-clause-starts c =
    let told = begun-net _ _ (sym c.in-Ok.ensures) in
    fresh-running _ (read-checked _ _ told.0) told.1

pub returns-in-Ok-clause-opened : goal.returns-in-Ok-clause-opened
returns-in-Ok-clause-opened c =
    let told = begun-net _ _ (sym c.in-Ok.ensures) in
    λ size e sized rest. printed-described sized rest _ e c.requires.end _ told.0 ∙ fresh_lines _ (read-checked _ _ told.0) told.1 _

pub returns-in-Err-clause-starts : goal.returns-in-Err-clause-starts
returns-in-Err-clause-starts c = (refused-prints (number c.in-Err.refusal) c.requires.out c.put_refusal.ensures).within

pub returns-in-Err-clause-opened : goal.returns-in-Err-clause-opened
returns-in-Err-clause-opened c =
    λ size e sized rest.
    (refused-prints (number c.in-Err.refusal) c.requires.out c.put_refusal.ensures).are
    ∙ sym (printed-described sized rest _ e c.requires.end _ (begun-refused _ _ (sym c.in-Err.ensures)))
