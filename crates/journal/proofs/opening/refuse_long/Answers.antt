-- What is seen is refused, whatever follows it.
use Rattle.std.proofs.Common.{◌≡◌, ◌+◌, ◌-◌, ◌≤◌, sym, ap, ◌∙◌, arith, length, take, drop, length-take, length-drop}
use lib.Seq.{take_all}
use Rattle.codec.specs.Refusals.{number}
use Rattle.numbers.specs.Number.{longest_number}
use Rattle.description.specs.Read.{longest_description, description_read}
use Rattle.journal.proofs.Printing.{printed-long, long-refused, refused-prints}
use Rattle.journal.proofs.opening.refuse_long.Goals as goal

pub returns-in-Ok-clause-printed : goal.returns-in-Ok-clause-printed
returns-in-Ok-clause-printed c =
    let seen = c.args.seen.now in
    let from = c.args.start in
    let long : longest_description + longest_number ≤ length (take (length seen - from) (drop from seen)) =
    simp (length-take, length-drop) (omega (arith, c.requires.seen)) in
    λ rest size sized beyond there. long-refused _ _ long (sym c.in-Ok.ensures)

pub returns-in-Err-clause-within : goal.returns-in-Err-clause-within
returns-in-Err-clause-within c = (refused-prints (number c.in-Err.refusal) c.requires.out c.put_refusal.ensures).within

pub returns-in-Err-clause-printed : goal.returns-in-Err-clause-printed
returns-in-Err-clause-printed c =
    let seen = c.args.seen.now in
    let from = c.args.start in
    let all : take (length seen - from) (drop from seen) ≡ drop from seen = take_all (length seen - from) (drop from seen) (simp length-drop (omega arith)) in
    λ rest size sized beyond there.
    (refused-prints (number c.in-Err.refusal) c.requires.out c.put_refusal.ensures).are
    ∙ sym (printed-long sized rest (simp length-drop (omega (arith, c.requires.seen))) beyond there _ (sym (ap description_read all) ∙ sym c.in-Err.ensures))
