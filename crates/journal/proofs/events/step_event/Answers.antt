-- Each way out is one law of `Stepping`.
use Rattle.std.proofs.Common.{ℕ, ◌-◌, ◌≤◌, ◌<◌, ◌≡◌, ◌∙◌, sym, ap, Bool, true, arith}
use Rattle.std.proofs.lemmas.Result.{err_from_is_err_and}
use Rattle.codec.specs.Refusals.{reply}
use Rattle.net.specs.Check.{counted}
use Rattle.net.proofs.Check.{counted-true}
use Rattle.journal.proofs.Stepping.{none-steps, step-refused, step-recorded}
use Rattle.journal.proofs.events.step_event.Goals as goal

-- the event is one of the net's
among : {b : Bool} (most event : ℕ) → b ≡ counted most event → b ≡ true → (0 < event) × (event ≤ most)
among most event is holds = counted-true most event (sym is ∙ holds)

pub returns-then-not-counted : goal.returns-then-not-counted
returns-then-not-counted c = none-steps c.requires _ (sym c.counted.ensures ∙ c.if-not-counted.true)

pub overflow_sub-event : goal.overflow_sub-event
overflow_sub-event c = omega (arith, among c.args.net.events c.args.event c.counted.ensures c.if-not-counted.false)

pub overflow_sub-event-2 : goal.overflow_sub-event-2
overflow_sub-event-2 c = omega (arith, among c.args.net.events c.args.event c.counted.ensures c.if-not-counted.false)

pub returns-in_err-step : goal.returns-in_err-step
returns-in_err-step c =
    let event = c.args.event in
    let counts : (0 < event) × (event ≤ c.args.net.events) = among c.args.net.events event c.counted.ensures c.if-not-counted.false in
    let p = err_from_is_err_and c.from_residual.result c.from_residual.ensures.1 in
    rw (p.1, p.2)
    (step-refused c.requires event (event - 1) (omega arith) (omega arith) c.event_row-takes.ensures c.event_row-gives.ensures
    c.step.ensures _ (ap reply c.in_err-step.was))

pub returns : goal.returns
returns c =
    let event = c.args.event in
    let counts : (0 < event) × (event ≤ c.args.net.events) = among c.args.net.events event c.counted.ensures c.if-not-counted.false in
    step-recorded c.requires event (event - 1) (omega arith) (omega arith) c.event_row-takes.ensures c.event_row-gives.ensures
    c.step.ensures (ap reply c.in_ok-step.was) c.weigh_tables.ensures
