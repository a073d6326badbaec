-- Each way out is one law of `Passed`.
use Rattle.std.proofs.Common.{arith}
use Rattle.journal.proofs.Putting.{refused-length, walked-within}
use Rattle.journal.proofs.Stepping.{formed}
use Rattle.journal.proofs.Passed.{going_more, going-ended}
use Rattle.journal.proofs.events.pass_events.Goals as goal

pub returns-in-IllFormed-clause-within : goal.returns-in-IllFormed-clause-within
returns-in-IllFormed-clause-within c =
    (c.loop-out.invariant.within, walked-within c.put_refusal-end.ensures (omega (arith, c.loop-out.invariant.fits, refused-length 1)))

pub returns-in-IllFormed-clause-lines : goal.returns-in-IllFormed-clause-lines
returns-in-IllFormed-clause-lines c = going-ended c.loop-out.invariant (omega (arith, c.loop-out.invariant.fits)) c.in-IllFormed.ensures c.put_refusal-end.ensures

pub put_line-used-requires-clause-places : goal.put_line-used-requires-clause-places
put_line-used-requires-clause-places c = (formed c.step_event-answer.ensures.running).sized.places

pub put_line-used-requires-clause-groups : goal.put_line-used-requires-clause-groups
put_line-used-requires-clause-groups c = (formed c.step_event-answer.ensures.running).sized.groups

pub loop-out-preserved : goal.loop-out-preserved
loop-out-preserved c =
    going_more c.loop-out.invariant (omega (arith, c.loop-out.invariant.fits)) c.in-Number.ensures c.step_event-answer.ensures
    c.unplaced_numbers-numbers.ensures c.put_line-used.ensures
