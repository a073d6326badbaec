-- The events that are left lead to where all lead.
use Rattle.std.proofs.Common.{◌≡◌, drop}
use Rattle.rounds.specs.Rounds.{rounds}
use Rattle.rounds.proofs.after_events.Given as goal

abbrev pub invariant-loop-event : goal.invariant-loop-event
invariant-loop-event l = rounds l.net l.current (drop l.event-index l.events) ≡ rounds l.net l.initial.current l.events
