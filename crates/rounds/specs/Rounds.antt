-- Events judged one after the other, those that are allowed recorded, through the calls on values.
use Rattle.std.specs.Prelude.{ℕ, List, [], ◌∷◌}
use Rattle.theory.specs.Replies.{Reply, ◌>>=◌, value, refusal}
use Rattle.net.specs.declared.Net.{Net}
use Rattle.net.specs.declared.Observer.{Observer}
use Rattle.net.specs.declared.Verdict.{Verdict}
use Rattle.net.specs.declared.Verdict.TheVariants.{Allow, Hold}
use Rattle.net.specs.Answers.{answer_of}
use Rattle.net.specs.Observers.{fresh_observer}
use Rattle.description.specs.Read.{description_read}
use Rattle.values.specs.Values.{recorded_observer, observer_judged, observer_output}

-- the observer that recording leaves if the event is allowed, else the one before
abbrev pub where_allowed : Reply Verdict → Reply Observer → Observer → Observer
where_allowed (value Allow) (value after) before = after
where_allowed (value Allow) (refusal n) before = before
where_allowed (value (Hold limit)) recorded before = before
where_allowed (refusal n) recorded before = before

-- the observer after an event
unfoldable pub round : Net → Observer → ℕ → Observer
round net o event = where_allowed (answer_of (observer_judged net o event)) (recorded_observer net o event) o

-- the observer after all events
unfoldable pub rounds : Net → Observer → List ℕ → Observer
rounds net o [] = o
rounds net o (event ∷ events) = rounds net (round net o event) events

-- from fresh, of a net that is described: its state in the end
unfoldable pub rounds_reply : List ℕ → List ℕ → Reply (List ℕ)
rounds_reply d events = do
  net ← description_read d
  fresh ← fresh_observer net
  observer_output net (rounds net fresh events)

-- the number of a refusal, or 0
abbrev pub refusal_or0 : Reply ℕ → ℕ
refusal_or0 (value n) = 0
refusal_or0 (refusal n) = n
