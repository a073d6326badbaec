-- What the functions behind the journal say: what the bytes seen so far tell, and that what they put out is what is printed.
use Rattle.std.specs.Prelude.{ℕ, ◌+◌, ◌-◌, ◌≤◌, ◌<◌, ◌≡◌, List, [], ◌++◌, length, take, drop, get_or, Result, Ok, Err}
use Rattle.theory.specs.Replies.{Reply, value, ◌>>=◌}
use Rattle.theory.specs.Recording.{State, Alike, bound}
use Rattle.theory.specs.Answers.{judged}
use Rattle.numbers.specs.Number.{longest_number}
use Rattle.codec.specs.Reader.{ok, no, number}
use Rattle.net.specs.declared.Net.{Net}
use Rattle.net.specs.declared.Observer.{Observer}
use Rattle.net.specs.declared.Verdict.{Verdict}
use Rattle.net.specs.Bounds.{most_places, most_groups}
use Rattle.net.specs.View.{net_of}
use Rattle.net.specs.Check.{net_check}
use Rattle.net.specs.Observers.{fresh_observer}
use Rattle.net.specs.Answers.{answer_of}
use Rattle.description.specs.Read.{description_read}
use Rattle.journal.specs.declared.input.Next.{Next}
use Rattle.journal.specs.declared.input.Next.TheVariants.{Number, IllFormed, Short}
use Rattle.journal.specs.declared.events.Stop.{Stop}
use Rattle.journal.specs.declared.events.Pass.{Pass}
use Rattle.journal.specs.Printed.{state_after, lines, printed}

-- ---- numbers

-- what the bytes seen tell of the number at a position of the input, whatever follows them
abbrev pub Tells : List ℕ → ℕ → Next → Type 0
Tells seen at (Number n next) = (at < next) × (next ≤ length seen) × ((rest : List ℕ) → number (drop at seen ++ rest) ≡ ok n (drop next seen ++ rest))
Tells seen at IllFormed = (at < length seen) × ((rest : List ℕ) → number (drop at seen ++ rest) ≡ no 1)
Tells seen at Short = (length seen < at + longest_number) × (number (drop at seen) ≡ no 1)

-- ---- states in arrays

-- the state in arrays: estimates, and each group's own remainder at its number less 1
abbrev pub state_in : List ℕ → List ℕ → State
state_in estimates remainders =
    record { estimate = λ p. get_or estimates p 0; low = λ g. get_or remainders (g - 1) 0; high = λ g. get_or remainders (g - 1) 0 }

-- arrays that a run of a net has
pub record Running (net : Net) (estimates remainders : List ℕ) : Type 0 where
  pub good : net_check net ≡ value tt
  pub long : length estimates ≡ most_places
  pub wide : length remainders ≡ most_groups
  pub small : (i : ℕ) → i < net.groups.number → get_or remainders i 0 ≤ bound

-- ---- the description

-- the input begins with a size, and so many bytes of a description start at the position
pub record Sized (seen : List ℕ) (start size : ℕ) : Type 0 where
  pub within : start ≤ length seen
  pub read : (rest : List ℕ) → number (seen ++ rest) ≡ ok size (drop start seen ++ rest)

-- where the description starts and its size, or all that is printed: no input goes on after less than five bytes that tell no number
abbrev pub Locates : List ℕ → List ℕ → Result (ℕ × ℕ) ℕ → Type 0
Locates seen out (Ok located) = (located.0 ≤ longest_number) × Sized seen located.0 located.1
Locates seen out (Err used) =
    (used ≤ length out) × ((rest : List ℕ) → (length seen < longest_number → rest ≡ []) → take used out ≡ printed (seen ++ rest))

-- the net that the bytes describe, and its fresh observer
abbrev pub begun : List ℕ → Reply (Net × Observer)
begun d = do
  net ← description_read d
  observer ← fresh_observer net
  value (net, observer)

-- arrays that a run of the net has, or bytes that were put out
abbrev pub Starts : List ℕ → Result (Net × Observer) ℕ → Type 0
Starts out (Ok opened) = Running opened.0 opened.1.estimates opened.1.remainders
Starts out (Err used) = used ≤ length out

-- the net and the lines that are left to print, or all that is printed
abbrev pub Opens : List ℕ → ℕ → List ℕ → Result (Net × Observer) ℕ → Type 0
Opens seen end out (Ok opened) =
    (rest : List ℕ) → printed (seen ++ rest) ≡ lines (net_of opened.0) (state_in opened.1.estimates opened.1.remainders) (drop end seen ++ rest)
Opens seen end out (Err used) = (rest : List ℕ) → take used out ≡ printed (seen ++ rest)

-- ---- events

-- an event is judged and recorded
pub record Steps (net : Net) (event : ℕ) (estimates remainders after left : List ℕ) (answer : Reply Verdict) : Type 0 where
  pub judges : answer ≡ answer_of (judged (net_of net) (state_in estimates remainders) event)
  pub leaves : Alike (net_of net) (state_in after left) (state_after (net_of net) (state_in estimates remainders) event)
  pub running : Running net after left

-- what is left to print when a pass stops
abbrev pub lines_left : Stop → List ℕ → List ℕ
lines_left Stop.Full rest = rest
lines_left Stop.Short rest = rest
lines_left Stop.Ended rest = []

-- the bytes before the position are passed, and their lines are put out
pub record Passes (net : Net) (seen : List ℕ) (from : ℕ) (estimates remainders after left out : List ℕ) (r : Pass) : Type 0 where
  pub running : Running net after left
  pub are : (rest : List ℕ)
      → lines (net_of net) (state_in estimates remainders) (drop from seen ++ rest)
      ≡ take r.used out ++ lines_left r.stop (lines (net_of net) (state_in after left) (drop r.at seen ++ rest))

-- what is seen of a position is short of a number
abbrev pub Unfinished : Stop → List ℕ → ℕ → Type 0
Unfinished Stop.Full seen at = Unit
Unfinished Stop.Short seen at = (length seen < at + longest_number) × (number (drop at seen) ≡ no 1)
Unfinished Stop.Ended seen at = Unit
