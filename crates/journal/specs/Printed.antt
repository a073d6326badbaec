-- What the journal prints for its whole input (01, "The pool of three": "The journal program reads a stored number (description length), the
-- description, then event numbers until input ends. It judges and then records each, held ones too.").
use Rattle.std.specs.Prelude.{ℕ, zero, suc, cond, List, [], ◌∷◌, ◌++◌, leb, length, take, drop}
use Rattle.theory.specs.Nets as Theory
use Rattle.theory.specs.Recording.{State, fresh, unplaced}
use Rattle.theory.specs.Replies.{Reply, value, refusal}
use Rattle.theory.specs.Answers.{recorded, judged}
use Rattle.codec.specs.Reader.{Result, ok, no, Reader, ◌>>=◌, number}
use Rattle.net.specs.declared.Net.{Net}
use Rattle.net.specs.View.{net_of}
use Rattle.net.specs.Answers.{answer_of}
use Rattle.description.specs.Read.{description_read}
use Rattle.journal.specs.Lines.{line_bytes, refused_bytes}

-- ---- events

-- a refused event leaves the state as it was
abbrev pub kept_state : State → Reply State → State
kept_state s (value after) = after
kept_state s (refusal n) = s

-- the state after an event number
abbrev pub state_after : Theory.Net → State → ℕ → State
state_after net s event = kept_state s (recorded net s event)

-- its line
abbrev pub line : Theory.Net → State → ℕ → List ℕ
line net s event =
    let after = state_after net s event in
    line_bytes event (answer_of (judged net s event)) net.places after.estimate net.groups.number (λ i. unplaced net after (suc i))

-- "so does an ill-formed event number"
abbrev pub on_event : (ℕ → List ℕ → List ℕ) → Result ℕ → List ℕ
on_event next (ok event left) = next event left
on_event next (no n) = refused_bytes n

-- the lines of the event numbers in the bytes, of which there are at most k
unfoldable pub lines_up_to : ℕ → Theory.Net → State → List ℕ → List ℕ
lines_up_to zero net s bytes = []
lines_up_to (suc k) net s [] = []
lines_up_to (suc k) net s (byte ∷ bytes) =
    on_event (λ event left. line net s event ++ lines_up_to k net (state_after net s event) left) (number (byte ∷ bytes))

-- each number takes a byte at least
unfoldable pub lines : Theory.Net → State → List ℕ → List ℕ
lines net s bytes = lines_up_to (length bytes) net s bytes

-- ---- the description

-- the first bytes; "a length that is .. past the input (1)"
abbrev pub first : ℕ → Reader (List ℕ)
first size bytes = cond (leb size (length bytes)) (ok (take size bytes) (drop size bytes)) (no 1)

-- the net that the bytes describe
abbrev pub whole : Reply Net → Reader Net
whole (value net) bytes = ok net bytes
whole (refusal n) bytes = no n

-- "a stored number (description length), the description"
unfoldable pub opening : Reader Net
opening = do
  size ← number
  d ← first size
  whole (description_read d)

-- "A refused description, or a length that is ill-formed or past the input (1), prints `refused N` and ends"
abbrev pub printed_from : Result Net → List ℕ
printed_from (ok net left) = lines (net_of net) (fresh (net_of net)) left
printed_from (no n) = refused_bytes n

unfoldable pub printed : List ℕ → List ℕ
printed input = printed_from (opening input)
