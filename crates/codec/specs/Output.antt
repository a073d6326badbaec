-- What a call that writes answers and leaves in the lent output, from the reply that is to be written (01: "Calls that write .. answer a refusal
-- or the number of bytes written to each output"; "A refusal writes nothing. Success writes the first bytes only.").
use Rattle.std.specs.Prelude.{ℕ, ◌&&◌, List, ◌++◌, length, drop, leb, Option, Some, None}
use Rattle.theory.specs.Replies.{Reply, value, refusal, ◌>>=◌, question}
use Rattle.theory.specs.Answers.{no_room}

-- "Does the result fit the lent output? 13"
abbrev pub fitting : ℕ → Reply (List ℕ) → Reply (List ℕ)
fitting room reply = do
  b ← reply
  _ ← question (leb (length b) room) no_room
  value b

-- the number of bytes written, or the refusal
abbrev pub wrote_of : Reply (List ℕ) → Reply ℕ
wrote_of (value b) = value (length b)
wrote_of (refusal n) = refusal n

-- what a number that is written tells: the position after it, or that it does not fit
abbrev pub written_reply : Option ℕ → Reply ℕ
written_reply (Some at) = value at
written_reply None = refusal no_room

-- the output with the bytes at its front, or as it was
abbrev pub left_of : List ℕ → Reply (List ℕ) → List ℕ
left_of out (value b) = b ++ drop (length b) out
left_of out (refusal n) = out

-- the answer of a call with so much room
abbrev pub answer : ℕ → Reply (List ℕ) → Reply ℕ
answer room reply = wrote_of (fitting room reply)

-- what it leaves in the output
abbrev pub left : List ℕ → Reply (List ℕ) → List ℕ
left out reply = left_of out (fitting (length out) reply)

-- ---- two outputs, of which both are written or neither

-- a description and a state
pub record Pair : Type 0 where
  pub description : List ℕ
  pub state : List ℕ

-- question 13 of both
abbrev pub both_fitting : ℕ → ℕ → Reply Pair → Reply Pair
both_fitting described room reply = do
  pair ← reply
  _ ← question (leb (length pair.description) described && leb (length pair.state) room) no_room
  value pair

-- the number of bytes written to each output, or the refusal
abbrev pub wrote_both_of : Reply Pair → Reply (ℕ × ℕ)
wrote_both_of (value pair) = value (length pair.description, length pair.state)
wrote_both_of (refusal n) = refusal n

-- the bytes for each output
abbrev pub description_part : Reply Pair → Reply (List ℕ)
description_part reply = do
  pair ← reply
  value pair.description

abbrev pub state_part : Reply Pair → Reply (List ℕ)
state_part reply = do
  pair ← reply
  value pair.state

-- the answer of a call with so much room for each
abbrev pub both_answer : ℕ → ℕ → Reply Pair → Reply (ℕ × ℕ)
both_answer described room reply = wrote_both_of (both_fitting described room reply)

-- what it leaves in each
abbrev pub description_left : List ℕ → List ℕ → Reply Pair → List ℕ
description_left described out reply = left_of described (description_part (both_fitting (length described) (length out) reply))

abbrev pub state_left : List ℕ → List ℕ → Reply Pair → List ℕ
state_left described out reply = left_of out (state_part (both_fitting (length described) (length out) reply))
