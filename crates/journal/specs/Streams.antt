-- What reads and writes move.
use Rattle.std.specs.Prelude.{ℕ, ◌+◌, ◌≤◌, ◌<◌, Option, Some, None, Result, Ok, Err}
use Rattle.journal.specs.declared.streams.Failed.{Failed}

-- the bytes that one call moved lie after the position, and before the end
abbrev pub Moves : ℕ → ℕ → Result (Option ℕ) Failed → Type 0
Moves at end (Ok (Some n)) = (0 < n) × (at + n ≤ end)
Moves at end (Ok None) = Unit
Moves at end (Err failed) = Unit

-- some bytes came, and lie within the buffer after those that it had
abbrev pub Came : ℕ → ℕ → Result (Option ℕ) Failed → Type 0
Came held room (Ok (Some n)) = (0 < n) × (held + n ≤ room)
Came held room (Ok None) = Unit
Came held room (Err failed) = Unit

-- the bytes that the buffer has lie within it, and are no fewer than it had
abbrev pub Holds : ℕ → ℕ → Result ℕ Failed → Type 0
Holds held room (Ok n) = (held ≤ n) × (n ≤ room)
Holds held room (Err failed) = Unit
