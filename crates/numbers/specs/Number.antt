-- Stored numbers: their bytes, and what stands at a position of a byte list (01, "Bytes").
use Rattle.std.specs.Prelude.{ℕ, zero, suc, ◌+◌, ◌-◌, ◌*◌, ◌/◌, ◌%◌, List, [], ◌∷◌, ◌++◌, Bool, cond, length, take, drop, ltb, leb, eqb, Option, Some, None}

-- "at most 4,294,967,295"
abbrev pub largest : ℕ
largest = 4294967295

-- "groups of seven bits": no number has more bytes
abbrev pub longest_number : ℕ
longest_number = 5

-- ---- the bytes of a number

-- "groups of seven bits, least significant first, top bit of the byte set on all but the last; shortest form": the groups of n,
-- of which at most k have others after them
unfoldable pub groups : ℕ → ℕ → List ℕ
groups zero n = n ∷ []
groups (suc k) n = cond (ltb n 128) (n ∷ []) ((128 + n % 128) ∷ groups k (n / 128))

-- the stored form of n, up to the largest: five groups hold 35 bits
unfoldable pub form : ℕ → List ℕ
form n = groups 4 n

-- ---- the number that a byte list begins with

-- the number and how many bytes it takes, or nothing
pub data Found : Type 0 where
  found : ℕ → ℕ → Found
  nothing : Found

-- one group put before those of `rest`, whose form is not the shortest if `rest` is zero
unfoldable pub before : ℕ → Found → Found
before group nothing = nothing
before group (found rest size) = cond (eqb rest 0) nothing (found (group + 128 * rest) (size + 1))

-- a seven-bit form of any size at the front of the bytes; nothing if it is incomplete or not the shortest
unfoldable pub front : List ℕ → Found
front [] = nothing
front (byte ∷ bytes) =
    let more = before (byte - 128) (front bytes) in
    cond (ltb byte 128) (found byte 1) (cond (ltb byte 256) more nothing)

-- nothing if the number is too large
unfoldable pub small : Found → Found
small nothing = nothing
small (found n size) = cond (leb n largest) (found n size) nothing

-- "Is each stored number complete, shortest and small enough?"
unfoldable pub number : List ℕ → Found
number bytes = small (front bytes)

-- ---- at a position, as the code answers

-- what was found, with the position after it
unfoldable pub after : ℕ → Found → Option (ℕ × ℕ)
after at nothing = None
after at (found n size) = Some (n, at + size)

-- what a reader finds at a position
unfoldable pub number_at : List ℕ → ℕ → Option (ℕ × ℕ)
number_at bytes at = after at (number (drop at bytes))

-- is there room for the form of n at a position?
unfoldable pub room : List ℕ → ℕ → ℕ → Bool
room out at n = leb (at + length (form n)) (length out)

-- the position after the form of n, if there is room for it
unfoldable pub written_at : List ℕ → ℕ → ℕ → Option ℕ
written_at out at n = cond (room out at n) (Some (at + length (form n))) None

-- the bytes with the form of n at a position, if there is room for it; the same bytes otherwise
unfoldable pub write_at : List ℕ → ℕ → ℕ → List ℕ
write_at out at n = cond (room out at n) (take at out ++ form n ++ drop (at + length (form n)) out) out
