-- A walk over bytes that are measured or written: what it asks and what it leaves.
use Rattle.std.specs.Prelude.{ℕ, ◌+◌, ◌^◌, ◌≤◌, ◌<◌, ◌≡◌, List, Bool, true, cond, length, ltb}
use Rattle.std.proofs.lemmas.List.Edits.{sets}
use Rattle.numbers.specs.Number.{form, write_at}

-- what is left of an output if the bytes are written at a position, or only measured
unfoldable pub wrote : Bool → List ℕ → ℕ → List ℕ → List ℕ
wrote writing out at bytes = cond writing (sets out at bytes) out

-- the position after the bytes is a number, and if they are written there is room for them
pub record Room (writing : Bool) (out : List ℕ) (at : ℕ) (bytes : List ℕ) : Type 0 where
  pub counted : at + length bytes < 2 ^ 64
  pub inside : writing ≡ true → at + length bytes ≤ length out

-- the position after the bytes, and what is left
pub record Walked (writing : Bool) (out : List ℕ) (at : ℕ) (bytes after : List ℕ) (next : ℕ) : Type 0 where
  pub position : next ≡ at + length bytes
  pub left : after ≡ wrote writing out at bytes

-- ---- one number

-- the position after it, or the same one if no position is so large
unfoldable pub number_end : ℕ → ℕ → ℕ
number_end at n = cond (ltb (at + length (form n)) (2 ^ 64)) (at + length (form n)) at

-- what is left of an output: it is written at the position if there is room for it, or only measured
unfoldable pub put_at : Bool → List ℕ → ℕ → ℕ → List ℕ
put_at writing out at n = cond writing (write_at out at n) out
