-- Buffers: what stays of one that is read into.
use Prim.Native.Nat.{ℕ, ◌≤◌}
use mathlib.Core.Path.{◌≡◌}
use mathlib.Core.List.{List}
use lib.ListN.{length, take}

-- the first bytes of a buffer are kept
pub record Kept (before : List ℕ) (held : ℕ) (space : List ℕ) : Type 0 where
  pub long : length space ≡ length before
  pub same : take held space ≡ take held before

-- they are, and so many bytes of the buffer are read
pub record Filling (before : List ℕ) (held : ℕ) (space : List ℕ) (end : ℕ) : Type 0 where
  pub grown : held ≤ end
  pub within : end ≤ length space
  pub kept : Kept before held space
