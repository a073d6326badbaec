-- The laws of signed numbers as stored ones: each is had back from the other, and the ranges are each other's.
use Prim.Native.Nat.{ℕ, ◌+◌, ◌*◌, ◌/◌, ◌%◌}
use mathlib.Core.Path.{◌≡◌, refl, ap, ◌∙◌}
use mathlib.Core.Bool.{cond, Bool, true, false}
use native.Mathlib.Omega.{arith}
use borrow.Author.Tests.{eq-eqb, ne_eqb, eqb-true, eqb-false}
use lib.IntN.{ℤ, pos, negsuc}
use lib.Dec.{eqb}
use Rattle.numbers.specs.Signed.{stored, signed}

-- the signed number that an even one stands for, and an odd one
pub signed-even : (n : ℕ) → signed (2 * n) ≡ pos n
unfolding signed
signed-even n = rw (eq-eqb (2 * n % 2) 0 (omega arith)) (ap pos (omega arith))

pub signed_odd : (n : ℕ) → signed (2 * n + 1) ≡ negsuc n
unfolding signed
signed_odd n = rw (ne_eqb ((2 * n + 1) % 2) 0 (omega arith)) (ap negsuc (omega arith))

-- "the stored form and its exact inverse around zero"
pub signed-stored : (z : ℤ) → signed (stored z) ≡ z
unfolding stored
signed-stored (pos n) = signed-even n
signed-stored (negsuc n) = ap signed (omega arith) ∙ signed_odd n

pub stored-signed : (n : ℕ) → stored (signed n) ≡ n
unfolding stored signed
stored-signed n = go (eqb (n % 2) 0) refl
  where
    go : (even : Bool) → eqb (n % 2) 0 ≡ even → stored (cond even (pos (n / 2)) (negsuc (n / 2))) ≡ n
    go true e = omega (arith, eqb-true (n % 2) 0 e)
    go false e = omega (arith, eqb-false (n % 2) 0 e)
