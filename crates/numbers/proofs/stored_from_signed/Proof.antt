-- `numbers::stored_from_signed` meets its contract: each arm doubles a number below 2 ^ 63, which is n itself or, where n is -(k + 1), what its bits turned over
-- say: k.
use Prim.Native.Nat.{ℕ, suc, ◌+◌, ◌*◌, ◌-◌, ◌<◌, ◌^◌}
use mathlib.Core.Path.{◌≡◌}
use mathlib.Core.Bool.{true, false}
use native.Mathlib.Omega.{arith}
use borrow.Author.Tests.{ltb-true}
use lib.Dec.{T}
use lib.IntN.{ℤ, pos, negsuc, nat_abs}
use lib.Signed.{lt_z, non_neg}
use mir.Syntax.{w64}
use mir.Val.{Fits, SFits, of_z, to_z}
use mir.Facts.{to_z_pos, to_z-of_z}
use Rattle.numbers.specs.Signed.{stored}
use Rattle.numbers.proofs.stored_from_signed.Statement.{statement}
use Rattle.numbers.proofs.stored_from_signed.Tie as tie

-- an arm's half of what n is stored as
record Half (n half : ℤ) (odd : ℕ) : Type 0 where
  value : ℕ
  small : value < 2 ^ 63
  is : half ≡ pos value
  doubled : value * 2 + odd ≡ stored n

cast : {n half : ℤ} {odd : ℕ} → Half n half odd → T (non_neg half) × Fits w64 (nat_abs half)
cast h = rw h.is (tt, record { fits = omega (arith, h.small) })

twice : {n half : ℤ} {odd : ℕ} → Half n half odd → nat_abs half * 2 + 1 < 2 ^ 64
twice h = rw h.is (omega (arith, h.small))

half-below : (n : ℤ) → SFits w64 n → lt_z (to_z w64 (of_z w64 n)) (pos 0) ≡ true → Half n (to_z w64 (18446744073709551615 - of_z w64 n)) 1
unfolding stored
half-below (pos k) f t = absurd (omega (arith, ltb-true k 0 (rw (to_z-of_z f) at t)))
half-below (negsuc k) f t =
    let turned : 18446744073709551615 - (2 ^ 64 - suc k) ≡ k = omega (arith, f.sfits) in
    record { value = k; small = f.sfits; is = rw turned (to_z_pos w64 f.sfits); doubled = omega arith }

half-from : (n : ℤ) → SFits w64 n → lt_z (to_z w64 (of_z w64 n)) (pos 0) ≡ false → Half n (to_z w64 (of_z w64 n)) 0
unfolding stored
half-from (pos k) f t = record { value = k; small = f.sfits; is = to_z-of_z f; doubled = omega arith }
half-from (negsuc k) f t =
    let clash = rw (to_z-of_z f) at t in
    absurd (let z : ◌≡◌ {A = ℕ} 0 1 = cc in omega arith)

abbrev Below : tie.Then-n-lt0 → Type 0
Below c = Half c.before.args.n (to_z w64 (18446744073709551615 - of_z w64 c.before.args.n)) 1

below : (c : tie.Then-n-lt0) → Below c
below c = half-below c.before.args.n c.before.ranges.n c.if-n-lt0.true

abbrev From : tie.Else-n-lt0 → Type 0
From c = Half c.before.args.n (to_z w64 (of_z w64 c.before.args.n)) 0

from : (c : tie.Else-n-lt0) → From c
from c = half-from c.before.args.n c.before.ranges.n c.if-n-lt0.false

cast-result : tie.Need-overflow_cast-result
cast-result c = cast (below c)

mul-result : tie.Need-overflow_mul-result
mul-result c = omega (arith, twice (below c))

add-result : tie.Need-overflow_add-result
add-result c = omega (arith, twice (below c))

cast-result-2 : tie.Need-overflow_cast-result-else-n-lt0
cast-result-2 c = cast (from c)

mul-result-2 : tie.Need-overflow_mul-result-else-n-lt0
mul-result-2 c = omega (arith, twice (from c))

returns : tie.Need-returns-then-n-lt0
returns c = rw (below c).is (below c).doubled

returns-2 : tie.Need-returns-else-n-lt0
returns-2 c = rw (from c).is (omega (arith, (from c).doubled))

pub stored_from_signed_spec : {M : Type 1} → statement M
stored_from_signed_spec =
    tie.close
    (tie.spec
    cast-result
    mul-result
    add-result
    cast-result-2
    mul-result-2
    returns
    returns-2)
