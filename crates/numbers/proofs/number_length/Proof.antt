-- `numbers::number_length` meets its contract: where the highest set bit of the number is at place j, it has j / 7 + 1 groups of seven bits.
use Prim.Native.Nat.{ℕ, zero, suc, ◌-◌, ◌*◌, ◌/◌, ◌^◌, ◌≤◌, ◌<◌, max}
use mathlib.Core.Path.{◌≡◌, refl}
use native.Mathlib.Omega.{arith}
use native.Mathlib.Nat.{mul-suc, pow-suc}
use borrow.Author.Rules.{rules}
use lib.ListN.{length}
use lib.Pow.{pow_mono, pow-add}
use lib.Count.{count_leading_zeros, leading_le, leading_top}
use Rattle.numbers.specs.Number.{form}
use Rattle.numbers.proofs.Number.{form-last, form-length-is}
use Rattle.numbers.proofs.number_length.Statement.{statement}
use Rattle.numbers.proofs.number_length.Tie as tie

-- the power of 128 as one of 2
seven : (k : ℕ) → 2 ^ (7 * k) ≡ 128 ^ k
seven zero = refl
seven (suc k) = rw (mul-suc 7 k, pow-add 2 (7 * k) 7, seven k, pow-suc 128 k)

length-from-zeros : (n : ℕ) → 0 < n → n < 2 ^ 32 → (38 - count_leading_zeros 32 n) / 7 ≡ length (form n)
length-from-zeros n positive below =
    let top = leading_top 32 n positive below in
    let k = top.0 / 7 in
    let low = pow_mono {i = 7 * k} {j = top.0} (omega arith) in
    let high = pow_mono {i = suc top.0} {j = 7 * suc k} (omega arith) in
    let within : (128 ^ k ≤ max 1 n) × (n < 128 ^ suc k) = omega (arith, seven k, seven (suc k)) in
    omega (arith, (form-length-is n k (omega arith)).1 within)

returns : tie.Need-returns-then-number-lt128
returns c = rw (form-last c.before.args.number c.if-number-lt128.true)

sub-result : tie.Need-overflow_sub-result
sub-result c = omega (arith, leading_le 32 c.before.args.number)

cast-result : tie.Need-overflow_cast-result
cast-result c = search rules

returns-2 : tie.Need-returns
returns-2 c = length-from-zeros c.before.args.number (omega (arith, c.if-number-lt128.false)) c.before.ranges.number.fits

pub number_length_spec : {M : Type 1} → statement M
number_length_spec = tie.close (tie.spec
    returns
    sub-result
    cast-result
    returns-2)
