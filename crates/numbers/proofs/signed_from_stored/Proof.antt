-- `numbers::signed_from_stored` meets its contract: the half is below 2 ^ 63, and its bits turned over are those of -half - 1.
use Prim.Native.Nat.{suc, ◌-◌, ◌/◌, ◌%◌, ◌^◌}
use mathlib.Core.Path.{◌≡◌}
use native.Mathlib.Omega.{arith}
use borrow.Author.Rules.{rules}
use borrow.Author.Tests.{eq-eqb, ne_eqb}
use mir.Syntax.{w64}
use mir.Facts.{to_z_pos, to_z-neg}
use Rattle.numbers.specs.Signed.{signed}
use Rattle.numbers.proofs.signed_from_stored.Statement.{statement}
use Rattle.numbers.proofs.signed_from_stored.Tie as tie

cast-half : tie.Need-overflow_cast-half
cast-half c = search rules

returns : tie.Need-returns-then-n-eq0
unfolding signed
returns c = rw (eq-eqb (c.before.args.n % 2) 0 (omega arith)) (to_z_pos w64 (omega arith))

returns-2 : tie.Need-returns-else-n-eq0
unfolding signed
returns-2 c =
    let half = c.before.args.n / 2 in
    let turned : 18446744073709551615 - half ≡ 2 ^ 64 - suc half = omega arith in
    rw (ne_eqb (c.before.args.n % 2) 0 (omega arith), turned) (to_z-neg w64 half (omega arith))

pub signed_from_stored_spec : {M : Type 1} → statement M
signed_from_stored_spec = tie.close (tie.spec
    cast-half
    returns
    returns-2)
