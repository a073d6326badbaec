-- `codec::put::number_end` meets its contract.
use mathlib.Core.Path.{sym}
use native.Mathlib.Omega.{arith}
use borrow.Author.Rules.{rules}
use Rattle.codec.proofs.Walk.{reached, past}
use Rattle.codec.proofs.put.number_end.Statement.{statement}
use Rattle.codec.proofs.put.number_end.Tie as tie

number-length-requires : tie.Need-number_length-size-requires
number-length-requires c κs = search rules

sub-if1 : tie.Need-overflow_sub-size
sub-if1 c = search rules

returns : tie.Need-returns-then-size-at
returns c = sym (past _ _ (omega (arith, c.number_length-size.ensures)))

add-result : tie.Need-overflow_add-result
add-result c = search rules

returns-2 : tie.Need-returns
returns-2 c = rw c.number_length-size.ensures (sym (reached _ _ (omega (arith, c.number_length-size.ensures))))

pub number_end_spec : {M : Type 1} → statement M
number_end_spec = tie.close (tie.spec
    number-length-requires
    sub-if1
    returns
    add-result
    returns-2)
