-- The places passed have `count` terms.
use Rattle.std.proofs.Common.{◌+◌, ◌-◌, get_or, pos}
use Rattle.codec.proofs.Counting.{Counting}
use Rattle.writing.specs.Walk.{term_used}
use Rattle.writing.proofs.limits.count_terms.Given as goal

abbrev pub invariant-loop-offset : goal.invariant-loop-offset
invariant-loop-offset l =
    Counting l.places (λ i. term_used (get_or l.weights (l.first + i) (pos 0))) (l.offset - l.first) l.count
