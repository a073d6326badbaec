-- The bytes passed are walked.
use Rattle.std.proofs.Common.{true, [], ◌∷◌, length, get_or}
use Rattle.codec.proofs.Walk.{Walking}
use Rattle.journal.proofs.lines.put_text.Given as goal

abbrev pub invariant-loop-byte : goal.invariant-loop-byte
invariant-loop-byte l =
    Walking true l.fn.out l.at (length l.text) (λ j. get_or l.text j 0 ∷ []) l.byte-index l.out l.next
