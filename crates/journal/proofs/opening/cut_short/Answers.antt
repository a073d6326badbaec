-- The length goes past the input.
use Rattle.std.proofs.Common.{◌++◌, sym, ◌∙◌, drop}
use Rattle.journal.proofs.Printing.{printed-short, refused-prints}
use Rattle.journal.proofs.opening.cut_short.Goals as goal

pub returns-clause-within : goal.returns-clause-within
returns-clause-within c = (refused-prints 1 c.requires c.put_refusal.ensures).within

pub returns-clause-printed : goal.returns-clause-printed
returns-clause-printed c =
    λ seen rest start size sized less.
    (refused-prints 1 c.requires c.put_refusal.ensures).are ∙ sym (printed-short (seen ++ rest) (drop start seen ++ rest) size (sized.read rest) less)
