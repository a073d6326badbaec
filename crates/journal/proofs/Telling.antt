-- What the first bytes of an input tell of the number at a position.
use Rattle.std.specs.Prelude.{Some, None}
use Prim.Native.Nat.{ℕ, ◌+◌, ◌≤◌}
use mathlib.Core.Path.{◌≡◌, ap, ◌∙◌}
use mathlib.Core.List.{List, [], ◌++◌}
use native.Mathlib.Omega.{arith}
use lib.ListN.{length, drop, length-drop, length-append}
use Rattle.numbers.specs.Number.{longest_number, number_at}
use Rattle.numbers.proofs.Number.{number-within, form-length-bounds}
use Rattle.codec.specs.Reader.{no, number}
use Rattle.codec.proofs.Reader.{number-at, number-none}
use Rattle.codec.proofs.Inverse.{number-back}
use Rattle.codec.proofs.Longest.{extended, number-longer, number-extended}
use Rattle.journal.specs.declared.input.Next.TheVariants as Next
use Rattle.journal.specs.Passing.{Tells}

module _ (seen : List ℕ) (at : ℕ) where
  pub tells-number : (n next : ℕ) → number_at seen at ≡ Some (n, next) → Tells seen at (Next.Number n next)
  tells-number n next e =
      let within = number-within seen at n next e in
      (within.0, within.1, λ rest. number-longer (drop at seen) rest n (drop next seen) (number-at seen at n next e))

  -- fewer than five bytes may yet be followed by more of the number
  pub told_short : number_at seen at ≡ None → number (drop at seen) ≡ no 1
  told_short e = number-none seen at e

  pub told_none : (rest : List ℕ) → at + longest_number ≤ length seen → number_at seen at ≡ None → number (drop at seen ++ rest) ≡ no 1
  told_none rest enough e =
      number-extended (drop at seen) rest (simp length-drop (omega arith)) ∙ ap (extended rest) (number-none seen at e)

-- a number at the front has at most five bytes
pub front-short : (seen : List ℕ) (n next : ℕ) → Tells seen 0 (Next.Number n next) → next ≤ longest_number
front-short seen n next tells =
    omega
    (arith, form-length-bounds n, tells.1, simp (length-append, length-drop) at (ap length (number-back (seen ++ []) n (drop next seen ++ []) (tells.2 [])).1))

-- what the absence of a number tells
pub ruleset telling = (told_short, told_none)
