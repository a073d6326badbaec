-- A head count answers a number that an i64 holds: no description and no state has so many bytes that their two counts do not fit.
use Prim.Native.Nat.{ℕ}
use mathlib.Core.Path.{◌≡◌, refl, sym, subst}
use mathlib.Core.Bool.{Bool, true, false, ◌&&◌}
use mathlib.Core.List.{List}
use native.Mathlib.Omega.{arith}
use lib.Dec.{leb}
use lib.ListN.{length}
use Rattle.theory.specs.Replies.{Reply, value, refusal, ◌>>=◌, question}
use Rattle.theory.specs.Answers.{no_room}
use Rattle.codec.specs.Output.{Pair, wrote_both_of, both_answer}
use Rattle.observer.specs.Bytes.{count_reply}
use Rattle.observer.proofs.Counted.{counted-small}
use Rattle.host.specs.Numbers.{BothCountable}

pub both_countable : {wrote : Reply (ℕ × ℕ)} (described room : ℕ) (d s list : List ℕ) (n : ℕ) → wrote ≡ both_answer described room (count_reply d s list n)
    → BothCountable wrote
both_countable described room d s list n e = subst (λ (w : Reply (ℕ × ℕ)). BothCountable w) (sym e) (go (count_reply d s list n) refl)
  where
    within : (pair : Pair) → count_reply d s list n ≡ value pair → (t : Bool) → BothCountable (wrote_both_of (question t no_room >>= λ _. value pair))
    within pair u true = let small = counted-small d s list n pair u in omega (arith, small.0, small.1)
    within pair u false = tt

    go : (r : Reply Pair) → count_reply d s list n ≡ r → BothCountable (both_answer described room r)
    go (value pair) u = within pair u (leb (length pair.description) described && leb (length pair.state) room)
    go (refusal k) u = tt
