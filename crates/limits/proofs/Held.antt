-- What a caller of `after_limits` knows whose answer is refused by a refusal, or by any number.
use Rattle.std.proofs.Common.{◌≡◌, ℕ, ap, ◌∙◌}
use Rattle.std.specs.Prelude.{Result, Ok, Err}
use Rattle.theory.specs.Replies.{refusal}
use Rattle.codec.specs.declared.refusals.Refusal.{Refusal}
use Rattle.codec.specs.Refusals.{number, reply, number_reply}
use Rattle.codec.specs.Reader as Reader
use Rattle.codec.specs.Reader.{ok, no}
use Rattle.limits.specs.Weighing.{held_back}
use Rattle.limits.specs.Held.{HeldBack}

module _ {A V : Type 0} where
  -- a refusal becomes itself
  pub held-reply : (found : Reader.Result A) (answer held : Result V Refusal) → HeldBack (λ r e. e ≡ r) found answer held
      → reply held ≡ held_back found (reply answer)
  held-reply (ok a left) answer held same = ap reply same
  held-reply (no n) answer (Ok v) told = absurd told.2
  held-reply (no n) answer (Err e) told = ap refusal (ap number told.2 ∙ told.1)

  -- a refusal becomes its number
  pub held-number : (found : Reader.Result A) (answer held : Result V ℕ) → HeldBack (λ r n. n ≡ number r) found answer held
      → number_reply held ≡ held_back found (number_reply answer)
  held-number (ok a left) answer held same = ap number_reply same
  held-number (no n) answer (Ok v) told = absurd told.2
  held-number (no n) answer (Err m) told = ap refusal (told.2 ∙ told.1)
