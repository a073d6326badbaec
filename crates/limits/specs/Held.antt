-- An answer that waits for the limits, whose error is the caller's (01: "at one number the lowest refusal wins").
use Rattle.std.specs.Prelude.{◌≡◌, Result, IsErrAnd}
use Rattle.codec.specs.declared.refusals.Refusal.{Refusal}
use Rattle.codec.specs.Refusals.{number}
use Rattle.codec.specs.Reader as Reader
use Rattle.codec.specs.Reader.{ok, no}

-- the answer as it was, or an error that `gives` makes of the limits' refusal
abbrev pub HeldBack : {A V E : Type 0} → (Refusal → E → Type 0) → Reader.Result A → Result V E → Result V E → Type 0
HeldBack gives (ok a left) answer held = held ≡ answer
HeldBack gives (no n) answer held = (r : Refusal) × (number r ≡ n) × IsErrAnd held (gives r)
