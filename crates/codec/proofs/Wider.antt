-- A reader that is wider than another accepts what the other accepts, with the same value and the same bytes left.
use Prim.Native.Nat.{ℕ, zero, suc, ◌≤◌}
use mathlib.Core.Path.{◌≡◌, refl}
use mathlib.Core.Bool.{Bool, true, false, cond}
use mathlib.Core.List.{List}
use native.Mathlib.Omega.{arith}
use borrow.Author.Tests.{leb-true, le-leb}
use lib.Dec.{leb}
use Rattle.codec.specs.Reader.{ok, Reader, ◌>>=◌, ask, many}
use Rattle.codec.proofs.Inverse.{no_ok, bind-then}

pub record Wider {A : Type 0} (narrow wide : Reader A) : Type 0 where
  pub accepts : (bytes : List ℕ) (a : A) (left : List ℕ) → narrow bytes ≡ ok a left → wide bytes ≡ ok a left

pub same : {A : Type 0} {reader : Reader A} → Wider reader reader
same = record { accepts = λ bytes a left e. e }

-- one reader, and then another on what it found
pub wider-then : {A B : Type 0} {narrow wide : Reader A} {next onward : A → Reader B} → Wider narrow wide → ((a : A) → Wider (next a) (onward a))
    → Wider (narrow >>= next) (wide >>= onward)
wider-then {narrow} {next} first rest =
    record {
      accepts = λ bytes b left e.
          bind-then narrow next e λ a middle r e.
          rw (first.accepts bytes a middle r) ((rest a).accepts middle b left e);
    }

-- the same reader, and then another on what it found
pub wider-after : {A B : Type 0} (reader : Reader A) {next onward : A → Reader B} → ((a : A) → Wider (next a) (onward a))
    → Wider (reader >>= next) (reader >>= onward)
wider-after reader rest = wider-then (same {reader = reader}) rest

-- whether a number is at most a bound
pub wider-bound : {low high : ℕ} → low ≤ high → (n refusal : ℕ) → Wider (ask (leb n low) refusal) (ask (leb n high) refusal)
wider-bound {low} {high} h n refusal = go (leb n low) refl
  where
    go : (t : Bool) → leb n low ≡ t → Wider (ask t refusal) (ask (leb n high) refusal)
    go true u = record { accepts = λ bytes a left e. rw (le-leb n high (omega (arith, leb-true n low u))) e }
    go false u = record { accepts = λ bytes a left e. no_ok e }

pub wider-either : {A : Type 0} (t : Bool) {a b c d : Reader A} → Wider a c → Wider b d → Wider (cond t a b) (cond t c d)
wider-either true first second = first
wider-either false first second = second

pub wider-many : {A : Type 0} (n : ℕ) {narrow wide : Reader A} → Wider narrow wide → Wider (many n narrow) (many n wide)
unfolding many
wider-many zero w = same
wider-many (suc n) w = wider-then w λ a. wider-then (wider-many n w) λ rest. same
