-- A number is read back where it was written, and what is read at a position is written there again by the same bytes.
use Rattle.std.specs.Prelude.{Some}
use Prim.Native.Nat.{ℕ, ◌+◌, ◌≤◌}
use mathlib.Core.Path.{◌≡◌, refl, ap}
use mathlib.Core.Bool.{true}
use mathlib.Core.List.{List, ◌++◌, append_assoc}
use native.Mathlib.Omega.{arith}
use borrow.Author.Tests.{le-leb, leb-true}
use lib.ListN.{length, take, drop, take-append-drop}
use lib.Seq.{length-take-le, drop_at, drop-drop}
use Rattle.numbers.specs.Number.{largest, form, Found, found, nothing, number, after, number_at, room, written_at, write_at}
use Rattle.numbers.proofs.Number.{some-parts, read-write, write_read, number-within}

-- whatever stands around it
pub written_read : (out : List ℕ) (at n : ℕ) → n ≤ largest → room out at n ≡ true
    → (written_at out at n ≡ Some (at + length (form n))) × (number_at (write_at out at n) at ≡ Some (n, at + length (form n)))
unfolding written_at write_at room number_at after
written_read out at n small fits =
    let inside : at + length (form n) ≤ length out = leb-true (at + length (form n)) (length out) fits in
    let rest = drop (at + length (form n)) out in
    let found = drop_at (take at out) (form n ++ rest) at (length-take-le at out (omega arith)) in
    rw fits (refl, rw (append_assoc, found, read-write n rest small))

pub read-written : (bytes : List ℕ) (at n next : ℕ) → number_at bytes at ≡ Some (n, next)
    → (write_at bytes at n ≡ bytes) × (written_at bytes at n ≡ Some next)
unfolding number_at after written_at write_at room
read-written bytes at n next e = go (number (drop at bytes)) refl e
  where
    go : (f : Found) → number (drop at bytes) ≡ f → after at f ≡ Some (n, next)
        → (write_at bytes at n ≡ bytes) × (written_at bytes at n ≡ Some next)
    go nothing q u = absurd (let z : ◌≡◌ {A = ℕ} 0 1 = cc in omega arith)
    go (found m size) q u =
        let parts = some-parts u in
        let same : m ≡ n = parts.0 in
        let read = rw same at (write_read (drop at bytes) m size q) in
        let position : at + size ≡ next = parts.1 in
        let inside : at + length (form n) ≤ length bytes = omega (arith, number-within bytes at n next e) in
        rw (le-leb _ _ inside, ← read.1, append_assoc, ← drop-drop, ← read.2, take-append-drop) (refl, ap Some position)
