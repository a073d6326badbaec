-- A number is read group by group, the lowest first: what the groups so far leave to be read, and what each next group makes of it.
use Rattle.std.specs.Prelude.{Some, None}
use Prim.Native.Nat.{ℕ, zero, suc, ◌+◌, ◌-◌, ◌*◌, ◌^◌, ◌≤◌, ◌<◌}
use mathlib.Core.Path.{◌≡◌, refl, sym, ap, ap₂, ◌∙◌}
use mathlib.Core.List.{List}
use native.Mathlib.Nat.{mul-le-mul_right}
use native.Mathlib.Omega.{arith}
use borrow.Author.Tests.{le-leb, lt-leb, ne_eqb}
use mathlib.Core.Bool.{cond}
use lib.ListN.{length, drop, get_or, drop_of_length-le}
use lib.Dec.{eqb}
use Rattle.numbers.specs.Number.{largest, Found, found, nothing, before, front, small, after, number, number_at}
use Rattle.numbers.proofs.Number.{front-last, front-step, before-found, front-next}

-- ---- at the first byte

-- there is none
pub at-end : (s : List ℕ) (at : ℕ) → length s ≤ at → None ≡ number_at s at
unfolding number_at number small after front
at-end s at h = rw (drop_of_length-le s h)

-- ---- at a later byte

-- the groups that were found, put above `count` groups that make `low`: their unit is 128 ^ count
pub onto : ℕ → ℕ → ℕ → Found → Found
onto count low unit nothing = nothing
onto count low unit (found n size) = cond (eqb n 0) nothing (found (low + unit * n) (size + count))

onto-found : (count low unit n size : ℕ) → 0 < n → onto count low unit (found n size) ≡ found (low + unit * n) (size + count)
unfolding onto
onto-found count low unit n size h = rw (ne_eqb n 0 (omega arith))

onto-first : (group : ℕ) (f : Found) → before group f ≡ onto 1 group 128 f
unfolding onto before
onto-first group nothing = refl
onto-first group (found n size) = refl

onto-more : (count low unit group : ℕ) (f : Found) → onto count low unit (before group f) ≡ onto (count + 1) (low + group * unit) (unit * 128) f
unfolding onto before
onto-more count low unit group nothing = refl
onto-more count low unit group (found zero size) = refl
onto-more count low unit group (found (suc n) size) =
    ap (onto count low unit) (before-found group (suc n) size (omega arith))
    ∙ onto-found count low unit (group + 128 * suc n) (size + 1) (omega arith)
    ∙ ap₂ found (omega arith) (omega arith)
    ∙ sym (onto-found (count + 1) (low + group * unit) (unit * 128) (suc n) size (omega arith))

-- above a unit that is too large no number is small
onto-large : (count low unit : ℕ) (f : Found) → largest < unit → small (onto count low unit f) ≡ nothing
unfolding onto small
onto-large count low unit nothing h = refl
onto-large count low unit (found zero size) h = refl
onto-large count low unit (found (suc n) size) h =
    rw (onto-found count low unit (suc n) size (omega arith), lt-leb (low + unit * suc n) largest (omega arith))

-- what was read of the number at `at`, up to `next`
pub record Reading (s : List ℕ) (at next low unit : ℕ) : Type 0 where
  pub inside : next ≤ length s
  pub past : at < next
  pub low_small : low < unit
  pub unit-small : unit < 2 ^ 35
  pub left : front (drop at s) ≡ onto (next - at) low unit (front (drop next s))

-- with a group of the present unit the number fits 64 bits
pub reading-fits : {s : List ℕ} {at next low unit : ℕ} → Reading s at next low unit → (group : ℕ) → group ≤ 127 → low + group * unit < 2 ^ 64
reading-fits {unit = unit} r group h = omega (arith, r.low_small, r.unit-small, mul-le-mul_right unit h)

pub reading-first : (s : List ℕ) (at byte : ℕ) → at < length s → byte ≡ get_or s at 0 → 128 ≤ byte → byte < 256 → Reading s at (at + 1) (byte - 128) 128
reading-first s at byte h e low high = record {
  inside = omega arith;
  past = omega arith;
  low_small = omega arith;
  unit-small = omega arith;
  left =
      let one : at + 1 - at ≡ 1 = omega arith in
      front-next s at byte h e ∙ front-step byte (drop (at + 1) s) low high ∙ rw one (onto-first (byte - 128) (front (drop (at + 1) s)));
}

-- the bytes end, and the number goes on
pub reading-end : {s : List ℕ} {at next low unit : ℕ} → Reading s at next low unit → length s ≤ next → None ≡ number_at s at
unfolding number_at number onto small after front
reading-end {s} r h = rw (r.left, drop_of_length-le s h)

-- the next byte is read
pub record Turn (s : List ℕ) (at next low unit byte : ℕ) : Type 0 where
  pub reading : Reading s at next low unit
  pub more : next < length s
  pub is : byte ≡ get_or s next 0
  pub below : byte < 256

pub turned : {s : List ℕ} {at next low unit : ℕ} → Reading s at next low unit → next < length s → get_or s next 0 < 256
    → Turn s at next low unit (get_or s next 0)
turned r more below = record { reading = r; more = more; is = refl; below = below }

module _ {s : List ℕ} {at next low unit byte : ℕ} (t : Turn s at next low unit byte) where
  -- a last group
  last : byte < 128 → front (drop at s) ≡ onto (next - at) low unit (found byte 1)
  last h = t.reading.left ∙ ap (onto (next - at) low unit) (front-next s next byte t.more t.is ∙ front-last byte (drop (next + 1) s) h)

  pub last-zero : byte ≡ 0 → None ≡ number_at s at
  unfolding number_at number onto small after
  last-zero none = rw (last (omega arith), none)

  pub last-large : byte < 128 → 0 < byte → largest < low + byte * unit → None ≡ number_at s at
  unfolding number_at number small after
  last-large h positive large =
      rw (last h, onto-found (next - at) low unit byte 1 positive, lt-leb (low + unit * byte) largest (omega arith))

  pub last-number : byte < 128 → 0 < byte → low + byte * unit ≤ largest → Some (low + byte * unit, next + 1) ≡ number_at s at
  unfolding number_at number small after
  last-number h positive fits =
      rw (last h, onto-found (next - at) low unit byte 1 positive, le-leb (low + unit * byte) largest (omega arith))
      (ap₂ (λ (n next : ℕ). Some (n, next)) (omega arith) (omega arith))

  -- another group
  more : 128 ≤ byte → front (drop at s) ≡ onto (next + 1 - at) (low + (byte - 128) * unit) (unit * 128) (front (drop (next + 1) s))
  more h =
      let count : next + 1 - at ≡ next - at + 1 = omega arith in
      t.reading.left
      ∙ ap (onto (next - at) low unit) (front-next s next byte t.more t.is ∙ front-step byte (drop (next + 1) s) h t.below)
      ∙ rw count (onto-more (next - at) low unit (byte - 128) (front (drop (next + 1) s)))

  pub more-large : 128 ≤ byte → 128 ^ 4 ≤ unit → None ≡ number_at s at
  unfolding number_at number after
  more-large h long =
      rw (more h, onto-large (next + 1 - at) (low + (byte - 128) * unit) (unit * 128) (front (drop (next + 1) s)) (omega arith))

  pub more-reading : 128 ≤ byte → unit < 128 ^ 4 → Reading s at (next + 1) (low + (byte - 128) * unit) (unit * 128)
  more-reading h short =
      let group : byte - 128 ≤ 127 = omega arith in record {
        inside = omega arith;
        past = omega arith;
        low_small = omega (arith, mul-le-mul_right unit group);
        unit-small = omega arith;
        left = more h;
      }
