-- Bytes put one after the other; the digits of a number; how long a line can be.
use Prim.Native.Nat.{ℕ, zero, suc, ◌+◌, ◌*◌, ◌/◌, ◌%◌, ◌^◌, ◌≤◌, ◌<◌}
use mathlib.Core.Path.{◌≡◌, refl, ap}
use mathlib.Core.List.{List, [], ◌∷◌, ◌++◌}
use mathlib.Core.Bool.{Bool, true, false, cond}
use native.Mathlib.Omega.{arith}
use borrow.Author.Tests.{lt-ltb, le-ltb}
use lib.Dec.{ltb}
use lib.ListN.{length, get_or, set, take, drop, length-append}
use lib.Seq.{sets-eq, take_at, length-take-le}
use Rattle.theory.specs.Replies.{Reply, value, refusal}
use Rattle.codec.specs.Joined.{joined}
use Rattle.codec.specs.Walk.{wrote, Room, Walked}
use Rattle.codec.proofs.Joined.{listed-get_or}
use Rattle.codec.proofs.Walk.{room-first, room_next, walked-length, walked_both}
use Rattle.net.specs.declared.Verdict.{Verdict}
use Rattle.net.specs.declared.Verdict.TheVariants.{Allow, Hold}
use Rattle.journal.specs.Lines.{digits, decimal, space, answer_bytes, spaced, line_bytes, refused_bytes, longest_line}

-- one byte
pub byte-walked : (out : List ℕ) (at byte : ℕ) → Walked true out at (byte ∷ []) (set out at byte) (at + 1)
unfolding wrote
byte-walked out at byte = record { position = omega arith; left = refl }

pub byte_inside : {out : List ℕ} {at byte : ℕ} → Room true out at (byte ∷ []) → at < length out
byte_inside r = omega (arith, r.inside refl)

-- what stands before the position after bytes that are put
module _ {out bytes after : List ℕ} {at next : ℕ} (w : Walked true out at bytes after next) (inside : at + length bytes ≤ length out) where
  pub walked-within : next ≤ length after
  walked-within = omega (arith, w.position, walked-length w)

  pub walked-take : take next after ≡ take at out ++ bytes
  unfolding wrote
  walked-take =
      let before : length (take at out ++ bytes) ≡ at + length bytes = simp length-append (omega (arith, length-take-le at out (omega arith))) in
      rw (w.left, w.position, sets-eq bytes out at inside) (take_at (take at out ++ bytes) (drop (at + length bytes) out) (at + length bytes) before)

-- ---- digits

-- one more place for a digit changes nothing of a number that has room without it
digits_more : (k n : ℕ) → n < 10 ^ suc k → digits k n ≡ digits (suc k) n
unfolding digits
digits_more zero n h = rw (lt-ltb n 10 (omega (arith, h)))
digits_more (suc k) n h = rw (digits_more k (n / 10) (omega (arith, h)))

-- a number below ten is its digit
decimal_digit : (n : ℕ) → n < 10 → decimal n ≡ (48 + n) ∷ []
unfolding decimal digits
decimal_digit n h = rw (lt-ltb n 10 h)

-- another is its last digit after those of a tenth of it
decimal-more : (n : ℕ) → 10 ≤ n → n < 2 ^ 32 → decimal n ≡ decimal (n / 10) ++ ((48 + n % 10) ∷ [])
unfolding decimal digits
decimal-more n h few =
    rw (le-ltb n 10 h) (ap (λ (l : List ℕ). l ++ ((48 + n % 10) ∷ [])) (digits_more 8 (n / 10) (omega arith)))

-- so it is put: a digit alone, or the last one after the others
module _ {out : List ℕ} {at n : ℕ} where
  pub digit_room : n < 10 → Room true out at (decimal n) → Room true out at ((48 + n) ∷ [])
  digit_room h r = rw (decimal_digit n h) at r

  pub digit-walked : n < 10 → {after : List ℕ} {next : ℕ} → Walked true out at ((48 + n) ∷ []) after next → Walked true out at (decimal n) after next
  digit-walked h w = rw (decimal_digit n h) w

  module _ (h : 10 ≤ n) (few : n < 2 ^ 32) where
    pub tenth-room : Room true out at (decimal n) → Room true out at (decimal (n / 10))
    tenth-room r = room-first ((48 + n % 10) ∷ []) (rw (decimal-more n h few) at r)

    pub last-room : {after : List ℕ} {next : ℕ} → Room true out at (decimal n) → Walked true out at (decimal (n / 10)) after next
        → Room true after next ((48 + n % 10) ∷ [])
    last-room r w = room_next (rw (decimal-more n h few) at r) w

    pub last-walked : {after end : List ℕ} {next last : ℕ} → Walked true out at (decimal (n / 10)) after next
        → Walked true after next ((48 + n % 10) ∷ []) end last → Walked true out at (decimal n) end last
    last-walked w v = rw (decimal-more n h few) (walked_both w v)

digits-length : (k n : ℕ) → length (digits k n) ≤ suc k
unfolding digits
digits-length zero n = omega arith
digits-length (suc k) n = go (ltb n 10) (digits-length k (n / 10))
  where
    go : (b : Bool) → length (digits k (n / 10)) ≤ suc k → length (cond b ((48 + n) ∷ []) (digits k (n / 10) ++ ((48 + n % 10) ∷ []))) ≤ suc (suc k)
    go true h = omega arith
    go false h = omega (arith, length-append (digits k (n / 10)) ((48 + n % 10) ∷ []))

decimal-length : (n : ℕ) → length (decimal n) ≤ 10
unfolding decimal
decimal-length n = digits-length 9 n

-- ---- lines

spaced-length : (n : ℕ) (f : ℕ → ℕ) → length (spaced n f) ≤ 11 * n
unfolding joined
spaced-length zero f = omega arith
spaced-length (suc n) f =
    omega (arith, length-append (spaced n f) (space ∷ decimal (f n)), spaced-length n f, decimal-length (f n))

answer-length : (a : Reply Verdict) → length (answer_bytes a) ≤ 18
answer-length (value Allow) = omega (arith, decimal-length 0)
answer-length (value (Hold l)) = omega (arith, decimal-length l)
answer-length (refusal n) = omega (arith, decimal-length n)

-- no line is longer than the longest
pub refused-length : (n : ℕ) → length (refused_bytes n) ≤ longest_line
unfolding refused_bytes
refused-length n = simp length-append (omega (arith, decimal-length n))

pub line-length : (event : ℕ) (answer : Reply Verdict) (places : ℕ) (estimate : ℕ → ℕ) (groups : ℕ) (unplaced : ℕ → ℕ) → places ≤ 64 → groups ≤ 32
    → length (line_bytes event answer places estimate groups unplaced) ≤ longest_line
unfolding line_bytes
line-length event answer places estimate groups unplaced few fewer =
    simp length-append
    (omega (arith, decimal-length event, answer-length answer, spaced-length places estimate, spaced-length groups unplaced))

-- room for the longest is room for any
module _ {out : List ℕ} {at : ℕ} (long : at + longest_line ≤ length out) (counted : length out < 2 ^ 64) where
  pub line-room : (event : ℕ) (answer : Reply Verdict) (places : ℕ) (estimate : ℕ → ℕ) (groups : ℕ) (unplaced : ℕ → ℕ) → places ≤ 64 → groups ≤ 32
      → Room true out at (line_bytes event answer places estimate groups unplaced)
  line-room event answer places estimate groups unplaced few fewer =
      let short = line-length event answer places estimate groups unplaced few fewer in
      record { counted = omega (arith, short); inside = λ on. omega (arith, short) }

  pub refused-room : (n : ℕ) → Room true out at (refused_bytes n)
  refused-room n = record { counted = omega (arith, refused-length n); inside = λ on. omega (arith, refused-length n) }

-- ---- a text, byte by byte

pub text-joined : (text : List ℕ) → joined (length text) (λ i. get_or text i 0 ∷ []) ≡ text
text-joined text = listed-get_or 0 text
