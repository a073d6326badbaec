-- The laws of stored numbers: a number is read back from its bytes, and whatever is read has exactly those bytes.
use Rattle.std.specs.Prelude.{Option, Some}
use Prim.Native.Nat.{ℕ, zero, suc, ◌+◌, ◌-◌, ◌*◌, ◌/◌, ◌%◌, ◌^◌, ◌≤◌, ◌<◌, max}
use mathlib.Core.Path.{◌≡◌, refl, sym, ap, ap₂, ◌∙◌}
use mathlib.Core.List.{List, [], ◌∷◌, ◌++◌}
use mathlib.Core.Bool.{cond, Bool, true, false}
use mathlib.Core.Logic.{⊎_elim, ◌↔◌, ◌⊎◌, inl, inr}
use native.Mathlib.Nat.{pow-suc, one-le-pow, zero-lt-suc}
use native.Mathlib.Numerals.{add-one}
use native.Mathlib.Omega.{arith}
use borrow.Author.Tests.{lt-ltb, le-ltb, le-leb, ne_eqb, ltb-true, ltb-false, leb-true}
use lib.ListN.{length, drop, get_or, length-append, length-drop}
use lib.Seq.{drop-cons}
use lib.Dec.{ltb, leb}
use Rattle.numbers.specs.Number.{largest, groups, form, Found, found, nothing, before, front, small, number, after, number_at}

-- ---- the groups of a number

-- the last group, or another
last-or-more : (n : ℕ) → (n < 128) ⊎ (128 ≤ n)
last-or-more n = go (ltb n 128) refl
  where
    go : (last : Bool) → ltb n 128 ≡ last → (n < 128) ⊎ (128 ≤ n)
    go true e = inl (ltb-true n 128 e)
    go false e = inr (ltb-false n 128 e)

groups-last : (k n : ℕ) → n < 128 → groups k n ≡ n ∷ []
unfolding groups
groups-last zero n h = refl
groups-last (suc k) n h = rw (lt-ltb n 128 h)

groups-step : (k n : ℕ) → 128 ≤ n → groups (suc k) n ≡ (128 + n % 128) ∷ groups k (n / 128)
unfolding groups
groups-step k n h = rw (le-ltb n 128 h)

-- what is left of a number of k + 2 groups after the first of them has k + 1
rest_below : (k n : ℕ) → n < 128 ^ suc (suc k) → n / 128 < 128 ^ suc k
rest_below k n h = omega (arith, rw (pow-suc 128 (suc k)) at h)

-- induction over the groups of a number that has enough fuel
groups-induction : (P : ℕ → List ℕ → Type 0) → ((n : ℕ) → n < 128 → P n (n ∷ []))
    → ((n : ℕ) (rest : List ℕ) → 128 ≤ n → P (n / 128) rest → P n ((128 + n % 128) ∷ rest)) → (k n : ℕ) → n < 128 ^ suc k → P n (groups k n)
groups-induction P last step zero n h = rw (groups-last 0 n h) (last n h)
groups-induction P last step (suc k) n h =
    let rest : P (n / 128) (groups k (n / 128)) = groups-induction P last step k (n / 128) (rest_below k n h) in
    ⊎_elim
    (λ below. rw (groups-last (suc k) n below) (last n below))
    (λ above. rw (groups-step k n above) (step n (groups k (n / 128)) above rest))
    (last-or-more n)

-- more fuel than needed changes nothing
groups-more : (k n : ℕ) → n < 128 ^ suc k → groups (suc k) n ≡ groups k n
groups-more zero n h = groups-last 1 n h ∙ sym (groups-last 0 n h)
groups-more (suc k) n h =
    let rest = groups-more k (n / 128) (rest_below k n h) in
    ⊎_elim
    (λ below. groups-last (suc (suc k)) n below ∙ sym (groups-last (suc k) n below))
    (λ above. groups-step (suc k) n above ∙ ap (λ (l : List ℕ). (128 + n % 128) ∷ l) rest ∙ sym (groups-step k n above))
    (last-or-more n)

pub form-last : (n : ℕ) → n < 128 → form n ≡ n ∷ []
unfolding form
form-last n h = groups-last 4 n h

pub form-step : (n : ℕ) → 128 ≤ n → n < 2 ^ 35 → form n ≡ (128 + n % 128) ∷ form (n / 128)
unfolding form
form-step n h b = groups-step 3 n h ∙ ap (λ (l : List ℕ). (128 + n % 128) ∷ l) (sym (groups-more 3 (n / 128) (omega arith)))

-- ---- the length of a form

groups-length-bounds : (k n : ℕ) → (1 ≤ length (groups k n)) × (length (groups k n) ≤ suc k)
unfolding groups
groups-length-bounds zero n = omega arith
groups-length-bounds (suc k) n =
    let rest = groups-length-bounds k (n / 128) in
    ⊎_elim (λ below. rw (groups-last (suc k) n below) (omega arith)) (λ above. rw (groups-step k n above) (omega arith)) (last-or-more n)

pub form-length-bounds : (n : ℕ) → (1 ≤ length (form n)) × (length (form n) ≤ 5)
unfolding form
form-length-bounds n = groups-length-bounds 4 n

-- at most k bytes, k not 0, hold exactly the numbers below 128 ^ k
pub form-length : (n k : ℕ) → n < 2 ^ 35 → (length (form n) ≤ suc k) ↔ (n < 128 ^ suc k)
unfolding form
form-length n k b =
    let held = groups-induction Held last step 4 n b (suc k) in
    (λ short. (held.0 short).1, λ below. held.1 (omega arith, below))
  where
    Held : ℕ → List ℕ → Type 0
    Held n l = (k : ℕ) → (length l ≤ k) ↔ ((0 < k) × (n < 128 ^ k))

    last : (n : ℕ) → n < 128 → Held n (n ∷ [])
    last n h zero = omega arith
    last n h (suc k) = omega (arith, pow-suc 128 k, one-le-pow k 128 (zero-lt-suc 127))

    step : (n : ℕ) (l : List ℕ) → 128 ≤ n → Held (n / 128) l → Held n ((128 + n % 128) ∷ l)
    step n l h held zero = omega arith
    step n l h held (suc zero) = (λ short. omega (arith, (held zero).0 (omega arith)), λ below. omega arith)
    step n l h held (suc (suc k)) =
        let power = pow-suc 128 (suc k) in
        (λ short. let rest = (held (suc k)).0 (omega arith) in omega arith, λ below. let rest = (held (suc k)).1 (omega arith) in omega arith)

-- k + 1 bytes hold exactly the numbers from 128 ^ k to below 128 ^ (k + 1), where 0 counts as 1
pub form-length-is : (n k : ℕ) → n < 2 ^ 35 → (length (form n) ≡ suc k) ↔ ((128 ^ k ≤ max 1 n) × (n < 128 ^ suc k))
form-length-is n zero b =
    let bounds = form-length-bounds n in
    let one = form-length n zero b in
    (λ is. let below = one.0 (omega arith) in omega arith, λ within. let short = one.1 within.1 in omega arith)
form-length-is n (suc k) b =
    let fewer = form-length n k b in
    let most = form-length n (suc k) b in
    let least = one-le-pow (suc k) 128 (zero-lt-suc 127) in (
      λ is.
          let below = most.0 (omega arith) in
          let above : ¬ (n < 128 ^ suc k) = λ few. omega (arith, fewer.1 few) in
          omega arith,
      λ within.
          let short = most.1 within.1 in
          let long : ¬ (length (form n) ≤ suc k) = λ few. omega (arith, fewer.0 few) in
          omega arith,
    )

-- ---- the number at the front

pub front-last : (byte : ℕ) (bytes : List ℕ) → byte < 128 → front (byte ∷ bytes) ≡ found byte 1
unfolding front
front-last byte bytes h = rw (lt-ltb byte 128 h)

pub front-step : (byte : ℕ) (bytes : List ℕ) → 128 ≤ byte → byte < 256 → front (byte ∷ bytes) ≡ before (byte - 128) (front bytes)
unfolding front
front-step byte bytes h b = rw (le-ltb byte 128 h, lt-ltb byte 256 b)

pub before-found : (group rest size : ℕ) → 0 < rest → before group (found rest size) ≡ found (group + 128 * rest) (size + 1)
unfolding before
before-found group rest size h = rw (ne_eqb rest 0 (omega arith))

-- a form of any size up to five groups is read back, whatever follows it
form-front : (n : ℕ) (rest : List ℕ) → n < 2 ^ 35 → front (form n ++ rest) ≡ found n (length (form n))
unfolding form
form-front n rest b = groups-induction ReadBack last step 4 n b
  where
    ReadBack : ℕ → List ℕ → Type 0
    ReadBack n l = front (l ++ rest) ≡ found n (length l)

    last : (n : ℕ) → n < 128 → ReadBack n (n ∷ [])
    last n h = front-last n rest h

    step : (n : ℕ) (l : List ℕ) → 128 ≤ n → ReadBack (n / 128) l → ReadBack n ((128 + n % 128) ∷ l)
    step n l h e =
        front-step (128 + n % 128) (l ++ rest) (omega arith) (omega arith)
        ∙ ap (before (128 + n % 128 - 128)) e
        ∙ before-found (128 + n % 128 - 128) (n / 128) (length l) (omega arith)
        ∙ ap₂ found (omega arith) (omega arith)

-- every number up to the largest is read back from its bytes, whatever follows them
pub read-write : (n : ℕ) (rest : List ℕ) → n ≤ largest → number (form n ++ rest) ≡ found n (length (form n))
unfolding number small
read-write n rest h = rw (form-front n rest (omega arith), le-leb n largest h)

-- ---- the bytes of what is read

never : {X : Type 0} {n size : ℕ} → nothing ≡ found n size → X
never e = absurd (let z : ◌≡◌ {A = ℕ} 0 1 = cc in omega arith)

-- n was read from a byte that has others after it, and from those
record More (byte : ℕ) (bytes : List ℕ) (n size : ℕ) : Type 0 where
  low : 128 ≤ byte
  high : byte < 256
  rest : ℕ
  count : ℕ
  others : front bytes ≡ found rest count
  positive : 0 < rest
  value : n ≡ byte - 128 + 128 * rest
  counted : size ≡ count + 1

front-inverse : (byte : ℕ) (bytes : List ℕ) (n size : ℕ) → 128 ≤ byte → front (byte ∷ bytes) ≡ found n size → More byte bytes n size
unfolding front before
front-inverse byte bytes n size low e = go (ltb byte 256) (front bytes) refl refl (rw (le-ltb byte 128 low) at e)
  where
    go : (fits : Bool) (f : Found) → ltb byte 256 ≡ fits → front bytes ≡ f → cond fits (before (byte - 128) f) nothing ≡ found n size → More byte bytes n size
    go false f t q e = never e
    go true nothing t q e = never e
    go true (found zero count) t q e = never e
    go true (found (suc rest) count) t q e =
        let put = sym (before-found (byte - 128) (suc rest) count (omega arith)) ∙ e in
        record {
          low = low;
          high = ltb-true byte 256 t;
          rest = suc rest;
          count = count;
          others = q;
          positive = omega arith;
          value = cc;
          counted = cc;
        }

-- the bytes begin with those of `l`, which are as many as `size` says
abbrev Exactly : List ℕ → List ℕ → ℕ → Type 0
Exactly bytes l size = (size ≡ length l) × (bytes ≡ l ++ drop size bytes)

exactly-more : (byte : ℕ) (bytes : List ℕ) (k n size : ℕ) (m : More byte bytes n size) → Exactly bytes (groups k m.rest) m.count
    → Exactly (byte ∷ bytes) (groups (suc k) n) size
exactly-more byte bytes k n size m h =
    let first : 128 + n % 128 ≡ byte = omega arith in
    let others : n / 128 ≡ m.rest = omega arith in
    let size_is : size ≡ suc m.count = omega arith in
    rw (groups-step k n (omega arith), first, others, size_is) (ap suc h.0, ap (λ (l : List ℕ). byte ∷ l) h.1)

front-groups : (bytes : List ℕ) (k n size : ℕ) → front bytes ≡ found n size → n < 128 ^ suc k → Exactly bytes (groups k n) size
unfolding front
front-groups [] k n size e h = never e
front-groups (byte ∷ bytes) k n size e h =
    ⊎_elim
    (λ last.
    let read = sym (front-last byte bytes last) ∙ e in
    let value : n ≡ byte = cc in
    let one : size ≡ 1 = cc in
    rw (value, one, groups-last k byte last) (refl, refl))
    (λ low. more (front-groups bytes) k h (front-inverse byte bytes n size low e))
    (last-or-more byte)
  where
    more : ((k n size : ℕ) → front bytes ≡ found n size → n < 128 ^ suc k → Exactly bytes (groups k n) size)
        → (k : ℕ) → n < 128 ^ suc k → More byte bytes n size → Exactly (byte ∷ bytes) (groups k n) size
    more exactly zero h m = absurd (omega arith)
    more exactly (suc k) h m =
        let power = pow-suc 128 (suc k) in exactly-more byte bytes k n size m (exactly k m.rest m.count m.others (omega arith))

small-inverse : (f : Found) (n size : ℕ) → small f ≡ found n size → (f ≡ found n size) × (n ≤ largest)
unfolding small
small-inverse nothing n size e = never e
small-inverse (found m count) n size e = go (leb m largest) refl e
  where
    go : (fits : Bool) → leb m largest ≡ fits → cond fits (found m count) nothing ≡ found n size → (found m count ≡ found n size) × (n ≤ largest)
    go true t e = (e, let value : m ≡ n = cc in omega (arith, leb-true m largest t))
    go false t e = never e

-- whatever is read as a number has exactly its bytes, so no number has two forms
pub write_read : (bytes : List ℕ) (n size : ℕ) → number bytes ≡ found n size → (n ≤ largest) × (size ≡ length (form n)) × (bytes ≡ form n ++ drop size bytes)
unfolding number form
write_read bytes n size e =
    let read = small-inverse (front bytes) n size e in
    let exactly = front-groups bytes 4 n size read.0 (omega arith) in
    (read.1, exactly.0, exactly.1)

-- ---- at a position

-- the byte there, and those after it
pub front-next : (s : List ℕ) (i byte : ℕ) → i < length s → byte ≡ get_or s i 0 → front (drop i s) ≡ front (byte ∷ drop (i + 1) s)
front-next s i byte h e = rw (e, drop-cons s i 0 h, add-one)

-- a number of one byte
pub at_one : (s : List ℕ) (at byte : ℕ) → at < length s → byte ≡ get_or s at 0 → byte < 128 → Some (byte, at + 1) ≡ number_at s at
unfolding number_at number small after
at_one s at byte h e last = rw (front-next s at byte h e, front-last byte (drop (at + 1) s) last, le-leb byte largest (omega arith))

-- a number of two bytes
pub at-two : (s : List ℕ) (at low high : ℕ) → at + 1 < length s → low ≡ get_or s at 0 → 128 ≤ low → low < 256 → high ≡ get_or s (at + 1) 0 → 0 < high → high < 128
    → Some (low - 128 + 128 * high, at + 2) ≡ number_at s at
unfolding number_at number small after
at-two s at low high h e more below f positive last =
    rw (
      front-next s at low (omega arith) e,
      front-step low (drop (at + 1) s) more below,
      front-next s (at + 1) high h f,
      front-last high (drop (at + 1 + 1) s) last,
      before-found (low - 128) high 1 positive,
      le-leb (low - 128 + 128 * high) largest (omega arith),
    )

-- the parts of a pair that stands in an answer
pub some-parts : {n next m after : ℕ} → ◌≡◌ {A = Option (ℕ × ℕ)} (Some (n, next)) (Some (m, after)) → (n ≡ m) × (next ≡ after)
some-parts {n} {next} {m} {after} e =
    let pair : ◌≡◌ {A = ℕ × ℕ} (n, next) (m, after) = cc in
    (ap (λ (p : ℕ × ℕ). p.0) pair, ap (λ (p : ℕ × ℕ). p.1) pair)

-- what is read takes at least one byte and lies within the bytes
pub number-within : (s : List ℕ) (at n next : ℕ) → number_at s at ≡ Some (n, next) → (at < next) × (next ≤ length s)
unfolding number_at after
number-within s at n next e = go (number (drop at s)) refl e
  where
    go : (f : Found) → number (drop at s) ≡ f → after at f ≡ Some (n, next) → (at < next) × (next ≤ length s)
    go nothing q e = absurd (let z : ◌≡◌ {A = ℕ} 0 1 = cc in omega arith)
    go (found m size) q e =
        let read = write_read (drop at s) m size q in
        let position : at + size ≡ next = (some-parts e).1 in
        omega (arith, form-length-bounds m, simp (length-append, length-drop) at (ap length read.2))
