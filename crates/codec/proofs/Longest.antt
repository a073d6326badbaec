-- How many bytes a reader takes at most, and how many decide what it says, whatever follows them.
use Prim.Native.Nat.{ℕ, zero, suc, ◌+◌, ◌*◌, ◌^◌, ◌≤◌, ◌<◌}
use mathlib.Core.Path.{◌≡◌, refl, sym, ap, ◌∙◌}
use mathlib.Core.Bool.{Bool, true, false, cond, ◌&&◌, false≢true}
use mathlib.Core.List.{List, [], ◌∷◌, ◌++◌, append_assoc}
use native.Mathlib.Omega.{arith}
use borrow.Author.Tests.{leb-true}
use lib.Dec.{leb, ltb}
use lib.ListN.{length, take, drop, take-append-drop, length-append}
use lib.Seq.{take_at, take-append-le}
use Rattle.numbers.specs.Number.{largest, longest_number, form, Found, found, nothing}
use Rattle.numbers.specs.Number as Stored
use Rattle.numbers.proofs.Number.{form-length, form-length-bounds, read-write, write_read}
use Rattle.codec.specs.Reader.{Result, ok, no, Reader, onward, ◌>>=◌, done, refuse, ask, from_found, number, end, many}
use Rattle.codec.specs.Places.{rising_place}
use Rattle.codec.proofs.Inverse.{no_ok, bind-then, number-back, number-forth}
use Rattle.codec.proofs.Places.{rising-back}

-- what a reader finds where more bytes follow
abbrev pub extended : {A : Type 0} → List ℕ → Result A → Result A
extended rest (ok a left) = ok a (left ++ rest)
extended rest (no n) = no n

-- `spent` bytes were taken before the reader, of `most` that may be taken: where it finds something it leaves `spare` of them, and five bytes
-- more than `most` decide what it says, whatever follows them
pub record Spends {A : Type 0} (spent most : ℕ) (spare : A → ℕ) (reader : Reader A) : Type 0 where
  pub takes : (bytes left : List ℕ) (a : A) → reader bytes ≡ ok a left → spent + length bytes + spare a ≤ length left + most
  pub decided : (bytes rest : List ℕ) → most + longest_number ≤ spent + length bytes → reader (bytes ++ rest) ≡ extended rest (reader bytes)

-- the reader takes at most so many bytes, and five more decide what it says
abbrev pub Reads : {A : Type 0} → ℕ → Reader A → Type 0
Reads most reader = Spends 0 most (λ a. 0) reader

-- ---- the parts of readers

-- with as much to take, or more
pub more-spends : {A : Type 0} {spent most other more : ℕ} {spare : A → ℕ} {r : Reader A} → Spends spent most spare r → most + other ≤ more + spent
    → Spends other more spare r
more-spends reads enough =
    record {
      takes = λ bytes left a e. omega (arith, reads.takes bytes left a e);
      decided = λ bytes rest long. reads.decided bytes rest (omega arith);
    }

module _ {A : Type 0} {spent most : ℕ} {spare : A → ℕ} where
  pub done-spends : {a : A} → spent + spare a ≤ most → Spends spent most spare (done a)
  done-spends {a} enough =
      record {
        takes = λ bytes left b e.
            let same : a ≡ b = cc in
            let rest : bytes ≡ left = cc in
            rw (← same, ← rest) (omega arith);
        decided = λ bytes rest long. refl;
      }

  pub refuse-spends : {n : ℕ} → Spends spent most spare (refuse n)
  refuse-spends = record { takes = λ bytes left a e. no_ok e; decided = λ bytes rest long. refl }

  pub either-spends : (test : Bool) {r q : Reader A} → Spends spent most spare r → Spends spent most spare q → Spends spent most spare (cond test r q)
  either-spends true h g = h
  either-spends false h g = g

  -- a question, and a reader after it
  pub then-ask : {next : Unit → Reader A} (test : Bool) (n : ℕ) → ((u : Unit) → test ≡ true → Spends spent most spare (next u))
      → Spends spent most spare (ask test n >>= next)
  then-ask true n after = after tt refl
  then-ask false n after = refuse-spends

  -- a reader, and one after it on the bytes that were left
  pub then-spends : {B : Type 0} {r : Reader B} {next : B → Reader A}
      → ((bytes rest : List ℕ) → most + longest_number ≤ spent + length bytes → r (bytes ++ rest) ≡ extended rest (r bytes))
      → ((b : B) (bytes left : List ℕ) → r bytes ≡ ok b left → Spends (spent + length bytes) (most + length left) spare (next b))
      → Spends spent most spare (r >>= next)
  then-spends {B} {r} {next} first after =
      record {
        takes = λ bytes left a e. bind-then r next e λ b middle q e. omega (arith, (after b bytes middle q).takes middle left a e);
        decided = λ bytes rest long. rw (first bytes rest long) (go bytes rest long (r bytes) refl);
      }
    where
      go : (bytes rest : List ℕ) → most + longest_number ≤ spent + length bytes → (f : Result B) → r bytes ≡ f
          → onward (extended rest f) next ≡ extended rest (onward f next)
      go bytes rest long (ok b left) e = (after b bytes left e).decided left rest (omega arith)
      go bytes rest long (no n) e = refl

  -- a reader, and one after it that may take what is spare
  pub then-spare : {B : Type 0} {before : B → ℕ} {r : Reader B} {next : B → Reader A} → Spends spent most before r
      → ((b : B) → Spends 0 (before b) spare (next b)) → Spends spent most spare (r >>= next)
  then-spare {r} first after =
      then-spends {r = r} first.decided λ b bytes left e.
      more-spends (after b) (omega (arith, first.takes bytes left b e))

  -- a reader that may take a part, and one after it that may take the others
  pub then-reads : {B : Type 0} {cost : ℕ} {before : B → ℕ} {r : Reader B} {next : B → Reader A} → Spends 0 cost before r → spent + cost ≤ most
      → ((b : B) → Spends (spent + cost) (most + before b) spare (next b)) → Spends spent most spare (r >>= next)
  then-reads {r} first enough after =
      then-spends {r = r} (λ bytes rest long. first.decided bytes rest (omega arith)) λ b bytes left e.
      more-spends (after b) (omega (arith, first.takes bytes left b e))

-- so many of the same
pub many-reads : {A : Type 0} {most : ℕ} {r : Reader A} → Reads most r → (n : ℕ) → Reads (n * most) (many n r)
unfolding many
many-reads each zero = done-spends (omega arith)
many-reads each (suc n) = then-reads each (omega arith) λ a. then-reads (many-reads each n) (omega arith) λ rest. done-spends (omega arith)

pub end_reads : Reads 0 end
unfolding end
end_reads = record { takes = takes; decided = decided }
  where
    takes : (bytes left : List ℕ) (u : Unit) → end bytes ≡ ok u left → 0 + length bytes + 0 ≤ length left + 0
    takes [] left u e = omega arith
    takes (byte ∷ bytes) left u e = no_ok e

    decided : (bytes rest : List ℕ) → longest_number ≤ 0 + length bytes → end (bytes ++ rest) ≡ extended rest (end bytes)
    decided [] rest long = absurd (let z : ⊥ = omega arith in z)
    decided (byte ∷ bytes) rest long = refl

-- ---- numbers

module _ (s rest : List ℕ) where
  -- a number that is found is found where more bytes follow
  pub number-longer : (n : ℕ) (left : List ℕ) → number s ≡ ok n left → number (s ++ rest) ≡ ok n (left ++ rest)
  number-longer n left e =
      let read = number-back s n left e in
      let whole : s ++ rest ≡ form n ++ (left ++ rest) = ap (λ (l : List ℕ). l ++ rest) read.1 ∙ append_assoc (form n) left rest in
      rw whole (number-forth n (left ++ rest) read.0)

  -- five bytes tell that there is none
  nothing-extended : longest_number ≤ length s → Stored.number s ≡ nothing → Stored.number (s ++ rest) ≡ nothing
  nothing-extended enough none = go (Stored.number (s ++ rest)) refl
    where
      go : (f : Found) → Stored.number (s ++ rest) ≡ f → f ≡ nothing
      go nothing e = refl
      go (found n size) e =
          let read = write_read (s ++ rest) n size e in
          let k = length (form n) in
          let few : k ≤ length s = omega (arith, form-length-bounds n) in
          let same : take k s ≡ form n = sym (take-append-le k s rest few) ∙ ap (take k) read.2 ∙ take_at (form n) (drop size (s ++ rest)) k refl in
          let parts : s ≡ form n ++ drop k s = sym (take-append-drop k s) ∙ ap (λ (l : List ℕ). l ++ drop k s) same in
          cc (read-write n (drop k s) read.0, ap Stored.number parts)

  pub number-extended : longest_number ≤ length s → number (s ++ rest) ≡ extended rest (number s)
  unfolding number
  number-extended enough = go (Stored.number s) refl
    where
      go : (f : Found) → Stored.number s ≡ f → from_found (s ++ rest) (Stored.number (s ++ rest)) ≡ extended rest (from_found s f)
      go (found n size) e = number-longer n (drop size s) (ap (from_found s) e)
      go nothing e = rw (nothing-extended enough e)

-- the numbers below 128 ^ size have at most so many bytes
pub form-short : (size above n : ℕ) → 0 < size → above < 128 ^ size → n ≤ largest → n ≤ above → length (form n) ≤ size
form-short zero above n some below small h = omega arith
form-short (suc k) above n some below small h = (form-length n k (omega arith)).1 (omega arith)

module _ {A : Type 0} {spent most : ℕ} {spare : A → ℕ} {next : ℕ → Reader A} (size above n : ℕ) where
  -- a number, a question that bounds it so that it has at most `size` bytes, and a reader after them
  pub then-number : (test : ℕ → Bool) → ((i : ℕ) → test i ≡ true → i ≤ above) → (0 < size) × (above < 128 ^ size) × (spent ≤ most)
      → ((i : ℕ) → i ≤ above → Spends (spent + size) most spare (next i)) → Spends spent most spare (number >>= λ i. ask (test i) n >>= λ u. next i)
  then-number test bounds fits after =
      then-spends (λ bytes rest long. number-extended bytes rest (omega arith)) λ i bytes left e.
      then-ask (test i) n λ u t.
      let read = number-back bytes i left e in
      more-spends (after i (bounds i t))
      (omega (arith, simp length-append at (ap length read.1), form-short size above i fits.0 fits.1 read.0 (bounds i t)))

  -- the same where the question is another, and whether it is at most the bound
  pub then-at-most : (test : ℕ → Bool) → (0 < size) × (above < 128 ^ size) × (spent ≤ most)
      → ((i : ℕ) → i ≤ above → Spends (spent + size) most spare (next i))
      → Spends spent most spare (number >>= λ i. ask (test i && leb i above) n >>= λ u. next i)
  then-at-most test fits after = then-number (λ i. test i && leb i above) (λ i. go i (test i)) fits after
    where
      go : (i : ℕ) (t : Bool) → (t && leb i above) ≡ true → i ≤ above
      go i true e = leb-true i above e
      go i false e = absurd (false≢true e)

-- ---- places

rising-extended : (places last : ℕ) (bytes rest : List ℕ) → longest_number ≤ length bytes
    → rising_place places last (bytes ++ rest) ≡ extended rest (rising_place places last bytes)
unfolding rising_place
rising-extended places last bytes rest enough = rw (number-extended bytes rest enough) (go (number bytes))
  where
    questions : ℕ → Bool → Bool → Reader ℕ
    questions p s t = ask s 4 >>= λ u. ask t 5 >>= λ u. done p

    asked : (p : ℕ) (left : List ℕ) (s t : Bool) → questions p s t (left ++ rest) ≡ extended rest (questions p s t left)
    asked p left true true = refl
    asked p left true false = refl
    asked p left false t = refl

    go : (r : Result ℕ)
        → onward (extended rest r) (λ p. questions p (ltb 0 p && leb p places) (ltb last p))
        ≡ extended rest (onward r (λ p. questions p (ltb 0 p && leb p places) (ltb last p)))
    go (ok p left) = asked p left (ltb 0 p && leb p places) (ltb last p)
    go (no n) = refl

-- a place, which has one byte, and a reader after it
pub then-place : {A : Type 0} {spent most : ℕ} {spare : A → ℕ} {next : ℕ → Reader A} (places last : ℕ) → places < 128 → spent ≤ most
    → ((p : ℕ) → p ≤ places → Spends (spent + 1) most spare (next p)) → Spends spent most spare (rising_place places last >>= next)
then-place places last few fits after =
    then-spends (λ bytes rest long. rising-extended places last bytes rest (omega arith)) λ p bytes left e.
    let read = rising-back places last bytes e in
    more-spends (after p read.1)
    (omega (arith, simp length-append at (ap length read.3), form-short 1 places p (omega arith) (omega arith) read.2 read.1))
