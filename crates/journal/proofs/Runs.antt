-- Runs: the lines of events one after the other.
use Prim.Native.Nat.{ℕ, zero, suc, ◌≤◌, ◌<◌}
use mathlib.Core.Path.{◌≡◌, refl, ap}
use mathlib.Core.List.{List, [], ◌∷◌, ◌++◌}
use native.Mathlib.Omega.{arith}
use lib.ListN.{length, length-append}
use Rattle.theory.specs.Nets.{Net}
use Rattle.theory.specs.Recording.{State, Alike, next}
use Rattle.theory.specs.Replies.{Reply, value, refusal, ◌>>=◌}
use Rattle.theory.specs.Answers.{ask, recorded}
use Rattle.theory.proofs.Alike.{next-alike, unplaced-alike, ask-alike, judge-alike}
use Rattle.numbers.proofs.Number.{form-length-bounds}
use Rattle.codec.specs.Reader.{Result, ok, no, number}
use Rattle.codec.proofs.Inverse.{number-back}
use Rattle.codec.proofs.Joined.{joined-cong}
use Rattle.net.specs.declared.Verdict.{Verdict}
use Rattle.net.specs.Answers.{answer_of}
use Rattle.journal.specs.Lines.{space, decimal, line_bytes, refused_bytes}
use Rattle.journal.specs.Printed.{kept_state, state_after, line, on_event, lines_up_to, lines}

-- ---- the numbers of a line

pub line_same : (event : ℕ) {a b : Reply Verdict} (places groups : ℕ) {f g u v : ℕ → ℕ} → a ≡ b → ((p : ℕ) → p < places → f p ≡ g p)
    → ((i : ℕ) → i < groups → u i ≡ v i) → line_bytes event a places f groups u ≡ line_bytes event b places g groups v
unfolding line_bytes
line_same event places groups same estimates numbers =
    rw (
      same,
      joined-cong places (λ p l. ap (λ (n : ℕ). space ∷ decimal n) (estimates p l)),
      joined-cong groups (λ i l. ap (λ (n : ℕ). space ∷ decimal n) (numbers i l)),
    )

-- ---- one number and the next

-- a number takes a byte at least
number-shorter : (bytes left : List ℕ) (event : ℕ) → number bytes ≡ ok event left → length left < length bytes
number-shorter bytes left event e =
    omega (arith, form-length-bounds event, simp length-append at (ap length (number-back bytes event left e).1))

module _ (net : Net) where
  -- any number of turns that is enough
  enough : (k m : ℕ) (s : State) (bytes : List ℕ) → length bytes ≤ k → length bytes ≤ m → lines_up_to k net s bytes ≡ lines_up_to m net s bytes
  unfolding lines_up_to
  enough zero zero s bytes h l = refl
  enough zero (suc m) s [] h l = refl
  enough zero (suc m) s (byte ∷ bytes) h l = absurd (let z : ⊥ = omega arith in z)
  enough (suc k) zero s [] h l = refl
  enough (suc k) zero s (byte ∷ bytes) h l = absurd (let z : ⊥ = omega arith in z)
  enough (suc k) (suc m) s [] h l = refl
  enough (suc k) (suc m) s (byte ∷ bytes) h l = go (number (byte ∷ bytes)) refl (λ t left few fits. enough k m t left few fits)
    where
      go : (r : Result ℕ) → number (byte ∷ bytes) ≡ r
          → ((t : State) (left : List ℕ) → length left ≤ k → length left ≤ m → lines_up_to k net t left ≡ lines_up_to m net t left)
          → on_event (λ event left. line net s event ++ lines_up_to k net (state_after net s event) left) r
          ≡ on_event (λ event left. line net s event ++ lines_up_to m net (state_after net s event) left) r
      go (ok event left) e others =
          let shorter = number-shorter (byte ∷ bytes) left event e in
          ap (λ (l : List ℕ). line net s event ++ l) (others (state_after net s event) left (omega (arith, shorter)) (omega (arith, shorter)))
      go (no n) e others = refl

  module _ (s : State) where
    pub lines_none : lines net s [] ≡ []
    unfolding lines lines_up_to
    lines_none = refl

    pub lines-event : (bytes left : List ℕ) (event : ℕ) → number bytes ≡ ok event left
        → lines net s bytes ≡ line net s event ++ lines net (state_after net s event) left
    unfolding lines lines_up_to
    lines-event [] left event e = absurd (let z : ⊥ = omega (arith, number-shorter [] left event e) in z)
    lines-event (byte ∷ bytes) left event e =
        let shorter = number-shorter (byte ∷ bytes) left event e in
        rw e (ap (λ (l : List ℕ). line net s event ++ l) (enough (length bytes) (length left) (state_after net s event) left (omega (arith, shorter)) (omega arith)))

    pub lines-refused : (bytes : List ℕ) (n : ℕ) → 0 < length bytes → number bytes ≡ no n → lines net s bytes ≡ refused_bytes n
    unfolding lines lines_up_to
    lines-refused [] n some e = absurd (let z : ⊥ = omega arith in z)
    lines-refused (byte ∷ bytes) n some e = rw e

-- ---- states that are the same at the places and groups

module _ (net : Net) {s t : State} (a : Alike net s t) (event : ℕ) where
  after-alike : Alike net (state_after net s event) (state_after net t event)
  unfolding recorded
  after-alike = rw (ask-alike net a event) (go (ask net t event))
    where
      go : (r : Reply ℕ) → Alike net (kept_state s (r >>= λ e. value (next net s e))) (kept_state t (r >>= λ e. value (next net t e)))
      go (value e) = next-alike net a e
      go (refusal n) = a

  line-alike : line net s event ≡ line net t event
  line-alike =
      line_same event net.places net.groups.number (ap answer_of (judge-alike net a event)) after-alike.estimates
      (λ i l. unplaced-alike net after-alike (suc i))

turns-alike : (net : Net) (k : ℕ) {s t : State} → Alike net s t → (bytes : List ℕ) → lines_up_to k net s bytes ≡ lines_up_to k net t bytes
unfolding lines_up_to
turns-alike net zero a bytes = refl
turns-alike net (suc k) a [] = refl
turns-alike net (suc k) {s} {t} a (byte ∷ bytes) = go (number (byte ∷ bytes)) (λ event left. turns-alike net k (after-alike net a event) left)
  where
    go : (r : Result ℕ)
        → ((event : ℕ) (left : List ℕ) → lines_up_to k net (state_after net s event) left ≡ lines_up_to k net (state_after net t event) left)
        → on_event (λ event left. line net s event ++ lines_up_to k net (state_after net s event) left) r
        ≡ on_event (λ event left. line net t event ++ lines_up_to k net (state_after net t event) left) r
    go (ok event left) others = rw (line-alike net a event, others event left)
    go (no n) others = refl

pub lines-alike : (net : Net) {s t : State} → Alike net s t → (bytes : List ℕ) → lines net s bytes ≡ lines net t bytes
unfolding lines
lines-alike net a bytes = turns-alike net (length bytes) a bytes
