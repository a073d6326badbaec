-- A description is read as a good net, and the bytes of a state of that net as the state.
use Prim.Native.Nat.{ℕ, suc, ◌-◌, ◌≤◌, ◌<◌}
use mathlib.Core.Path.{◌≡◌, sym, ap, ◌∙◌, subst}
use mathlib.Core.List.{List}
use native.Mathlib.Omega.{arith}
use lib.IntN.{pos, nat_abs}
use Rattle.theory.specs.Nets.{Net}
use Rattle.theory.specs.Recording.{State, Alike, bound}
use Rattle.theory.specs.Replies.{Reply, value, ◌>>=◌}
use Rattle.theory.proofs.Answers.{then-yes}
use Rattle.theory.proofs.Fitting.{Good}
use Rattle.codec.specs.Reader.{ok, read}
use Rattle.codec.proofs.Inverse.{read_ok}
use Rattle.net.specs.declared.Edition.{Edition}
use Rattle.net.specs.Bounds.{most_places, most_groups, most_weight}
use Rattle.description.specs.Grammar.{Parts, parts, net_from}
use Rattle.description.proofs.Tables.{row_of-at}
use Rattle.description.proofs.Rows.{weights-at}
use Rattle.states.specs.States.Writing.{Fit}
use Rattle.states.specs.States.{Restored}
use Rattle.states.proofs.Inverse.{trimmed, trimmed-alike, Whole, whole_back, whole-forth}
use Rattle.states.specs.States.Nets.{saved, restored}
use Rattle.observer.specs.Bytes.{net_in, described, restored_in, state_in}
use Rattle.observer.proofs.Described.{fine, good}

-- what holds of all that a description says holds of the net that is described
pub of-described : (d : List ℕ) (P : Net → Type 0) → ((left : List ℕ) (x : Parts) → parts bound d ≡ ok x left → P (net_in x))
    → (net : Net) → described d ≡ value net → P net
of-described d P each net u =
    let found = then-yes net_in (read (parts bound d)) net u in
    let was = read_ok (parts bound d) found.1 in
    subst P (sym found.2) (each was.0 found.0 was.1)

-- what the net is
pub record Fine (net : Net) : Type 0 where
  pub good : Good net
  pub places : net.places ≤ most_places
  pub groups : net.groups.number ≤ most_groups
  pub counts : (i : ℕ) → i < net.groups.number → net.groups.count (suc i) ≤ bound
  pub weights : (l p : ℕ) → l < net.rules.limits → p < net.places → nat_abs (net.rules.weight l p) ≤ most_weight

pub fine-net : (d : List ℕ) (net : Net) → described d ≡ value net → Fine net
unfolding net_from
fine-net d =
    of-described d Fine (λ left x e.
    let of = fine d left x e in
    record {
      good = good d left x e;
      places = of.sized.places;
      groups = of.sized.groups;
      counts = λ i l. rw (let here : suc i - 1 ≡ i = omega arith in here) (of.members.tables.counts-fit i l);
      weights = λ l p m n.
          let few : p < most_places = omega (arith, of.sized.places) in
          rw (row_of-at (net_from x).weights l p (pos 0) few, weights-at x.bounds l p few) at ((of.limits.fine-weights.rows l m).within p);
    })

-- these are the bytes of a state that fits, in an edition
pub record BytesOf (net : Net) (b : List ℕ) (s : State) : Type 0 where
  pub edition : Edition
  pub are : b ≡ saved edition net s
  pub fit : Fit bound net.places net.groups s

-- a state alone is read with its edition
pub with-edition : (net : Net) (b : List ℕ) {s : State} → state_in net b ≡ value s
    → (edition : Edition) × (restored_in net b ≡ value (record { edition = edition; state = s }))
with-edition net b {s} e =
    let found = then-yes (λ x. x.state) (restored_in net b) s e in
    (found.0.edition, found.1 ∙ ap (λ (t : State). value (record { edition = found.0.edition; state = t })) (sym found.2))

-- and without it
pub state-alone : (net : Net) (b : List ℕ) {x : Restored} → restored_in net b ≡ value x → state_in net b ≡ value x.state
state-alone net b e = ap (λ (r : Reply Restored). r >>= λ x. value x.state) e

module _ (d : List ℕ) (net : Net) (says : described d ≡ value net) where
  of : Fine net
  of = fine-net d net says

  -- a state that fits is read back from its bytes in any edition, as it is at the net's places and groups
  pub written_back : (edition : Edition) (s : State) → Fit bound net.places net.groups s
      → restored_in net (saved edition net s) ≡ value (record { edition = edition; state = trimmed net s })
  written_back edition s fit =
      ap read (whole-forth bound (omega arith) net of.good.outward of.places (omega (arith, of.groups)) edition s fit)

  pub trimmed-same : (s : State) → Fit bound net.places net.groups s → Alike net s (trimmed net s)
  trimmed-same s fit = trimmed-alike bound (omega arith) net of.good.outward of.places (omega (arith, of.groups)) s fit.exact

  module _ (b : List ℕ) where
    -- the bytes are read back as a state that is the same at the net's places and groups
    pub read_back : {s : State} (bytes : BytesOf net b s)
        → (t : State) × (restored_in net b ≡ value (record { edition = bytes.edition; state = t })) × Alike net s t
    read_back {s} bytes =
        (trimmed net s, ap (restored_in net) bytes.are ∙ written_back bytes.edition s bytes.fit, trimmed-same s bytes.fit)

    module _ (x : Restored) (r : restored_in net b ≡ value x) where
      whole : (left : List ℕ) × Whole bound (omega arith) net of.good.outward of.places (omega (arith, of.groups)) b left x
      whole =
          let was = read_ok (restored net b) r in
          (was.0, whole_back bound (omega arith) net of.good.outward of.places (omega (arith, of.groups)) b was.0 x was.1)

      -- what is read as a state are its bytes
      pub read-are : BytesOf net b x.state
      read-are = record { edition = x.edition; are = whole.1.are; fit = whole.1.kept.fit }

      pub read-bytes : b ≡ saved x.edition net x.state
      read-bytes = whole.1.are

      -- and it is told by the net's places and groups
      pub read-trimmed : x.state ≡ trimmed net x.state
      read-trimmed = whole.1.kept.trim

    -- the same of a state alone
    pub state-are : {s : State} → state_in net b ≡ value s → BytesOf net b s
    state-are e = let read = with-edition net b e in read-are _ read.1
