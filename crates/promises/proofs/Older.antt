-- Older observers: what is written for them, and what they read.
use Prim.Native.Nat.{ℕ, suc, ◌≤◌}
use mathlib.Core.Path.{◌≡◌, refl, sym, ap, ◌∙◌}
use mathlib.Core.Bool.{Bool, true, false, false≢true}
use mathlib.Core.List.{List, []}
use mathlib.Core.Logic.Iff
use mathlib.Core.Logic.{◌↔◌}
use native.Mathlib.Omega.{arith}
use borrow.Author.Tests.{leb-true, le-leb}
use lib.Dec.{leb}
use Rattle.theory.specs.Sums.{every}
use Rattle.theory.proofs.Sums.{every_true, true-every, and_left, and_right, and-true}
use Rattle.theory.specs.Nets.{Net}
use Rattle.theory.specs.Recording.{State, Alike, bound, older_bound, unplaced}
use Rattle.theory.specs.Replies.{Reply, value, ◌>>=◌, question, refusal}
use Rattle.theory.specs.Answers.{numbers_up_to, too_large}
use Rattle.theory.proofs.Answers.{clash, then-yes, question-yes, question-no}
use Rattle.theory.proofs.Alike.{up_to-alike}
use Rattle.codec.specs.Reader.{Reader, read}
use Rattle.codec.specs.Output.{answer}
use Rattle.codec.proofs.Inverse.{read_ok}
use Rattle.codec.proofs.Wider.{Wider}
use Rattle.description.specs.Grammar.{Parts, parts, net_from, description}
use Rattle.description.specs.Read.{description_read}
use Rattle.description.proofs.Wider.{parts-wider}
use Rattle.net.specs.declared.Edition.{Edition}
use Rattle.net.specs.declared.Edition.TheVariants.{First}
use Rattle.states.specs.States.{older_state}
use Rattle.states.specs.States.Writing.{Fit}
use Rattle.states.specs.States.Nets.{saved}
use Rattle.states.proofs.Inverse.{trimmed, whole-forth, whole_back}
use Rattle.states.proofs.Wider.{older-whole, older-wider, whole-older}
use Rattle.observer.specs.Bytes.{net_in, described_up_to, described, restored_in, state_in, older_state_in, older_reply}
use Rattle.promises.specs.Promises.{Older, AsBefore}
use Rattle.host.proofs.Numbers.{wrote-refused}
use Rattle.promises.proofs.Told.{room-iff}
use Rattle.promises.proofs.Described.{Fine, fine-net, BytesOf, with-edition, state-alone, read-are, read-trimmed}

-- ---- what they read, this one reads too

-- a wider reader finds the same
wider-read : {A : Type 0} (narrow wide : Reader A) → Wider narrow wide → (bytes : List ℕ) (a : A) → read (narrow bytes) ≡ value a
    → read (wide bytes) ≡ value a
wider-read narrow wide wider bytes a e =
    let was = read_ok (narrow bytes) e in
    ap read (wider.accepts bytes a was.0 was.1)

older-below : older_bound ≤ bound
older-below = omega arith

state-before : (net : Net) (b : List ℕ) (s : State) → older_state_in net b ≡ value s → state_in net b ≡ value s
state-before net b s e =
    let was = read_ok (older_state net.places net.groups b) e in
    state-alone net b (ap read (older-wider net.places net.groups b was.0 s was.1))

parts-before : (d : List ℕ) (x : Parts) → read (parts older_bound d) ≡ value x → read (parts bound d) ≡ value x
parts-before = wider-read _ _ (parts-wider older-below)

net-before : (d : List ℕ) (net : Net) → described_up_to older_bound d ≡ value net → described d ≡ value net
net-before d net e =
    let found = then-yes net_in (read (parts older_bound d)) net e in
    ap (λ (r : Reply Parts). r >>= λ x. value (net_in x)) (parts-before d found.0 found.1) ∙ ap value (sym found.2)

memory-before : (d : List ℕ) (x : Parts) → read (parts older_bound d) ≡ value x → description_read d ≡ value (net_from x)
unfolding description_read description
memory-before d x e = rw (read_ok (parts bound d) (parts-before d x e)).1

pub as_before : AsBefore
as_before = record { descriptions = net-before; nets = memory-before; states = state-before }

-- ---- what is written for them

module _ (d : List ℕ) (net : Net) (says : described d ≡ value net) (b : List ℕ) (s : State) (r : state_in net b ≡ value s) where
  kept : (edition : Edition) × (restored_in net b ≡ value (record { edition = edition; state = s }))
  kept = with-edition net b r

  bytes : BytesOf net b s
  bytes = read-are d net says b _ kept.1

  of : Fine net
  of = fine-net d net says

  older-is : older_reply d b ≡ (question (numbers_up_to older_bound net s) too_large >>= λ _. value (saved First net s))
  unfolding older_reply
  older-is = rw (says, kept.1)

  -- numbers that are within their bound fit an older observer
  older-fit : numbers_up_to older_bound net s ≡ true → Fit older_bound net.places net.groups s
  unfolding numbers_up_to unplaced
  older-fit e =
      record {
        estimates = λ p l. leb-true _ older_bound (every_true net.places _ (and_left estimated rest e) p l);
        exact = bytes.fit.exact;
        numbers = λ i l. leb-true _ older_bound (every_true net.groups.number _ (and_right estimated rest e) i l);
        empty = bytes.fit.empty;
      }
    where
      estimated : Bool
      estimated = every net.places (λ p. leb (s.estimate p) older_bound)

      rest : Bool
      rest = every net.groups.number (λ i. leb (unplaced net s (suc i)) older_bound)

  -- and are read by it, as the same state
  older-forth : numbers_up_to older_bound net s ≡ true → older_state_in net (saved First net s) ≡ value s
  older-forth e =
      let forth =
      whole-forth older_bound (omega arith) net of.good.outward of.places (omega (arith, of.groups)) First s (older-fit e) in
      ap read (whole-older net.places net.groups (saved First net s) [] (trimmed net s) forth)
      ∙ ap value (sym (read-trimmed d net says b _ kept.1))

  -- whatever it reads is within its bound
  older-back : (c : List ℕ) (t : State) → older_state_in net c ≡ value t → numbers_up_to older_bound net t ≡ true
  unfolding numbers_up_to unplaced
  older-back c t e =
      let was = read_ok (older_state net.places net.groups c) e in
      let read = older-whole net.places net.groups c was.0 t was.1 in
      let fit = (whole_back older_bound (omega arith) net of.good.outward of.places (omega (arith, of.groups)) c was.0 _ read).kept.fit in
      and-true
      (true-every net.places (λ p l. le-leb (t.estimate p) older_bound (fit.estimates p l)))
      (true-every net.groups.number (λ i l. le-leb (unplaced net t (suc i)) older_bound (fit.numbers i l)))

  -- no bytes are read by it as a state with the same numbers
  abbrev Unread : Type 0
  Unread = (c : List ℕ) (t : State) → older_state_in net c ≡ value t → Alike net s t → ⊥

  unread : (numbers_up_to older_bound net s ≡ false) ↔ Unread
  unread = ((λ e c t read alike. false≢true (sym e ∙ up_to-alike net alike older_bound ∙ older-back c t read)), go (numbers_up_to older_bound net s) refl)
    where
      go : (q : Bool) → numbers_up_to older_bound net s ≡ q → Unread → q ≡ false
      go true e none = absurd (none (saved First net s) s (older-forth e) (record { estimates = λ p l. refl; lows = λ i l. refl; highs = λ i l. refl }))
      go false e none = refl

  too_large_lem : (room : ℕ) → (answer room (older_reply d b) ≡ refusal 17) ↔ Unread
  too_large_lem room =
      Iff.trans (room-iff (older_reply d b) room 17 (λ e. omega arith))
      (rw older-is (Iff.trans (question-no (numbers_up_to older_bound net s) too_large (λ e. clash (cc))) unread))

  pub older : Older d net b s
  older =
      record {
        written = λ after u.
            let asked = question-yes (numbers_up_to older_bound net s) too_large (sym older-is ∙ u) in
            let same : saved First net s ≡ after = cc asked.1 in
            rw (← same) (older-forth asked.0);
        too_large = too_large_lem;
        too_large-host = λ room. Iff.trans (wrote-refused (answer room (older_reply d b)) 16) (too_large_lem room);
      }
