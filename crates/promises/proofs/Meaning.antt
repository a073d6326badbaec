-- A call on bytes answers as the calls on values do one after the other.
use Prim.Native.Nat.{ℕ}
use mathlib.Core.Path.{◌≡◌, refl, sym, ap, ◌∙◌, subst}
use mathlib.Core.List.{List}
use native.Mathlib.Omega.{arith}
use Rattle.theory.specs.Nets as Theory
use Rattle.theory.specs.Nets.{SameNet, own}
use Rattle.theory.specs.Recording.{State, bound, one_place, certain, settled, none_placed, fresh, known, unplaced}
use Rattle.theory.specs.Replies.{Reply, value, refusal, ◌>>=◌}
use Rattle.theory.specs.Answers.{recorded, judged}
use Rattle.theory.proofs.Answers.{clash}
use Rattle.theory.proofs.Alike.{known_alike}
use Rattle.theory.proofs.SameNet.{judge-same, recorded-same}
use Rattle.codec.specs.Reader.{Result, ok, no, onward, done, read}
use Rattle.net.specs.declared.Edition.{Edition}
use Rattle.net.specs.declared.Edition.TheVariants.{First}
use Rattle.net.specs.declared.Net.{Net}
use Rattle.net.specs.declared.Observer.{Observer}
use Rattle.net.specs.View.{groups_of, net_of}
use Rattle.net.specs.Check.{net_check}
use Rattle.net.specs.Observers.{observer_of, fresh_observer}
use Rattle.net.proofs.Check.{WellFormed, well-formed}
use Rattle.description.specs.Grammar.{Parts, parts, net_from, description}
use Rattle.description.specs.Read.{description_read}
use Rattle.description.proofs.Fine.{fine-good}
use Rattle.states.specs.States.Writing.{Fit}
use Rattle.states.specs.States.{Restored}
use Rattle.states.proofs.Inverse.{whole_back}
use Rattle.states.specs.States.Nets.{saved, restored}
use Rattle.states.proofs.Nets.{saved-alike}
use Rattle.observer.specs.Bytes.{net_in, described, restored_in, state_in, fresh_reply, record_reply, judge_reply, known_reply}
use Rattle.observer.proofs.Described.{fine, same-net}
use Rattle.values.specs.Values.{restored_observer, observer_output, recorded_observer, observer_judged, observer_known}
use Rattle.values.proofs.Observers.{both-good, output-is, state-observer}
use Rattle.promises.specs.Promises.{OneMeaning}
use Rattle.promises.proofs.Bytes.{recorded-fit}
use Rattle.promises.proofs.Values.{fresh-fit, same-recorded, same-judged}

-- ---- on values, for a net that meets no question: the calls at what is restored are the theory's

module _ (net : Net) (checked : net_check net ≡ value tt) where
  -- a call at the observer that is restored from bytes, and what the theory says at the state in them
  restored-then : {B : Type 0} (call : Observer → Reply B) (says : Restored → Reply B)
      → ((x : Restored) → Fit bound net.places (groups_of net.groups) x.state → call (observer_of x.edition net x.state) ≡ says x)
      → (b : List ℕ) → (restored_observer net b >>= call) ≡ (restored_in (net_of net) b >>= says)
  unfolding restored_observer
  restored-then call says same b = rw checked (go (restored (net_of net) b) refl)
    where
      well : WellFormed net
      well = well-formed net checked

      go : (r : Result Restored) → restored (net_of net) b ≡ r
          → ((read r >>= λ x. value (observer_of x.edition net x.state)) >>= call) ≡ (read r >>= says)
      go (ok x left) u =
          same x
          (whole_back bound (omega arith) (net_of net) well.good.outward well.sized.places (omega (arith, well.sized.groups)) b left x u).kept.fit
      go (no n) u = refl

  fresh-output : (fresh_observer net >>= observer_output net) ≡ value (saved First (net_of net) (fresh (net_of net)))
  unfolding fresh_observer
  fresh-output = rw checked (output-is First net checked (fresh (net_of net)) (fresh-fit net checked))

  recorded-output : (edition : Edition) (number : ℕ) (s : State) → Fit bound net.places (groups_of net.groups) s
      → (recorded_observer net (observer_of edition net s) number >>= observer_output net)
      ≡ (recorded (net_of net) s number >>= λ t. value (saved edition (net_of net) t))
  recorded-output edition number s fit = rw (same-recorded edition net checked s fit number) (go (recorded (net_of net) s number) refl)
    where
      go : (r : Reply State) → recorded (net_of net) s number ≡ r
          → ((r >>= λ t. value (observer_of edition net t)) >>= observer_output net) ≡ (r >>= λ t. value (saved edition (net_of net) t))
      go (value t) u = output-is edition net checked t (recorded-fit (net_of net) number fit u)
      go (refusal n) u = refl

  known_is : (x : Restored) → Fit bound net.places (groups_of net.groups) x.state
      → observer_known net (observer_of x.edition net x.state) ≡ value (known (net_of net) x.state)
  unfolding observer_known
  known_is x fit = rw (both-good x.edition net checked x.state fit)
      (ap value (known_alike (net_of net) (state-observer x.edition net checked x.state fit)))

-- a reply to the state alone
state-alone : {B : Type 0} (r : Reply Restored) (next : State → Reply B) → ((r >>= λ x. value x.state) >>= next) ≡ (r >>= λ x. next x.state)
state-alone (value x) next = refl
state-alone (refusal n) next = refl

-- ---- of a description

module _ (d left : List ℕ) (x : Parts) (e : parts bound d ≡ ok x left) where
  abbrev net : Net
  net = net_from x

  checked : net_check net ≡ value tt
  checked = fine-good net (fine d left x e)

  same : SameNet (net_in x) (net_of net)
  same = same-net d left x e

  fresh-one : value (saved First (net_in x) (fresh (net_in x))) ≡ (fresh_observer net >>= observer_output net)
  unfolding net_from fresh none_placed settled certain one_place own
  fresh-one = sym (fresh-output net checked)

  recorded-one : (b : List ℕ) (number : ℕ)
      → (restored_in (net_in x) b >>= λ y. recorded (net_in x) y.state number >>= λ t. value (saved y.edition (net_in x) t))
      ≡ (restored_observer net b >>= λ o. recorded_observer net o number >>= observer_output net)
  unfolding net_from
  recorded-one b number =
      sym (restored-then net checked (λ o. recorded_observer net o number >>= observer_output net) _ (λ y fit.
      recorded-output net checked y.edition number y.state fit
      ∙ sym (recorded-same same (saved y.edition (net_in x)) (λ t u. saved-alike (net_in x) y.edition) y.state number)) b)

  judged-one : (b : List ℕ) (number : ℕ)
      → (state_in (net_in x) b >>= λ s. judged (net_in x) s number) ≡ (restored_observer net b >>= λ o. observer_judged net o number)
  unfolding net_from
  judged-one b number =
      state-alone (restored_in (net_in x) b) (λ s. judged (net_in x) s number)
      ∙ sym (restored-then net checked (λ o. observer_judged net o number) _ (λ y fit.
      same-judged y.edition net checked y.state fit number ∙ sym (judge-same same y.state number)) b)

  known-one : (b : List ℕ)
      → (state_in (net_in x) b >>= λ s. value (known (net_in x) s)) ≡ (restored_observer net b >>= observer_known net)
  unfolding net_from known unplaced
  known-one b =
      state-alone (restored_in (net_in x) b) (λ s. value (known (net_in x) s)) ∙ sym (restored-then net checked (observer_known net) _ (known_is net checked) b)

module _ (d : List ℕ) where
  -- a call on what a description says, and a call on the net that it is read to
  described-then : {B : Type 0} (says : Theory.Net → Reply B) (call : Net → Reply B)
      → ((left : List ℕ) (x : Parts) → parts bound d ≡ ok x left → says (net_in x) ≡ call (net_from x))
      → (described d >>= says) ≡ (description_read d >>= call)
  unfolding description_read description
  described-then says call same = go (parts bound d) refl
    where
      go : (r : Result Parts) → parts bound d ≡ r
          → ((read r >>= λ x. value (net_in x)) >>= says) ≡ (read (onward r (λ x. done (net_from x))) >>= call)
      go (ok x left) u = same left x u
      go (no n) u = refl

  net-one : (net : Net) → description_read d ≡ value net
      → (other : Theory.Net) × (described d ≡ value other) × SameNet other (net_of net)
  unfolding description_read description
  net-one net v = go (parts bound d) refl v
    where
      go : (r : Result Parts) → parts bound d ≡ r → read (onward r (λ x. done (net_from x))) ≡ value net
          → (other : Theory.Net) × ((read r >>= λ x. value (net_in x)) ≡ value other) × SameNet other (net_of net)
      go (ok x left) u w =
          let here : net_from x ≡ net = cc in
          (net_in x, refl, subst (λ (n : Net). SameNet (net_in x) (net_of n)) here (same-net d left x u))
      go (no n) u w = clash (cc)

pub one-meaning : OneMeaning
unfolding fresh_reply record_reply judge_reply known_reply
one-meaning =
    record {
      fresh = λ d. described-then d _ _ (fresh-one d);
      recorded = λ d s number. described-then d _ _ (λ left x e. recorded-one d left x e s number);
      judged = λ d s number. described-then d _ _ (λ left x e. judged-one d left x e s number);
      known = λ d s. described-then d _ _ (λ left x e. known-one d left x e s);
      nets = net-one;
    }
