-- The calls on values do what the theory's do: the observer is that of the theory's state.
use Prim.Native.Nat.{ℕ, suc, ◌<◌}
use mathlib.Core.Path.{◌≡◌, refl, sym, ap, ◌∙◌, subst}
use mathlib.Core.Bool.{true}
use mathlib.Core.List.{List}
use mathlib.Core.Logic.Iff
use mathlib.Core.Logic.{◌↔◌}
use native.Mathlib.Omega.{arith}
use lib.ListN.{length}
use Rattle.theory.specs.Nets as Theory
use Rattle.theory.specs.Nets.{Marking}
use Rattle.theory.specs.Firing.{Same, Consistent}
use Rattle.theory.specs.Recording.{State, Alike, Within, bound, fresh, next, known}
use Rattle.theory.proofs.Recording.{next-iff}
use Rattle.theory.specs.Replies.{Reply, value, refusal, ◌>>=◌}
use Rattle.theory.specs.Answers.{recorded, judged}
use Rattle.theory.proofs.Answers.{clash, record-yes, then-yes}
use Rattle.theory.proofs.Alike.{judge-alike, recorded-alike, within-iff}
use Rattle.theory.proofs.Known.{known_only}
use Rattle.theory.proofs.Exact.{retold}
use Rattle.theory.proofs.Exact as Exact
use Rattle.theory.proofs.Faithful.{Faithful, alike-demand-2, alike-least, alike-known}
use Rattle.theory.specs.Calls.{Call}
use Rattle.theory.specs.Demands.{JustOne, Demand3}
use Rattle.theory.proofs.Lists.{Tied, both, neither, Ties, Kept, kept-standing, tied-told, safe-standing}
use Rattle.theory.proofs.Lists as Lists
use Rattle.codec.proofs.Joined.{length-listed}
use Rattle.net.specs.declared.Edition.{Edition}
use Rattle.net.specs.declared.Edition.TheVariants.{First}
use Rattle.net.specs.declared.Net.{Net}
use Rattle.net.specs.declared.Observer.{Observer}
use Rattle.net.specs.Bounds.{most_places, most_groups}
use Rattle.net.specs.View.{groups_of, net_of}
use Rattle.net.specs.Check.{net_check}
use Rattle.net.proofs.Check.{well-formed, good-net}
use Rattle.net.specs.Answers.{answer_of}
use Rattle.net.specs.Observers.{state_of, observer_of, fresh_observer}
use Rattle.states.specs.States.Writing.{Fit}
use Rattle.states.specs.States.Nets.{saved}
use Rattle.states.proofs.Nets.{fit-fitting, fit_next, fit-fresh}
use Rattle.values.specs.Values.{both_check, restored_observer, observer_output, recorded_observer, observer_judged, observer_known}
use Rattle.values.proofs.Observers.{before, observer-edition, both-good, both-passed, output-is, same-observer, state-observer, state-fits, write_read}
use Rattle.promises.specs.Lists.{observer_of_reply, bytes_of, edition_numbered, in_edition, on_values, memory}
use Rattle.promises.specs.Promises.{on_values_told, ListsOnValues, Leaves, StateOnValues}
use Rattle.promises.proofs.Told.{report-iff, values-told}
use Rattle.promises.proofs.Bytes.{recorded-fit}

-- an observer of a state that fits; no call on values changes the groups
record ObserverOf (net : Net) (o : Observer) (groups : Theory.Groups) (s : State) : Type 0 where
  unchanged : groups ≡ groups_of net.groups
  edition : Edition
  is : o ≡ observer_of edition net s
  fit : Fit bound net.places (groups_of net.groups) s

-- recording leaves the observer of the theory's next state
recorded-tied : (edition : Edition) (net : Net) (s : State) → Fit bound net.places (groups_of net.groups) s → (number : ℕ)
    → Tied (λ o t. ObserverOf net o (groups_of net.groups) t) (recorded (net_of net) s number >>= λ t. value (observer_of edition net t))
    (recorded (net_of net) s number)
recorded-tied edition net s fit number = go (recorded (net_of net) s number) refl
  where
    go : (r : Reply State) → recorded (net_of net) s number ≡ r
        → Tied (λ o t. ObserverOf net o (groups_of net.groups) t) (r >>= λ t. value (observer_of edition net t)) r
    go (refusal n) u = neither n
    go (value t) u =
        both (observer_of edition net t) t (record { unchanged = refl; edition = edition; is = refl; fit = recorded-fit (net_of net) number fit u })

-- ---- at an observer that fits the net

module _ (net : Net) (o : Observer) (met : both_check net o ≡ value tt) where
  checked : net_check net ≡ value tt
  checked = (both-passed net o met).0

  fit : Fit bound net.places (groups_of net.groups) (state_of o)
  fit = state-fits net checked o (both-passed net o met).1

  recorded-is : (number : ℕ) → recorded_observer net o number ≡ (recorded (net_of net) (state_of o) number >>= λ t. value (observer_of o.edition net t))
  unfolding recorded_observer
  recorded-is number = rw met

  judged-is : (number : ℕ) → observer_judged net o number ≡ judged (net_of net) (state_of o) number
  unfolding observer_judged
  judged-is number = rw met

  state-demand-3 : (e : ℕ) → e < net.events
      → Demand3 on_values_told (net_of net) (Within (net_of net) (state_of o)) (next (net_of net) (state_of o) e).estimate e
      (recorded_observer net o (suc e)) (answer_of (observer_judged net o (suc e)))
  state-demand-3 e l =
      retold (values-told (recorded_observer net o (suc e)) (observer_judged net o (suc e)))
      (retold
      (tied-told {R = λ o t. ObserverOf net o (groups_of net.groups) t} (rw (recorded-is (suc e)) (recorded-tied o.edition net (state_of o) fit (suc e)))
      (judged-is (suc e)))
      (Exact.demand-3 (net_of net) (good-net net checked) (state_of o) (Within (net_of net) (state_of o))
      (record { fitting = fit-fitting (net_of net) fit; sound = λ m w. w; complete = λ m w. w })
      (next (net_of net) (state_of o) e).estimate e (λ t p q. refl) l))

  state-recorded : (number : ℕ) (after : Observer) → recorded_observer net o number ≡ value after → Leaves (net_of net) (state_of o) number (state_of after)
  state-recorded number after u =
      let left = then-yes (observer_of o.edition net) (recorded (net_of net) (state_of o) number) after (sym (recorded-is number) ∙ u) in
      let found = record-yes (net_of net) (state_of o) number left.0 left.1 in
      let is : after ≡ observer_of o.edition net (next (net_of net) (state_of o) found.0) = left.2 ∙ ap (observer_of o.edition net) found.2 in
      let alike : Alike (net_of net) (state_of after) (next (net_of net) (state_of o) found.0)
      = subst (λ (z : Observer). Alike (net_of net) (state_of z) (next (net_of net) (state_of o) found.0)) (sym is)
      (state-observer o.edition net checked (next (net_of net) (state_of o) found.0) (fit_next (net_of net) found.0 fit found.1.range)) in
      record {
        event = found.0;
        numbered = found.1.index;
        next = alike;
        consistent = λ m. Iff.trans (within-iff (net_of net) alike m) (next-iff (net_of net) (state_of o) found.0 found.1.can m);
      }

  state-known : observer_known net o ≡ value true → (m : Marking) → Within (net_of net) (state_of o) m ↔ Same (net_of net) (state_of o).estimate m
  unfolding observer_known
  state-known u =
      let yes : known (net_of net) (state_of o) ≡ true = (let v : value (known (net_of net) (state_of o)) ≡ value true = rw met at u in cc) in
      known_only (net_of net) (good-net net checked) (state_of o) (fit-fitting (net_of net) fit) yes

  pub state-on-values : StateOnValues net o
  state-on-values = record { demand-3 = state-demand-3; recorded = state-recorded; known = state-known }

-- the calls at an observer of a state are the theory's at the state
module _ (edition : Edition) (net : Net) (checked : net_check net ≡ value tt) (s : State) (fit : Fit bound net.places (groups_of net.groups) s) where
  pub same-recorded : (number : ℕ) → recorded_observer net (observer_of edition net s) number
      ≡ (recorded (net_of net) s number >>= λ t. value (observer_of edition net t))
  unfolding recorded_observer
  same-recorded number =
      rw (both-good edition net checked s fit, observer-edition edition net s)
      (recorded-alike (net_of net) (state-observer edition net checked s fit) (observer_of edition net) (λ t u. same-observer edition net checked) number)

  pub same-judged : (number : ℕ) → observer_judged net (observer_of edition net s) number ≡ judged (net_of net) s number
  unfolding observer_judged
  same-judged number = rw (both-good edition net checked s fit) (judge-alike (net_of net) (state-observer edition net checked s fit) number)

  restored-back : restored_observer net (bytes_of (observer_output net (observer_of edition net s))) ≡ value (observer_of edition net s)
  restored-back =
      let out = output-is edition net checked s fit in
      rw (out, write_read net (observer_of edition net s) (saved edition (net_of net) s) estimates-long remainders-long out)
    where
      estimates-long : length (observer_of edition net s).estimates ≡ most_places
      estimates-long = unfold observer_of in length-listed most_places _

      remainders-long : length (observer_of edition net s).remainders ≡ most_groups
      remainders-long = unfold observer_of in length-listed most_groups _

-- an observer in another edition is that of the same state
in-edition : (edition was : Edition) (net : Net) (s : State) → in_edition edition (observer_of was net s) ≡ observer_of edition net s
unfolding observer_of
in-edition edition was net s = refl

-- ---- after a list

module _ (net : Net) (checked : net_check net ≡ value tt) where
  fresh-is : observer_of_reply (fresh_observer net) ≡ observer_of First net (fresh (net_of net))
  unfolding fresh_observer
  fresh-is = rw checked

  pub fresh-fit : Fit bound net.places (groups_of net.groups) (fresh (net_of net))
  fresh-fit =
      let well = well-formed net checked in
      fit-fresh (net_of net) well.good (λ i l.
      rw (before net checked i) (well.valued.counts.small i (omega (arith, well.sized.groups))))

  -- the calls on values are tied to the theory's
  ties : Ties (net_of net) (on_values net) (ObserverOf net)
  ties =
      record {
        begins = record { unchanged = refl; edition = First; is = fresh-is; fit = fresh-fit };
        records = λ o groups s of number room.
            rw (of.unchanged, of.is, same-recorded of.edition net checked s of.fit number) (recorded-tied of.edition net s of.fit number);
        judges = λ o groups s of number. rw (of.unchanged, of.is) (same-judged of.edition net checked s of.fit number);
        counts = λ o groups s of list n described room later u. clash (cc);
        converts = λ o groups s of number room later u.
            let found = then-yes (λ edition. in_edition edition o) (edition_numbered number) later u in
            let is = found.2 ∙ ap (in_edition found.0) of.is ∙ in-edition found.0 of.edition net s in
            record { unchanged = of.unchanged; edition = found.0; is = is; fit = of.fit };
        restores = λ o now groups s of there. record {
          state = observer_of of.edition net s;
          read = rw of.is (restored-back of.edition net checked s of.fit);
          tied = record { unchanged = of.unchanged; edition = of.edition; is = refl; fit = of.fit };
        };
      }

  module _ (list : List Call) where
    kept : Kept (net_of net) (on_values net) (ObserverOf net) (memory net list)
    kept = kept-standing (good-net net checked) ties list

    faithful : Faithful (net_of net) (groups_of net.groups) kept.state (memory net list).deeds
    faithful =
        subst (λ (groups : Theory.Groups). Faithful (net_of net) groups kept.state (memory net list).deeds) kept.tied.unchanged
        kept.faithful

    alike : Alike (net_of net) (state_of (memory net list).state) kept.state
    alike = rw kept.tied.is (state-observer kept.tied.edition net checked kept.state kept.tied.fit)

    fits : both_check net (memory net list).state ≡ value tt
    fits = rw kept.tied.is (both-good kept.tied.edition net checked kept.state kept.tied.fit)

    list-known : (observer_known net (memory net list).state ≡ value true) ↔ JustOne (net_of net) (Consistent (net_of net) (memory net list).deeds)
    unfolding observer_known
    list-known =
        rw fits (report-iff (known (net_of net) (state_of (memory net list).state))
        (alike-known (net_of net) (groups_of net.groups) kept.state (memory net list).deeds faithful (state_of (memory net list).state) alike))

    pub list-on-values : ListsOnValues net list
    list-on-values =
        record {
          demand-2 = alike-demand-2 (net_of net) (groups_of net.groups) kept.state (memory net list).deeds faithful (state_of (memory net list).state) alike;
          least = alike-least (net_of net) (groups_of net.groups) kept.state (memory net list).deeds faithful (state_of (memory net list).state) alike;
          demand-3 = λ e l.
              retold (values-told (recorded_observer net (memory net list).state (suc e)) (observer_judged net (memory net list).state (suc e)))
              (Lists.demand-3 (good-net net checked) ties (memory net list) kept 0 e l);
          known = list-known;
          stays = safe-standing (good-net net checked) ties list;
        }
