-- One event: what the rows of the leaf crates answer and leave is what the theory says, and its line.
use Prim.Native.Nat.{ℕ, zero, suc, ◌-◌, ◌≤◌, ◌<◌}
use mathlib.Core.Path.{◌≡◌, refl, sym, ap, ◌∙◌}
use mathlib.Core.Bool.{false}
use mathlib.Core.List.{List}
use native.Mathlib.Omega.{arith}
use borrow.Author.Tests.{lt-ltb}
use lib.ListN.{length, get_or}
use Rattle.theory.specs.Nets.{share, less}
use Rattle.theory.specs.Recording.{State, Alike, bound, settled, none_placed, fresh, next, unplaced}
use Rattle.theory.specs.Replies.{Reply, value, refusal, ◌>>=◌}
use Rattle.theory.specs.Answers.{ask, recorded, judged}
use Rattle.theory.proofs.Answers.{clash}
use Rattle.theory.proofs.Alike.{unplaced-alike}
use Rattle.codec.proofs.Joined.{first-at, length-listed}
use Rattle.net.specs.declared.Net.{Net}
use Rattle.net.specs.declared.Observer.{Observer}
use Rattle.net.specs.declared.Verdict.{Verdict}
use Rattle.net.specs.Bounds.{most_places, most_groups}
use Rattle.net.specs.View.{at64, event_row, net_of, rules_of}
use Rattle.net.specs.Check.{counted, net_check}
use Rattle.net.specs.declared.Edition.TheVariants.{First}
use Rattle.net.specs.Observers.{observer_of, fresh_observer}
use Rattle.net.proofs.Check.{WellFormed, well-formed}
use Rattle.net.specs.Answers.{answer_of}
use Rattle.net.proofs.Copying.{event-row-at}
use Rattle.steps.specs.Steps.{estimates_after, remainders_after, StepLeaves}
use Rattle.steps.proofs.Stepped.{Stepped, step-leaves}
use Rattle.steps.specs.Totals.{unplaced_numbers}
use Rattle.steps.proofs.Unplaced.{Totals, unplaced-are}
use Rattle.steps.proofs.Meaning.{asked_of, Arrays, Rows, unplaced-is, step-asks, step-arrays}
use Rattle.limits.specs.Weighing.{tables_weighed}
use Rattle.limits.proofs.Weighed.{net-judged}
use Rattle.description.specs.Read.{description_read}
use Rattle.description.proofs.Answered.{read-checked}
use Rattle.journal.specs.Lines.{line_bytes}
use Rattle.journal.specs.Printed.{line, lines}
use Rattle.journal.specs.Passing.{state_in, Running, begun, Steps}
use Rattle.journal.proofs.Runs.{line_same, lines-alike}

same-state : (net : Net) (s : State) → Alike (net_of net) s s
same-state net s = record { estimates = λ p l. refl; lows = λ i l. refl; highs = λ i l. refl }

-- ---- the start

-- what is read of a description
module _ (d : List ℕ) where
  abbrev start : Net → Reply (Net × Observer)
  start net = fresh_observer net >>= λ observer. value (net, observer)

  pub begun-net : (begin : Net × Observer) → begun d ≡ value begin → (description_read d ≡ value begin.0) × (fresh_observer begin.0 ≡ value begin.1)
  begun-net begin e = go (description_read d) refl e
    where
      started : (net : Net) (r : Reply Observer) → description_read d ≡ value net → fresh_observer net ≡ r → (r >>= λ observer. value (net, observer)) ≡ value begin
          → (description_read d ≡ value begin.0) × (fresh_observer begin.0 ≡ value begin.1)
      started net (value observer) read is e = let same : ◌≡◌ {A = Net × Observer} (net, observer) begin = cc in rw (← same) (read, is)
      started net (refusal n) read is e = clash (cc)

      go : (r : Reply Net) → description_read d ≡ r → (r >>= start) ≡ value begin
          → (description_read d ≡ value begin.0) × (fresh_observer begin.0 ≡ value begin.1)
      go (value net) read e = started net (fresh_observer net) read refl e
      go (refusal n) read e = clash (cc)

  -- a net that is read meets no question, so that it is the description that is refused
  pub begun-refused : (n : ℕ) → begun d ≡ refusal n → description_read d ≡ refusal n
  unfolding fresh_observer
  begun-refused n e = go (description_read d) refl e
    where
      go : (r : Reply Net) → description_read d ≡ r → (r >>= start) ≡ refusal n → r ≡ refusal n
      go (value net) read e = clash (let begins = rw (read-checked d net read) at e in cc)
      go (refusal m) read e = let same : m ≡ n = cc in ap refusal same

module _ (net : Net) (good : net_check net ≡ value tt) {observer : Observer} (e : fresh_observer net ≡ value observer) where
  fine : WellFormed net
  fine = well-formed net good

  observer-is : observer ≡ observer_of First net (fresh (net_of net))
  unfolding fresh_observer
  observer-is = let same = rw good at e in cc

  estimates-are : (p : ℕ) → p < net.places → get_or observer.estimates p 0 ≡ (fresh (net_of net)).estimate p
  unfolding observer_of
  estimates-are p l = rw observer-is (first-at most_places net.places (fresh (net_of net)).estimate fine.sized.places p l)

  remainders-are : (i : ℕ) → i < net.groups.number → get_or observer.remainders i 0 ≡ (fresh (net_of net)).high (suc i)
  unfolding observer_of
  remainders-are i l = rw observer-is (first-at most_groups net.groups.number (λ j. (fresh (net_of net)).high (suc j)) fine.sized.groups i l)

  pub fresh-running : Running net observer.estimates observer.remainders
  unfolding observer_of fresh settled none_placed share less
  fresh-running =
      record {
        good = good;
        long = ap (λ (o : Observer). length o.estimates) observer-is ∙ length-listed most_places _;
        wide = ap (λ (o : Observer). length o.remainders) observer-is ∙ length-listed most_groups _;
        small = λ i l.
            let one : suc i - 1 ≡ i = omega arith in
            let count : get_or net.groups.counts (suc i - 1) 0 ≤ bound = rw one (fine.valued.counts.small i (omega (arith, fine.sized.groups))) in
            omega (arith, remainders-are i l, count);
      }

  pub fresh_lines : (bytes : List ℕ)
      → lines (net_of net) (fresh (net_of net)) bytes ≡ lines (net_of net) (state_in observer.estimates observer.remainders) bytes
  unfolding fresh settled none_placed
  fresh_lines bytes = sym (lines-alike (net_of net) (record { estimates = estimates-are; lows = λ i l. at i ∙ remainders-are i l; highs = λ i l. at i ∙ remainders-are i l }) bytes)
    where
      at : (i : ℕ) → get_or observer.remainders (suc i - 1) 0 ≡ get_or observer.remainders i 0
      at i = ap (λ (k : ℕ). get_or observer.remainders k 0) (let one : suc i - 1 ≡ i = omega arith in one)

-- ---- one event

module _ {net : Net} {estimates remainders : List ℕ} (run : Running net estimates remainders) where
  pub formed : WellFormed net
  formed = well-formed net run.good

  abbrev s : State
  s = state_in estimates remainders

  arrays : Arrays net.places net.groups (rules_of net) s estimates remainders
  arrays = record { estimate = λ p l. refl; remainder = λ i l. let one : suc i - 1 ≡ i = omega arith in rw one }

  -- an event that is refused leaves all as it was
  refused-steps : (event n : ℕ) → ask (net_of net) s event ≡ refusal n → Steps net event estimates remainders estimates remainders (refusal n)
  unfolding recorded judged
  refused-steps event n e = record { judges = rw e; leaves = rw e (same-state net s); running = run }

  -- "Is the event number 1 to T?"
  pub none-steps : (event : ℕ) → counted net.events event ≡ false → Steps net event estimates remainders estimates remainders (refusal 10)
  unfolding ask
  none-steps event none = refused-steps event 10 (asks event none)
    where
      asks : (event : ℕ) → counted net.events event ≡ false → ask (net_of net) s event ≡ refusal 10
      asks zero none = refl
      asks (suc e) none = rw (rw (lt-ltb 0 (suc e) (omega arith)) at none)

  module _ (event e : ℕ) (is : event ≡ suc e) (few : e < net.events) {takes gives : List ℕ} (taken : takes ≡ event_row net.takes e)
      (given : gives ≡ event_row net.gives e) where
    rows : Rows net.places net.groups (rules_of net) e takes gives
    rows = record { take = λ p l. rw taken (row net.takes p l); give = λ p l. rw given (row net.gives p l) }
      where
        row : (table : List ℕ) (p : ℕ) → p < net.places → get_or (event_row table e) p 0 ≡ get_or table (at64 e p) 0
        row table p l = event-row-at table e p (omega (arith, formed.sized.events)) (omega (arith, formed.sized.places))

    module _ {c : Reply Unit} {after left : List ℕ}
        (step : StepLeaves net.places net.groups.number net.groups.homes takes gives estimates remainders c after left) where
      asks : ask (net_of net) s event ≡ asked_of e c
      asks =
          ap (ask (net_of net) s) is
          ∙ step-asks net.places net.groups (rules_of net) arrays rows few formed.sized.places formed.sized.groups
          ∙ ap (asked_of e) (sym step.0)

      -- questions 11 and 12
      pub step-refused : (n : ℕ) → c ≡ refusal n → Steps net event estimates remainders after left (refusal n)
      unfolding estimates_after remainders_after
      step-refused n refused =
          rw (step.1, step.2, ← step.0, refused) (refused-steps event n (asks ∙ ap (asked_of e) refused))

      -- the event is recorded, and the limits give the verdict
      pub step-recorded : c ≡ (value tt) → {answer : Reply Verdict}
          → answer
          ≡ answer_of (tables_weighed net.places net.groups.number net.limits net.groups.homes takes gives after left net.ceilings net.weights)
          → Steps net event estimates remainders after left answer
      unfolding recorded judged next
      step-recorded good weighed =
          let stepped : Stepped net.places net.groups.number net.groups.homes takes gives estimates remainders after left =
          rw (step.1, step.2)
          (step-leaves net.places net.groups.number net.groups.homes takes gives estimates remainders (sym step.0 ∙ good)
          (omega (arith, run.long, formed.sized.places)) (omega (arith, run.wide, formed.sized.groups))) in
          let arrays-after = step-arrays net.places net.groups (rules_of net) arrays rows stepped in
          let met : ask (net_of net) s event ≡ value e = asks ∙ ap (asked_of e) good in
          record {
            judges = weighed ∙ rw met
                (ap answer_of (net-judged net formed s e (λ i l. refl) takes gives after left rows.take rows.give arrays-after.estimate arrays-after.remainder));
            leaves = rw met (in-arrays arrays-after);
            running = record {
              good = run.good;
              long = stepped.long.0 ∙ run.long;
              wide = stepped.long.1 ∙ run.wide;
              small = λ i l. omega (arith, stepped.remainder i l, run.small i l);
            };
          }
        where
          at : (i : ℕ) → get_or left (suc i - 1) 0 ≡ get_or left i 0
          at i = ap (λ (k : ℕ). get_or left k 0) (let one : suc i - 1 ≡ i = omega arith in one)

          in-arrays : Arrays net.places net.groups (rules_of net) (next (net_of net) s e) after left
              → Alike (net_of net) (state_in after left) (next (net_of net) s e)
          in-arrays a =
              record {
                estimates = a.estimate;
                lows = λ i l. at i ∙ a.remainder i l;
                highs = λ i l. at i ∙ a.remainder i l;
              }

-- the line of an event that is judged and recorded
pub line-is : {net : Net} {event : ℕ} {estimates remainders after left : List ℕ} {answer : Reply Verdict} → Steps net event estimates remainders after left answer
    → {numbers : List ℕ} → numbers ≡ unplaced_numbers net.groups.number net.groups.around left
    → line_bytes event answer net.places (λ p. get_or after p 0) net.groups.number (λ i. get_or numbers i 0)
    ≡ line (net_of net) (state_in estimates remainders) event
unfolding unplaced
line-is {net} {event} {estimates} {remainders} {after} {left} steps {numbers} are =
    line_same event net.places net.groups.number steps.judges steps.leaves.estimates
    (λ i l. ap (λ (n : List ℕ). get_or n i 0) are ∙ number i l ∙ unplaced-alike (net_of net) steps.leaves (suc i))
  where
    fine : WellFormed net
    fine = formed steps.running

    totals : Totals net.groups.number net.groups.around left
    totals = record { few = fine.sized.groups; outward = λ i l. omega (arith, fine.outward i l); small = steps.running.small }

    number : (i : ℕ) → i < net.groups.number
        → get_or (unplaced_numbers net.groups.number net.groups.around left) i 0 ≡ unplaced (net_of net) (state_in after left) (suc i)
    number i l =
        unplaced-are totals i l
        ∙ unplaced-is net.places net.groups (rules_of net) (arrays steps.running) (suc i)
