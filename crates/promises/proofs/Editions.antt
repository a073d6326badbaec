-- Both editions of a saved state: what is converted, and that both forms of a state answer alike.
use Prim.Native.Nat.{ℕ}
use mathlib.Core.Path.{◌≡◌, refl, sym, ap, ◌∙◌}
use mathlib.Core.List.{List}
use Rattle.theory.specs.Nets.{Net, recounted}
use Rattle.theory.specs.Recording.{State}
use Rattle.theory.specs.Replies.{Reply, value, refusal, ◌>>=◌}
use Rattle.theory.specs.Answers.{recorded, head_counted}
use Rattle.net.specs.declared.Edition.{Edition}
use Rattle.net.specs.declared.Net as Values
use Rattle.net.specs.declared.Observer.{Observer}
use Rattle.net.specs.View.{net_of}
use Rattle.net.specs.Observers.{state_of, observer_of}
use Rattle.states.specs.States.{Restored}
use Rattle.states.specs.States.Nets.{saved}
use Rattle.observer.specs.Bytes.{described, restored_in, state_in, record_reply, judge_reply, known_reply, count_reply, older_reply, converted_reply}
use Rattle.values.specs.Values.{observer_fits, both_check, recorded_observer, observer_judged, observer_known, observer_unplaced}
use Rattle.promises.specs.Lists.{in_edition}
use Rattle.promises.specs.Promises.{Converts, pair_in, SameAnswers, SameOnValues}
use Rattle.promises.proofs.Described.{BytesOf, with-edition, written_back, read-are, read-bytes, read-trimmed}
use Rattle.promises.proofs.Bytes.{both, recorded-fit, recorded-is, Counts, counted_is, converted-is}

-- ---- conversions

module _ (d : List ℕ) (net : Net) (says : described d ≡ value net) (b : List ℕ) (x : Restored) (r : restored_in net b ≡ value x) where
  bytes : BytesOf net b x.state
  bytes = read-are d net says b x r

  -- the bytes of the same state in an edition
  there : (edition : Edition) → BytesOf net (saved edition net x.state) x.state
  there edition = record { edition = edition; are = refl; fit = bytes.fit }

  pub converts : Converts d net b x
  converts =
      record {
        copied = converted-is d net says b x.state bytes x.edition ∙ ap value (sym (read-bytes d net says b x r));
        written = λ edition. (
          saved edition net x.state,
          converted-is d net says b x.state bytes edition,
          written_back d net says edition x.state bytes.fit
              ∙ ap (λ (s : State). value (record { edition = edition; state = s })) (sym (read-trimmed d net says b x r)),
          converted-is d net says (saved edition net x.state) x.state (there edition) x.edition ∙ ap value (sym (read-bytes d net says b x r)),
        );
      }

-- ---- both forms

module _ (d : List ℕ) (net : Net) (says : described d ≡ value net) (s : State) where
  -- what is recorded of a state, in an edition
  recorded-in : (b : List ℕ) → BytesOf net b s → (edition : Edition) (number : ℕ)
      → (record_reply d b number >>= converted_reply edition d) ≡ (recorded net s number >>= λ t. value (saved edition net t))
  recorded-in b bytes edition number = rw (recorded-is d net says b s bytes number) (go (recorded net s number) refl)
    where
      go : (r : Reply State) → recorded net s number ≡ r
          → ((r >>= λ t. value (saved bytes.edition net t)) >>= converted_reply edition d) ≡ (r >>= λ t. value (saved edition net t))
      go (refusal n) u = refl
      go (value t) u =
          converted-is d net says (saved bytes.edition net t) t
          (record { edition = bytes.edition; are = refl; fit = recorded-fit net number bytes.fit u }) edition

  -- what is counted at a state, in an edition
  counted-in : (b : List ℕ) → BytesOf net b s → (edition : Edition) (list : List ℕ) (n : ℕ)
      → (count_reply d b list n >>= pair_in edition)
      ≡ (head_counted net s list n >>= λ t. value (both (counted_is d net says list n).0 (saved edition (recounted net list n) t)))
  counted-in b bytes edition list n = rw counts.is (go (head_counted net s list n) refl)
    where
      description : List ℕ
      description = (counted_is d net says list n).0

      later : Net
      later = recounted net list n

      counts : Counts net s list n bytes.edition (counted_is d net says list n).0 (count_reply d b list n)
      counts = (counted_is d net says list n).1 b s bytes

      go : (r : Reply State) → head_counted net s list n ≡ r
          → ((r >>= λ t. value (both description (saved bytes.edition later t))) >>= pair_in edition)
          ≡ (r >>= λ t. value (both description (saved edition later t)))
      go (refusal m) u = refl
      go (value t) u =
          let left = counts.leaves t u in
          ap (λ (r : Reply (List ℕ)). r >>= λ b. value (both description b))
          (converted-is description later left.net-is (saved bytes.edition later t) t left.state-is edition)

  module _ (b c : List ℕ) (rb : state_in net b ≡ value s) (rc : state_in net c ≡ value s) where
    first : (edition : Edition) × (restored_in net b ≡ value (record { edition = edition; state = s }))
    first = with-edition net b rb

    second : (edition : Edition) × (restored_in net c ≡ value (record { edition = edition; state = s }))
    second = with-edition net c rc

    bytes_of : (e : List ℕ) {edition : Edition} → restored_in net e ≡ value (record { edition = edition; state = s }) → BytesOf net e s
    bytes_of e r = read-are d net says e _ r

    pub same-answers : SameAnswers d b c
    unfolding judge_reply known_reply older_reply converted_reply
    same-answers =
        let left = bytes_of b first.1 in
        let right = bytes_of c second.1 in
        record {
          judged = λ number. rw (says, first.1, second.1);
          known = rw (says, first.1, second.1);
          older = rw (says, first.1, second.1);
          converted = λ edition. rw (says, first.1, second.1);
          recorded = λ edition number. recorded-in b left edition number ∙ sym (recorded-in c right edition number);
          counted = λ edition list n. counted-in b left edition list n ∙ sym (counted-in c right edition list n);
        }

-- ---- on values

recorded-same : (net : Values.Net) (o : Observer) (edition : Edition) (number : ℕ)
    → recorded_observer net (in_edition edition o) number ≡ (recorded_observer net o number >>= λ after. value (in_edition edition after))
unfolding recorded_observer both_check observer_fits observer_of
recorded-same net o edition number = go (both_check net o) (recorded (net_of net) (state_of o) number)
  where
    go : (c : Reply Unit) (r : Reply State)
        → (c >>= λ _. r >>= λ t. value (observer_of edition net t))
        ≡ ((c >>= λ _. r >>= λ t. value (observer_of o.edition net t)) >>= λ after. value (in_edition edition after))
    go (value u) (value t) = refl
    go (value u) (refusal n) = refl
    go (refusal n) r = refl

pub same-on-values : (net : Values.Net) (o : Observer) (edition : Edition) → SameOnValues net o edition
unfolding observer_judged observer_known observer_unplaced both_check observer_fits
same-on-values net o edition =
    record {
      judged = λ number. refl;
      known = refl;
      unplaced = refl;
      recorded = recorded-same net o edition;
    }
