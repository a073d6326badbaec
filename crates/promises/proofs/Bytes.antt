-- The calls on bytes do what the theory's do: the bytes are those of the theory's state.
use Prim.Native.Nat.{ℕ, suc, ◌<◌}
use mathlib.Core.Path.{◌≡◌, refl, sym, ap, ◌∙◌, subst}
use mathlib.Core.Bool.{Bool, true, false, ◌&&◌}
use mathlib.Core.List.{List}
use mathlib.Core.Logic.Iff
use mathlib.Core.Logic.{◌↔◌, ◌⊎◌}
use native.Mathlib.Omega.{arith}
use lib.Dec.{leb}
use lib.ListN.{length}
use Rattle.theory.specs.Nets.{Net, Groups, Marking, with_groups, recounted}
use Rattle.theory.specs.Firing.{Same, Consistent, Countable}
use Rattle.theory.specs.Recording.{State, Alike, Within, bound, next, after_count, known}
use Rattle.theory.proofs.Recording.{next-iff}
use Rattle.theory.specs.Replies.{Reply, value, refusal, ◌>>=◌, question}
use Rattle.theory.specs.Answers.{recorded, judged, loose_set, head_counted, no_room}
use Rattle.theory.proofs.Answers.{clash, then-yes, then-no, question-yes, record-yes}
use Rattle.theory.proofs.Alike.{alike-sym, judge-alike, recorded-alike, counted-alike, within-iff}
use Rattle.theory.proofs.Counting.{loose-set, count_yes, within_count, countable-iff, miscounted-iff}
use Rattle.theory.proofs.Known.{known_only}
use Rattle.theory.proofs.Exact.{retold}
use Rattle.theory.proofs.Exact as Exact
use Rattle.theory.proofs.Faithful.{alike-demand-2, alike-least, alike-known}
use Rattle.theory.specs.Calls.{Call}
use Rattle.theory.specs.Demands.{Demand2, Least, JustOne, Demand3}
use Rattle.theory.proofs.Lists.{Tied, neither, full, Ties, Kept, kept-standing, tied-told, safe-standing}
use Rattle.theory.proofs.Lists as Lists
use Rattle.theory.proofs.Fitting.{Good, Fitting}
use Rattle.codec.specs.Reader.{Result, ok, read}
use Rattle.codec.specs.Output.{fitting, answer, Pair, both_fitting, both_answer}
use Rattle.net.specs.declared.Edition.{Edition}
use Rattle.net.specs.declared.Edition.TheVariants.{First}
use Rattle.net.specs.Answers.{answer_of}
use Rattle.net.proofs.Recounted.{loose-list}
use Rattle.description.specs.Grammar.{Parts, parts, net_from, recounted_parts}
use Rattle.description.specs.Writing.{net_bytes}
use Rattle.description.proofs.Recounted.{recounted-view, parts-recounted}
use Rattle.states.specs.States.Writing.{Fit}
use Rattle.states.specs.States.Nets.{saved}
use Rattle.states.proofs.Nets.{saved-alike, fit-fitting, fit_next, fit-fresh, fit_count}
use Rattle.observer.specs.Bytes.{net_in, described, state_in, fresh_reply, record_reply, judge_reply, known_reply, count_reply, converted_reply}
use Rattle.observer.proofs.Described.{good}
use Rattle.promises.specs.Lists.{edition_numbered, with_state, on_bytes, host, kept_description, kept_state}
use Rattle.host.proofs.Numbers.{both-refused}
use Rattle.promises.specs.Promises.{on_bytes_told, estimate_after, ListsOnBytes, Leaves, Recounts, StateOnBytes}
use Rattle.promises.proofs.Told.{report-iff, known-told, rooms-iff, bytes-told, in-numbers}
use Rattle.promises.proofs.Described.{of-described, Fine, fine-net, BytesOf, state-alone, read_back, state-are}

-- recording leaves a state that fits
pub recorded-fit : (net : Net) {s t : State} (number : ℕ) → Fit bound net.places net.groups s → recorded net s number ≡ value t
    → Fit bound net.places net.groups t
recorded-fit net {s} {t} number fit u =
    let found = record-yes net s number t u in
    rw found.2 (fit_next net found.0 fit found.1.range)

-- these are a description of the net and the bytes of a state of it
pub record PairOf (net : Net) (pair : Pair) (s : State) : Type 0 where
  pub net-is : described pair.description ≡ value net
  pub state-is : BytesOf net pair.state s

-- a description and a state
abbrev pub both : List ℕ → List ℕ → Pair
both d b = record { description = d; state = b }

module _ (d : List ℕ) (net : Net) (says : described d ≡ value net) (b : List ℕ) (s : State) (bytes : BytesOf net b s) where
  -- ---- recording and judging

  pub recorded-is : (number : ℕ) → record_reply d b number ≡ (recorded net s number >>= λ t. value (saved bytes.edition net t))
  unfolding record_reply
  recorded-is number =
      let back = read_back d net says b bytes in
      rw (says, back.1) (sym (recorded-alike net back.2 (saved bytes.edition net) (λ t u. saved-alike net bytes.edition) number))

  pub judged-is : (number : ℕ) → judge_reply d b number ≡ judged net s number
  unfolding judge_reply
  judged-is number =
      let back = read_back d net says b bytes in
      rw (says, back.1) (sym (judge-alike net back.2 number))

  -- recording leaves the description, and the bytes of the theory's next state, where there is room for them
  record-tied : (number room : ℕ)
      → Tied (PairOf net) (fitting room (record_reply d b number) >>= λ after. value (both d after)) (recorded net s number)
  record-tied number room = rw (recorded-is number) (go (recorded net s number) refl)
    where
      enough : (t : State) → Fit bound net.places net.groups t → (some : Bool)
          → Tied (PairOf net) ((question some no_room >>= λ _. value (saved bytes.edition net t)) >>= λ after. value (both d after)) (value t)
      enough t fit true = Lists.both _ _ (record { net-is = says; state-is = record { edition = bytes.edition; are = refl; fit = fit } })
      enough t fit false = full t

      go : (r : Reply State) → recorded net s number ≡ r
          → Tied (PairOf net) (fitting room (r >>= λ t. value (saved bytes.edition net t)) >>= λ after. value (both d after)) r
      go (refusal n) u = neither n
      go (value t) u = enough t (recorded-fit net number bytes.fit u) (leb (length (saved bytes.edition net t)) room)

-- ---- head counts

-- a head count answers as the theory's does, with this description, and the theory's state in the edition
pub record Counts (net : Net) (s : State) (list : List ℕ) (n : ℕ) (edition : Edition) (description : List ℕ) (reply : Reply Pair) : Type 0 where
  pub is : reply ≡ (head_counted net s list n >>= λ t. value (both description (saved edition (recounted net list n) t)))
  pub leaves : (t : State) → head_counted net s list n ≡ value t
      → PairOf (recounted net list n) (both description (saved edition (recounted net list n) t)) t

-- the description is the same whatever the state
pub counted_is : (d : List ℕ) (net : Net) → described d ≡ value net → (list : List ℕ) (n : ℕ)
    → (description : List ℕ)
    × ((b : List ℕ) (s : State) (bytes : BytesOf net b s) → Counts net s list n bytes.edition description (count_reply d b list n))
unfolding count_reply
counted_is d =
    of-described d (λ net. (list : List ℕ) (n : ℕ) → (description : List ℕ)
    × ((b : List ℕ) (s : State) (bytes : BytesOf net b s) → Counts net s list n bytes.edition description (count_reply d b list n))) each
  where
    each : (left : List ℕ) (x : Parts) → parts bound d ≡ ok x left → (list : List ℕ) (n : ℕ) → (description : List ℕ)
        × ((b : List ℕ) (s : State) (bytes : BytesOf (net_in x) b s)
        → Counts (net_in x) s list n bytes.edition description (count_reply d b list n))
    each left x e list n =
        let net : Net = net_in x in
        let later : Net = recounted net list n in
        let description : List ℕ = net_bytes (net_from (recounted_parts x list n)) in (
          description,
          λ b s bytes.
              let back = read_back d net (rw e) b bytes in
              let edition : Edition = bytes.edition in
              record {
                is =
                    rw (e, back.1)
                    (sym (counted-alike net back.2 (good d left x e).homes list n (λ t. both description (saved edition later t))
                    (λ t u a. ap (both description) (saved-alike later edition a))));
                leaves = λ t u.
                    let found = count_yes net s list n t u in
                    let count = found.0 in
                    let loose = loose-list net list count.loose in
                    record {
                      net-is =
                          ap (λ (r : Result Parts). read r >>= λ y. value (net_in y)) (parts-recounted d left x e list n loose count.room count.range)
                          ∙ ap (λ (groups : Groups). value (with_groups net groups)) (recounted-view d left x e list n loose count.room);
                      state-is = record { edition = edition; are = refl; fit = rw found.1 (fit_count net (good d left x e) list n count bytes.fit) };
                    };
              },
        )

-- an accepted one leaves a description and a state for the theory's state
counted-left : (d : List ℕ) (net : Net) → described d ≡ value net → (b : List ℕ) (s : State) → BytesOf net b s
    → (list : List ℕ) (n : ℕ) (after : Pair) → count_reply d b list n ≡ value after
    → (t : State) × (head_counted net s list n ≡ value t) × PairOf (recounted net list n) after t
counted-left d net says b s bytes list n after u =
    let described = counted_is d net says list n in
    let counts = described.1 b s bytes in
    let found = then-yes (λ t. both described.0 (saved bytes.edition (recounted net list n) t)) (head_counted net s list n) after (sym counts.is ∙ u) in
    let left = counts.leaves found.0 found.1 in
    (found.0, found.1, subst (λ (pair : Pair). PairOf (recounted net list n) pair found.0) (sym found.2) left)

-- ---- conversions

-- what fits the output is what the reply has
fit-output : (room : ℕ) (r : Reply (List ℕ)) (b : List ℕ) → fitting room r ≡ value b → r ≡ value b
fit-output room (value c) b e = (question-yes (leb (length c) room) no_room e).1
fit-output room (refusal n) b e = clash (cc)

-- a converted state is the same, in the edition
pub converted-is : (d : List ℕ) (net : Net) → described d ≡ value net → (b : List ℕ) (s : State) → BytesOf net b s → (edition : Edition)
    → converted_reply edition d b ≡ value (saved edition net s)
unfolding converted_reply
converted-is d net says b s bytes edition =
    let back = read_back d net says b bytes in
    rw (says, back.1) (ap value (sym (saved-alike net edition back.2)))

converted-left : (d : List ℕ) (net : Net) → described d ≡ value net → (b : List ℕ) (s : State) → BytesOf net b s → (number room : ℕ) (later : Pair)
    → (on_bytes d).converted (both d b) number room ≡ value later → PairOf net later s
converted-left d net says b s bytes number room later u = go (edition_numbered number) u
  where
    go : (r : Reply Edition) → (r >>= λ edition. fitting room (converted_reply edition d b) >>= λ after. value (both d after)) ≡ value later → PairOf net later s
    go (refusal n) e = clash (cc)
    go (value edition) e =
        let found = then-yes (both d) (fitting room (converted_reply edition d b)) later e in
        let is = sym (fit-output room (converted_reply edition d b) found.0 found.1) ∙ converted-is d net says b s bytes edition in
        let same : found.0 ≡ saved edition net s = cc in
        rw found.2 record { net-is = says; state-is = record { edition = edition; are = same; fit = bytes.fit } }

-- ---- at any state

module _ (d : List ℕ) (net : Net) (says : described d ≡ value net) (b : List ℕ) (s : State) (r : state_in net b ≡ value s) where
  bytes : BytesOf net b s
  bytes = state-are d net says b r

  net-good : Good net
  net-good = (fine-net d net says).good

  state-fits : Fitting net s
  state-fits = fit-fitting net bytes.fit

  state-demand-3 : (room number : ℕ) → number < net.rules.events
      → Demand3 on_bytes_told net (Within net s) (next net s number).estimate number
      (answer room (record_reply d b (suc number))) (answer_of (judge_reply d b (suc number)))
  state-demand-3 room number l =
      retold (bytes-told (both d) (fitting room (record_reply d b (suc number))) (judge_reply d b (suc number)))
      (retold (tied-told (record-tied d net says b s bytes (suc number) room) (judged-is d net says b s bytes (suc number)))
      (Exact.demand-3 net net-good s (Within net s) (record { fitting = state-fits; sound = λ m w. w; complete = λ m w. w })
      (next net s number).estimate number (λ t p q. refl) l))

  state-recorded : (number : ℕ) (after : List ℕ) → record_reply d b number ≡ value after
      → (t : State) × (state_in net after ≡ value t) × Leaves net s number t
  state-recorded number after u =
      let left = then-yes (saved bytes.edition net) (recorded net s number) after (sym (recorded-is d net says b s bytes number) ∙ u) in
      let found = record-yes net s number left.0 left.1 in
      let back = read_back d net says after (record { edition = bytes.edition; are = left.2; fit = recorded-fit net number bytes.fit left.1 }) in
      let alike : Alike net back.0 (next net s found.0)
      = subst (λ (z : State). Alike net back.0 z) found.2 (alike-sym net back.2) in (
        back.0,
        state-alone net after back.1,
        record {
          event = found.0;
          numbered = found.1.index;
          next = alike;
          consistent = λ m. Iff.trans (within-iff net alike m) (next-iff net s found.0 found.1.can m);
        },
      )

  state-known : known_reply d b ≡ value true → (m : Marking) → Within net s m ↔ Same net s.estimate m
  unfolding known_reply
  state-known u =
      let yes : known net s ≡ true = (let v : value (known net s) ≡ value true = rw (says, r) at u in cc) in
      known_only net net-good s state-fits yes

  state-counted : (list : List ℕ) (n : ℕ) (after : Pair) → count_reply d b list n ≡ value after → Recounts net s list n after
  state-counted list n after u =
      let left = counted-left d net says b s bytes list n after u in
      let found = count_yes net s list n left.0 left.1 in
      let later : Net = recounted net list n in
      let back = read_back after.description later left.2.net-is after.state left.2.state-is in
      let alike : Alike later back.0 (after_count net s list n)
      = subst (λ (z : State). Alike later back.0 z) found.1 (alike-sym later back.2) in
      record {
        net-after = left.2.net-is;
        state = back.0;
        state-after = state-alone later after.state back.1;
        counted = alike;
        consistent = λ m. Iff.trans (within-iff later alike m) (within_count net net-good s list n found.0.set state-fits found.0.enough m);
      }

  state-miscounted : (list : List ℕ) (n described room : ℕ) → loose_set net list ≡ true
      → (both_answer described room (count_reply d b list n) ≡ refusal 15) ↔ ((bound < n) ⊎ (Countable net (Within net s) list n → ⊥))
  state-miscounted list n described room loose =
      let counts = (counted_is d net says list n).1 b s bytes in
      Iff.trans (rooms-iff (count_reply d b list n) described room 15 (λ e. omega arith))
      (rw counts.is (Iff.trans (then-no _ (head_counted net s list n) 15) (miscounted-iff net net-good s state-fits list n loose)))

  pub state-on-bytes : StateOnBytes d net b s
  state-on-bytes =
      record {
        demand-3 = state-demand-3;
        recorded = state-recorded;
        known = state-known;
        counted = state-counted;
        countable = λ list n loose. countable-iff net net-good s list n (loose-set net list loose) state-fits;
        miscounted = state-miscounted;
        miscounted-host = λ list n described room loose.
            Iff.trans (both-refused (both_answer described room (count_reply d b list n)) 14) (state-miscounted list n described room loose);
      }

-- ---- after a list

-- what fits both outputs is what the reply has
both-fit : (described room : ℕ) (r : Reply Pair) (pair : Pair) → both_fitting described room r ≡ value pair → r ≡ value pair
both-fit described room (value p) pair e = (question-yes (leb (length p.description) described && leb (length p.state) room) no_room e).1
both-fit described room (refusal n) pair e = clash (cc)

module _ (d : List ℕ) (net : Net) (says : described d ≡ value net) where
  -- what is kept are a description of the net with these groups and a state of it
  abbrev Paired : Pair → Groups → State → Type 0
  Paired pair groups s = PairOf (with_groups net groups) pair s

  begun : Fine net
  begun = fine-net d net says

  -- the calls on bytes are tied to the theory's
  ties : Ties net (on_bytes d) Paired
  unfolding fresh_reply
  ties =
      record {
        begins = record { net-is = says; state-is = record { edition = First; are = rw says; fit = fit-fresh net begun.good begun.counts } };
        records = λ pair groups s tied. record-tied pair.description (with_groups net groups) tied.net-is pair.state s tied.state-is;
        judges = λ pair groups s tied. judged-is pair.description (with_groups net groups) tied.net-is pair.state s tied.state-is;
        counts = λ pair groups s tied list n described room later u.
            counted-left pair.description (with_groups net groups) tied.net-is pair.state s tied.state-is list n later
            (both-fit described room (count_reply pair.description pair.state list n) later u);
        converts = λ pair groups s tied number room later u.
            converted-left pair.description (with_groups net groups) tied.net-is pair.state s tied.state-is number room later u;
        restores = λ pair now groups s tied there. record {
          state = with_state now pair.state;
          read = refl;
          tied = record { net-is = there.net-is; state-is = tied.state-is };
        };
      }

  module _ (list : List Call) where
    kept : Kept net (on_bytes d) Paired (host d list)
    kept = kept-standing begun.good ties list

    abbrev now : Net
    now = with_groups net kept.groups

    found : (s : State) × (state_in now (kept_state d list) ≡ value s) × Alike now kept.state s
    found =
        let back = read_back (kept_description d list) now kept.tied.net-is (kept_state d list) kept.tied.state-is in
        (back.0, state-alone now (kept_state d list) back.1, back.2)

    list-demand-2 : (now : Net) × (described (kept_description d list) ≡ value now)
        × (s : State) × (state_in now (kept_state d list) ≡ value s) × Demand2 net (host d list).deeds now s
    list-demand-2 = (
      now,
      kept.tied.net-is,
      found.0,
      found.1,
      alike-demand-2 net kept.groups kept.state (host d list).deeds kept.faithful found.0 (alike-sym now found.2),
    )

    list-demand-3 : (room number : ℕ) → number < net.rules.events
        → Demand3 on_bytes_told net (Consistent net (host d list).deeds) (estimate_after net (host d list).deeds number) number
        (answer room (record_reply (kept_description d list) (kept_state d list) (suc number)))
        (answer_of (judge_reply (kept_description d list) (kept_state d list) (suc number)))
    list-demand-3 room number l =
        retold
        (bytes-told (with_state (host d list).state) (fitting room (record_reply (kept_description d list) (kept_state d list) (suc number)))
        (judge_reply (kept_description d list) (kept_state d list) (suc number)))
        (Lists.demand-3 begun.good ties (host d list) kept room number l)

    list-least : (later : Net) (s : State) → described (kept_description d list) ≡ value later → state_in later (kept_state d list) ≡ value s
        → (p : ℕ) → p < net.places → Least (Consistent net (host d list).deeds) p (s.estimate p)
    list-least later s says reads p l =
        let same : now ≡ later = (let z : value now ≡ value later = sym kept.tied.net-is ∙ says in cc) in
        let here : state_in now (kept_state d list) ≡ value s = subst (λ (z : Net). state_in z (kept_state d list) ≡ value s) (sym same) reads in
        let is : found.0 ≡ s = (let z : value found.0 ≡ value s = sym found.1 ∙ here in cc) in
        subst (λ (z : State). Least (Consistent net (host d list).deeds) p (z.estimate p)) is
        (alike-least net kept.groups kept.state (host d list).deeds kept.faithful found.0 (alike-sym now found.2) p l)

    list-known : (known_reply (kept_description d list) (kept_state d list) ≡ value true) ↔ JustOne net (Consistent net (host d list).deeds)
    unfolding known_reply
    list-known =
        rw (kept.tied.net-is, found.1) (report-iff (known now found.0)
        (alike-known net kept.groups kept.state (host d list).deeds kept.faithful found.0 (alike-sym now found.2)))

    pub list-on-bytes : ListsOnBytes d net list
    list-on-bytes =
        record {
          demand-2 = list-demand-2;
          least = list-least;
          demand-3 = list-demand-3;
          demand-3-host = λ room number l. in-numbers (list-demand-3 room number l);
          known = list-known;
          known-host = Iff.trans (known-told (known_reply (kept_description d list) (kept_state d list))) list-known;
          stays = safe-standing begun.good ties list;
        }
