-- How long a description and a saved state can be and how large a limit's sum, and bytes that are as long and give as large a sum.
use Prim.Native.Nat.{ℕ, suc, ◌+◌, ◌*◌, ◌≤◌, ◌<◌}
use mathlib.Core.Path.{◌≡◌, refl, ap}
use mathlib.Core.List.{List, [], ◌∷◌, ◌++◌, flat_map}
use native.Mathlib.Omega.{arith}
use borrow.Author.Tests.{ltb-true}
use lib.Dec.{ltb}
use lib.IntN.{pos, nat_abs}
use lib.ListN.{length, replicate}
use Rattle.theory.specs.Sums.{every, direct, sum, sumℤ}
use Rattle.theory.specs.Nets as Theory
use Rattle.theory.specs.Nets.{inside, among, inner, own, gathered, less}
use Rattle.theory.proofs.Nets.{gathered-step}
use Rattle.theory.specs.Recording.{State, bound, raise, raises, moved, possible, next, in_range}
use Rattle.theory.specs.Placement.{heaviest_place}
use Rattle.theory.specs.Judging.{limit_sum, heaviest, amount, top}
use Rattle.theory.specs.Answers.{ask}
use Rattle.theory.specs.Replies.{Reply, value, refusal, ◌>>=◌, question}
use Rattle.theory.proofs.Answers.{clash, question-yes, ask-event}
use Rattle.theory.proofs.Largest.{top-near}
use Rattle.numbers.specs.Number.{form, groups}
use Rattle.numbers.specs.Number as Stored
use Rattle.numbers.specs.Signed.{signed}
use Rattle.codec.specs.Reader.{number, many, end, read}
use Rattle.codec.specs.Joined.{joined}
use Rattle.codec.proofs.Inverse.{read_ok}
use Rattle.net.specs.declared.Edition.TheVariants.{Second}
use Rattle.net.specs.declared.Net.{Net}
use Rattle.net.specs.Bounds.{most_places, most_events, most_groups, most_limits, most_take, most_ceiling, most_weight}
use Rattle.net.specs.Check.{shared, share_fits, has_place}
use Rattle.members.specs.Members.{place, inner_groups, members, member_list, group, outermost}
use Rattle.codec.specs.Places.{rising_place}
use Rattle.rows.specs.Rows.{entries, row, arc, event, signed_within, term, limit, filled}
use Rattle.rows.specs.Rows.Writing.{row_bytes}
use Rattle.description.specs.Grammar.{Parts, head, limits_to_end, parts, net_from, description}
use Rattle.description.specs.Read.{longest_description, description_read}
use Rattle.description.proofs.Longest.{longest-description}
use Rattle.states.specs.States as States
use Rattle.states.specs.States.{counted_values, pair, pairs, sparse_estimates, saved_in, saved, remainders_fit, state_from, state, whole_state}
use Rattle.states.specs.States.Writing.{values_bytes, pairs_bytes, estimates_bytes}
use Rattle.states.specs.States.Nets.{longest_state, restored}
use Rattle.states.proofs.Longest.{longest-state}
use Rattle.states.proofs.Nets.{fit_next}
use Rattle.limits.specs.Limits.{largest_sum}
use Rattle.observer.specs.Bytes.{net_in, described, state_in}
use Rattle.promises.specs.Promises.{Longest, LargestSum}
use Rattle.promises.proofs.Described.{of-described, fine-net, with-edition, state-are}
use Rattle.promises.proofs.Meaning.{one-meaning}

-- ---- the bounds

description-bounded : (d : List ℕ) (net : Theory.Net) → described d ≡ value net → length d ≤ longest_description
description-bounded d = of-described d (λ _. length d ≤ longest_description) (longest-description d)

state-bounded : (d : List ℕ) (net : Theory.Net) → described d ≡ value net
    → (b : List ℕ) (s : State) → state_in net b ≡ value s → length b ≤ longest_state
state-bounded d net says b s r =
    let of = fine-net d net says in
    let was = read_ok (restored net b) (with-edition net b r).1 in
    longest-state net of.places of.groups b was.0 _ was.1

-- ---- and how large a limit's sum

sum-bounded : (d : List ℕ) (net : Theory.Net) → described d ≡ value net → (b : List ℕ) (s : State) → state_in net b ≡ value s
    → (number e : ℕ) → ask net s number ≡ value e → (l : ℕ) → l < net.rules.limits → nat_abs (top net (next net s e) l) ≤ largest_sum
sum-bounded d net says b s r number e asked l m =
    let of = fine-net d net says in
    let event = ask-event net s number e asked in
    let after = fit_next net e (state-are d net says b r).fit event.range in
    let remain : (i : ℕ) → i < net.groups.number → (next net s e).high (suc i) ≤ bound
    = λ i k. omega (arith, after.numbers i k, gathered-step net.groups of.good.outward (next net s e).high i k) in
    let near = top-near net (next net s e) l {far = most_weight} {most = bound} (λ p k. of.weights l p m k) after.estimates
    (λ i k. omega (arith, after.exact i k, remain i k)) remain in
    omega (arith, near, of.places, of.groups)

-- ---- bytes that are as long

-- two places in each group, counts of four bytes, ceilings of five, and takes, gives and weights of two at every place
full_description : List ℕ
full_description =
    let event = most_places ∷ joined most_places (λ p. (p + 1) ∷ form most_take ++ form most_take) in
    let limit = form (2 * most_ceiling) ++ most_places ∷ joined most_places (λ p. (p + 1) ∷ form (2 * most_weight)) in
    1 ∷ most_places ∷ most_events ∷ most_limits ∷ most_groups
    ∷ joined most_groups (λ i. 1 ∷ form bound ++ 2 ∷ 0 ∷ (i * 2 + 1) ∷ 0 ∷ (i * 2 + 2) ∷ [])
    ++ flat_map (λ bytes. bytes) (replicate most_events event)
    ++ flat_map (λ bytes. bytes) (replicate most_limits limit)

-- of that net, in edition 2, and values of four bytes
full_state : List ℕ
full_state = estimates_bytes Second most_places (λ p. bound) ++ values_bytes most_groups (λ i. bound)

full-lengths : (length full_description ≡ longest_description) × (length full_state ≡ longest_state)
unfolding full_description full_state values_bytes pairs_bytes row_bytes sum joined flat_map form groups
full-lengths = (refl, refl)

-- both are read, and with each place and each group at the bound an event that changes nothing meets the largest sum
full-read : (read (parts bound full_description) >>= λ x. state_in (net_in x) full_state >>= λ s. ask (net_in x) s 1 >>= λ e.
    question (ltb 0 (net_in x).rules.limits) 3 >>= λ _. value (top (net_in x) (next (net_in x) s e) 0)) ≡ value (pos largest_sum)
unfolding full_description full_state values_bytes pairs_bytes row_bytes joined flat_map form groups number Stored.number Stored.front Stored.before
    Stored.small parts head limits_to_end many end outermost member_list members inner_groups place group event limit entries row
    rising_place arc term signed_within signed shared share_fits has_place every direct sum inner whole_state state state_from saved saved_in counted_values
    States.value
    sparse_estimates pairs pair remainders_fit gathered among inside
    ask possible raises raise own in_range next moved less top limit_sum sumℤ heaviest heaviest_place amount filled
full-read = refl

-- of two questions that are answered, the first is
first-value : {A B : Type 0} (r : Reply A) {k : A → Reply B} {b : B} → (r >>= k) ≡ value b
    → (a : A) × (r ≡ value a) × (k a ≡ value b)
first-value (value a) e = (a, refl, e)
first-value (refusal n) e = clash (cc)

said_read : (d : List ℕ) (x : Parts) → read (parts bound d) ≡ value x → description_read d ≡ value (net_from x)
unfolding description_read description
said_read d x u = rw (read_ok (parts bound d) u).1

description-met : (d : List ℕ) × (net : Net) × (description_read d ≡ value net) × (length d ≡ longest_description)
description-met =
    let said = first-value (read (parts bound full_description)) full-read in
    (full_description, net_from said.0, said_read full_description said.0 said.1, full-lengths.0)

state-met : (d : List ℕ) × (net : Theory.Net) × (described d ≡ value net)
    × (b : List ℕ) × (s : State) × (state_in net b ≡ value s) × (length b ≡ longest_state)
state-met =
    let said = first-value (read (parts bound full_description)) full-read in
    let kept = first-value (state_in (net_in said.0) full_state) said.2 in
    let described = ap (λ (r : Reply Parts). r >>= λ x. value (net_in x)) said.1 in
    (full_description, net_in said.0, described, full_state, kept.0, kept.1, full-lengths.1)

pub longest : Longest
longest =
    record {
      descriptions = λ d net u. let said = one-meaning.nets d net u in description-bounded d said.0 said.1;
      descriptions-on-bytes = description-bounded;
      states = state-bounded;
      description-met = description-met;
      state-met = state-met;
    }

sum-met : (d : List ℕ) × (net : Theory.Net) × (described d ≡ value net) × (b : List ℕ) × (s : State) × (state_in net b ≡ value s)
    × (number : ℕ) × (e : ℕ) × (ask net s number ≡ value e) × (l : ℕ) × (l < net.rules.limits) × (top net (next net s e) l ≡ pos largest_sum)
sum-met =
    let said = first-value (read (parts bound full_description)) full-read in
    let net = net_in said.0 in
    let kept = first-value (state_in net full_state) said.2 in
    let asked = first-value (ask net kept.0 1) kept.2 in
    let described = ap (λ (r : Reply Parts). r >>= λ x. value (net_in x)) said.1 in
    let limited = question-yes (ltb 0 net.rules.limits) 3 asked.2 in
    (full_description, net, described, full_state, kept.0, kept.1, 1, asked.0, asked.1, 0, ltb-true 0 net.rules.limits limited.0, cc limited.1)

pub largest-sum : LargestSum
largest-sum = record { holds = omega arith; sums = sum-bounded; sum-met = sum-met }
