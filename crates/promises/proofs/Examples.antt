-- The ten proved cases of 01 ("The pool of three"), one of a head count (02, (i)), and one of both editions (02, (vi)),
-- over the definitions that the contracts cite.
use Prim.Native.Nat.{ℕ}
use mathlib.Core.Path.{◌≡◌, refl}
use mathlib.Core.List.{List, [], ◌∷◌, map}
use lib.IntN.{negsuc}
use Rattle.theory.specs.Sums.{sum, sumℤ, every, direct}
use Rattle.theory.specs.Nets.{inside, among, own, inner, gathered, less, share, names, listed_sum, grouped}
use Rattle.theory.specs.Placement.{heaviest_place}
use Rattle.theory.specs.Recording.{one_place, certain, settled, none_placed, fresh, raise, raises, moved, possible, next, with_newest, after_count}
use Rattle.theory.specs.Recording.{in_range, unplaced, known}
use Rattle.theory.specs.Judging.{limit_sum, change, heaviest, amount, top, holds}
use Rattle.theory.specs.Replies.{Reply, value, refusal}
use Rattle.theory.specs.Answers.{ask, Verdict, allow, hold, highest, recorded, judged, each_loose, head_counted}
use Rattle.theory.specs.Calls.{recording, counting, converting, begin, call, standing_from, standing}
use Rattle.numbers.specs.Number.{form, groups}
use Rattle.numbers.specs.Number as Stored
use Rattle.numbers.specs.Signed.{stored, signed}
use Rattle.codec.specs.Reader.{Result, no, number, many, end}
use Rattle.codec.specs.Output.{Pair}
use Rattle.codec.specs.Joined.{joined}
use mathlib.Core.Bool.{Bool, true}
use Rattle.net.specs.View.{rehomed}
use Rattle.net.specs.Check.{shared, share_fits, has_place}
use Rattle.members.specs.Members.{place, inner_groups, members, member_list, group, outermost}
use Rattle.members.specs.Members.Writing.{member_bytes, head_bytes, group_bytes, place_bytes, list_length}
use Rattle.codec.specs.Places.{rising_place}
use Rattle.rows.specs.Rows.{entries, row, filled, arc, event, signed_within, term, limit}
use Rattle.rows.specs.Rows.Writing.{row_bytes, event_bytes}
use Rattle.description.specs.Grammar.{table, head, limits_to_end, parts, net_from}
use Rattle.description.specs.Writing.{net_bytes}
use Rattle.description.proofs.Examples.{pool_bytes}
use Rattle.states.specs.States as States
use Rattle.states.specs.States.{counted_values, pair, pairs, sparse_estimates, saved_in, saved, remainders_fit, state_from, state, whole_state}
use Rattle.states.specs.States.Writing.{values_bytes, pairs_bytes, state_bytes}
use Rattle.observer.specs.Bytes.{fresh_reply, record_reply, judge_reply, known_reply, count_reply, converted_reply}
use Rattle.promises.specs.Lists.{host, kept_state}

-- the state's bytes after these events are recorded, one after the other; each state takes seven bytes
abbrev pub after : List ℕ → List ℕ
after numbers = kept_state pool_bytes (map (λ n. recording n 7) numbers)

-- ---- cases

-- what is computed, and what it should be
pub data Shown : Type 0 where
  bytes : List ℕ → Shown
  read : Result ℕ → Shown
  verdict : Reply Verdict → Shown
  known-and-verdict : Reply Bool → Reply Verdict → Shown

infix 70 ◌is◌
pub data Case : Type 0 where
  ◌is◌ : Shown → Shown → Case

abbrev pub computed : Case → Shown
computed (a is b) = a

abbrev pub expected : Case → Shown
expected (a is b) = b

-- "numbers 127 `7F`, 128 `80 01`, 65,535 `FF FF 03`; signed -1 `01`; `80 00` refused 1; fresh, event 2 held by 1; fresh, event 3 allowed; after
-- event 1, event 2 held; after 1, 1, event 2 allowed; after 1, 1, 1 known, and event 1 impossible"
unfoldable pub cases : List Case
cases =
    bytes (form 127) is bytes (0x7F ∷ [])
    ∷ bytes (form 128) is bytes (0x80 ∷ 0x01 ∷ [])
    ∷ bytes (form 65535) is bytes (0xFF ∷ 0xFF ∷ 0x03 ∷ [])
    ∷ bytes (form (stored (negsuc 0))) is bytes (0x01 ∷ [])
    ∷ read (number (0x80 ∷ 0x00 ∷ [])) is read (no 1)
    ∷ verdict (judge_reply pool_bytes (after []) 2) is verdict (value (hold 1))
    ∷ verdict (judge_reply pool_bytes (after []) 3) is verdict (value allow)
    ∷ verdict (judge_reply pool_bytes (after (1 ∷ [])) 2) is verdict (value (hold 1))
    ∷ verdict (judge_reply pool_bytes (after (1 ∷ 1 ∷ [])) 2) is verdict (value allow)
    ∷ known-and-verdict (known_reply pool_bytes (after (1 ∷ 1 ∷ 1 ∷ []))) (judge_reply pool_bytes (after (1 ∷ 1 ∷ 1 ∷ [])) 1) is known-and-verdict (value true) (refusal 11)
    ∷ []

pub cases-hold : map computed cases ≡ map expected cases
unfolding cases pool_bytes form groups stored number Stored.number Stored.front Stored.before Stored.small many end signed
    fresh_reply record_reply judge_reply known_reply standing standing_from begin call
    place inner_groups members member_list group outermost entries row rising_place filled arc event signed_within term limit head limits_to_end parts
    shared share_fits has_place States.value counted_values saved saved_in state_from state whole_state values_bytes state_bytes joined
    ask recorded judged highest holds fresh none_placed settled certain one_place share less inner possible raises raise own direct sum every next moved in_range
    change sumℤ heaviest heaviest_place top limit_sum amount known unplaced gathered among inside
cases-hold = refl

-- ---- a head count

-- three loose places; event 1 moves a token from place 1 to 2; no limit
unfoldable pub loose_bytes : List ℕ
loose_bytes =
    0x01 ∷ 0x03 ∷ 0x01 ∷ 0x00 ∷ 0x03 ∷ 0x00 ∷ 0x01 ∷ 0x00 ∷ 0x02 ∷ 0x00 ∷ 0x03 ∷ 0x02 ∷ 0x01 ∷ 0x01 ∷ 0x00 ∷ 0x02 ∷ 0x00 ∷ 0x01 ∷ []

-- event 1 leaves one token in place 2. Then places 3 and 2 have four: the outermost list is place 1 and group 1 of 4 with places 2 and 3; the
-- events are as they were; the estimates stay 0, 1, 0, and three tokens are unplaced. Each output has exactly the room it needs.
unfoldable pub counted_pair : Pair
counted_pair =
    record {
      description =
          0x01 ∷ 0x03 ∷ 0x01 ∷ 0x00 ∷ 0x02 ∷ 0x00 ∷ 0x01 ∷ 0x01 ∷ 0x04 ∷ 0x02 ∷ 0x00 ∷ 0x02 ∷ 0x00 ∷ 0x03 ∷ 0x02 ∷ 0x01 ∷ 0x01 ∷ 0x00 ∷ 0x02 ∷ 0x00
          ∷ 0x01 ∷ [];
      state = 0x01 ∷ 0x03 ∷ 0x00 ∷ 0x01 ∷ 0x00 ∷ 0x01 ∷ 0x03 ∷ [];
    }

pub count-holds : (host loose_bytes (recording 1 6 ∷ counting (3 ∷ 2 ∷ []) 4 21 7 ∷ [])).state ≡ counted_pair
unfolding loose_bytes counted_pair form groups number Stored.number Stored.front Stored.before Stored.small many end
    fresh_reply record_reply count_reply standing standing_from begin call
    place inner_groups members member_list group outermost entries row rising_place filled arc event head limits_to_end parts
    shared share_fits has_place States.value counted_values saved saved_in state_from state whole_state values_bytes state_bytes joined
    ask recorded fresh none_placed settled certain one_place share less inner possible raises raise own direct sum every next moved in_range
    gathered among inside head_counted each_loose names listed_sum with_newest after_count grouped rehomed
    table net_from net_bytes member_bytes head_bytes group_bytes place_bytes list_length row_bytes event_bytes
count-holds = refl

-- ---- both editions of a state (02, (vi))

-- after event 1 the pool has a token in place 2, and two are unplaced; with exactly the room that it needs, the state is converted to edition 2,
-- event 1 is recorded in that edition, and the state is converted back
pub convert-holds : map (λ list. kept_state pool_bytes list)
    ((recording 1 7 ∷ converting 2 7 ∷ []) ∷ (recording 1 7 ∷ converting 2 7 ∷ recording 1 7 ∷ []) ∷
    (recording 1 7 ∷ converting 2 7 ∷ recording 1 7 ∷ converting 1 7 ∷ []) ∷ [])
    ≡ (0x02 ∷ 0x03 ∷ 0x01 ∷ 0x02 ∷ 0x01 ∷ 0x01 ∷ 0x02 ∷ [])
    ∷ (0x02 ∷ 0x03 ∷ 0x01 ∷ 0x02 ∷ 0x02 ∷ 0x01 ∷ 0x01 ∷ [])
    ∷ (0x01 ∷ 0x03 ∷ 0x00 ∷ 0x02 ∷ 0x00 ∷ 0x01 ∷ 0x01 ∷ [])
    ∷ []
unfolding pool_bytes form groups number Stored.number Stored.front Stored.before Stored.small many end signed
    fresh_reply record_reply converted_reply standing standing_from begin call
    place inner_groups members member_list group outermost entries row rising_place filled arc event signed_within term limit head limits_to_end parts
    shared share_fits has_place States.value counted_values saved saved_in state_from state whole_state values_bytes state_bytes joined
    sparse_estimates pairs pair remainders_fit pairs_bytes row_bytes
    ask recorded fresh none_placed settled certain one_place share less inner possible raises raise own direct sum every next moved in_range
    gathered among inside
convert-holds = refl
