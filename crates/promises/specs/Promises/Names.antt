-- The names that the promises use, from where they are defined.
pub use Rattle.std.specs.Prelude.{ℕ, zero, suc, ◌+◌, ◌*◌, ◌≤◌, ◌<◌, ◌^◌, ◌≡◌, Bool, true, List, [], ◌∷◌, ◌++◌, ◌↔◌, ◌⊎◌, ℤ, pos, nat_abs, length, drop}
pub use Rattle.theory.specs.Nets.{SameNet, Marking, Fits, listed_sum, recounted}
pub use Rattle.theory.specs.Firing.{Deed, fired, Same, Fires, Consistent, Able, FiredTo, Countable}
pub use Rattle.theory.specs.Recording.{State, Alike, Within, bound, older_bound, fresh, next, after_count, unplaced, published}
pub use Rattle.theory.specs.Replies.{Reply, value, refusal, ◌>>=◌}
pub use Rattle.theory.specs.Judging.{top}
pub use Rattle.theory.specs.Answers.{ask, loose_set}
pub use Rattle.theory.specs.Calls.{Call, AllAllowed}
pub use Rattle.theory.specs.Demands.{Demand2, Least, JustOne, Possible, Words, Demand3, WithinLimits, Stays}
pub use Rattle.numbers.specs.Number.{largest, form, number_at, room, written_at, write_at}
pub use Rattle.numbers.specs.Signed.{stored, signed}
pub use Rattle.codec.specs.Reader.{read, ok, passed, read_reply}
pub use Rattle.codec.specs.Places.{place_at}
pub use Rattle.codec.specs.Output.{answer, left, written_reply, Pair, both_answer, description_left, state_left}
pub use Rattle.net.specs.declared.Net.{Net}
pub use Rattle.net.specs.declared.Edition.{Edition}
pub use Rattle.net.specs.declared.Observer.{Observer}
pub use Rattle.net.specs.declared.Verdict.{Verdict}
pub use Rattle.net.specs.declared.Verdict.TheVariants.{Allow, Hold}
pub use Rattle.net.specs.Bounds.{most_places, most_groups}
pub use Rattle.net.specs.View.{net_of}
pub use Rattle.net.specs.Check.{net_check}
pub use Rattle.net.specs.Answers.{answer_of}
pub use Rattle.net.specs.Observers.{state_of, fresh_observer}
pub use Rattle.description.specs.Grammar.{Parts, parts, net_from}
pub use Rattle.description.specs.Outline.{limits_at}
pub use Rattle.description.specs.Read.{longest_description, description_read}
pub use Rattle.description.specs.Writing.{written}
pub use Rattle.description.specs.Full.{Full}
pub use Rattle.limits.specs.Limits.{largest_sum}
pub use Rattle.states.specs.States.{Restored, state}
pub use Rattle.states.specs.States.Writing.{Fit}
pub use Rattle.states.specs.States.Arrays.{state_at, state_read}
pub use Rattle.states.specs.States.Nets.{longest_state, saved}
pub use Rattle.observer.specs.Bytes.{described_up_to, described, restored_in, state_in, older_state_in}
pub use Rattle.observer.specs.Bytes.{fresh_reply, record_reply, judge_reply, known_reply, count_reply, older_reply, converted_reply}
pub use Rattle.values.specs.Values.{both_check, restored_observer, observer_output, recorded_observer}
pub use Rattle.values.specs.Values.{observer_judged, observer_known, observer_unplaced}
pub use Rattle.host.specs.Numbers.{refusal_number, wrote_number, wrote_both_number, answer_number, known_number}
pub use Rattle.promises.specs.Lists.{with_state, in_edition, on_bytes, host, kept_description, kept_state, on_values, memory}
