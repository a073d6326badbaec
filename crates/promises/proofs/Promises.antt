-- The promises, each by the theorems that prove it.
use Prim.Native.Nat.{ℕ, ◌≤◌}
use mathlib.Core.Path.{◌≡◌, refl}
use mathlib.Core.Bool.{Bool, true, false, ◌&&◌}
use mathlib.Core.List.{List, ◌++◌}
use borrow.Author.Tests.{leb-true}
use lib.Dec.{leb}
use lib.ListN.{length, drop}
use Rattle.codec.proofs.Replies.{value-parts}
use Rattle.theory.specs.Replies.{Reply, value, refusal, ◌>>=◌, question}
use Rattle.theory.specs.Answers.{no_room}
use Rattle.theory.proofs.Answers.{clash}
use Rattle.theory.proofs.Least.{least-determined}
use Rattle.theory.proofs.Exact.{judged-determined, impossible-determined, over_range-determined, groups-determined, estimates-determined, unplaced-determined}
use Rattle.theory.proofs.Faithful.{possible-starts}
use Rattle.theory.proofs.Sums.{and_left, and_right}
use Rattle.codec.specs.Output.{fitting, wrote_of, left_of, answer, left, Pair, both_fitting, wrote_both_of, description_part, state_part, both_answer, description_left, state_left}
use Rattle.promises.specs.Promises.{Demand1, Starts, Determined, Promises}
use Rattle.promises.proofs.Bytes.{list-on-bytes, state-on-bytes}
use Rattle.promises.proofs.Values.{list-on-values, state-on-values}
use Rattle.promises.proofs.Meaning.{one-meaning}
use Rattle.promises.proofs.RoundTrips.{round-trips}
use Rattle.promises.proofs.Longest.{longest, largest-sum}
use Rattle.promises.proofs.Older.{older, as_before}
use Rattle.promises.proofs.Editions.{converts, same-answers, same-on-values}
use Rattle.promises.proofs.Refusals.{refusals-on-bytes, refusals-on-values}

pub demand-1 : Demand1
demand-1 =
    record {
      refused = λ out reply n. refused out (fitting (length out) reply) n;
      written = written;
      both_refused = λ described out reply n. both-refused described out (both_fitting (length described) (length out) reply) n;
      both_written = both-written;
    }
  where
    refused : (out : List ℕ) (r : Reply (List ℕ)) (n : ℕ) → wrote_of r ≡ refusal n → left_of out r ≡ out
    refused out (value b) n e = clash (cc)
    refused out (refusal m) n e = refl

    written : (out : List ℕ) (reply : Reply (List ℕ)) (n : ℕ) → answer (length out) reply ≡ value n
        → (b : List ℕ) × (reply ≡ value b) × (length b ≡ n) × (n ≤ length out) × (left out reply ≡ b ++ drop n out)
    written out (refusal m) n e = clash (cc)
    written out (value b) n e = enough (leb (length b) (length out)) refl e
      where
        enough : (t : Bool) → leb (length b) (length out) ≡ t → wrote_of (question t no_room >>= λ _. value b) ≡ value n
            → (c : List ℕ) × (value b ≡ value c) × (length c ≡ n) × (n ≤ length out)
            × (left_of out (question t no_room >>= λ _. value b) ≡ c ++ drop n out)
        enough false u v = clash (cc)
        enough true u v = let size : length b ≡ n = cc in (b, refl, size, rw (← size) (leb-true _ _ u), rw size)

    both-refused : (described out : List ℕ) (r : Reply Pair) (n : ℕ) → wrote_both_of r ≡ refusal n
        → (left_of described (description_part r) ≡ described) × (left_of out (state_part r) ≡ out)
    both-refused described out (value pair) n e = clash (cc)
    both-refused described out (refusal m) n e = (refl, refl)

    both-written : (described out : List ℕ) (reply : Reply Pair) (n k : ℕ) → both_answer (length described) (length out) reply ≡ value (n, k)
        → (pair : Pair) × (reply ≡ value pair)
        × (length pair.description ≡ n) × (n ≤ length described) × (description_left described out reply ≡ pair.description ++ drop n described)
        × (length pair.state ≡ k) × (k ≤ length out) × (state_left described out reply ≡ pair.state ++ drop k out)
    both-written described out (refusal m) n k e = clash (cc)
    both-written described out (value pair) n k e = enough (first && second) refl e
      where
        first : Bool
        first = leb (length pair.description) (length described)

        second : Bool
        second = leb (length pair.state) (length out)

        both : Bool → Reply Pair
        both t = question t no_room >>= λ _. value pair

        enough : (t : Bool) → (first && second) ≡ t → wrote_both_of (both t) ≡ value (n, k)
            → (other : Pair) × (value pair ≡ value other)
            × (length other.description ≡ n) × (n ≤ length described) × (left_of described (description_part (both t)) ≡ other.description ++ drop n described)
            × (length other.state ≡ k) × (k ≤ length out) × (left_of out (state_part (both t)) ≡ other.state ++ drop k out)
        enough false u v = clash (cc)
        enough true u v =
            let sizes = value-parts v in
            let size : length pair.description ≡ n = sizes.0 in
            let other : length pair.state ≡ k = sizes.1 in (
              pair,
              refl,
              size,
              rw (← size) (leb-true _ _ (and_left first second u)),
              rw size,
              other,
              rw (← other) (leb-true _ _ (and_right first second u)),
              rw other,
            )

pub starts : Starts
starts = record { possible = possible-starts }

pub determined : Determined
determined =
    record {
      judged = judged-determined;
      impossible = impossible-determined;
      over_range = over_range-determined;
      groups = λ net now later deeds s t. groups-determined;
      estimates = λ net now later deeds s t. estimates-determined;
      unplaced = λ net now later deeds s t. unplaced-determined;
      least = least-determined;
    }

pub promises : Promises
promises =
    record {
      demand-1 = demand-1;
      lists-on-bytes = list-on-bytes;
      lists-on-values = list-on-values;
      starts = starts;
      states-on-bytes = state-on-bytes;
      states-on-values = state-on-values;
      older = older;
      as_before = as_before;
      editions = converts;
      same-answers = λ d net says b c s. same-answers d net says s b c;
      same-on-values = same-on-values;
      determined = determined;
      meaning = one-meaning;
      round-trips = round-trips;
      longest = longest;
      largest-sum = largest-sum;
      refusals-on-bytes = λ d s out number. refusals-on-bytes d s number out;
      refusals-on-values = λ net o s out number. refusals-on-values net o s number out;
    }
