-- The answers that demand 3 speaks of are told in the calls' own words exactly when they are the replies.
use Prim.Native.Nat.{ℕ, suc}
use mathlib.Core.Path.{◌≡◌, refl, ap}
use mathlib.Core.Bool.{Bool, true, false, ◌&&◌}
use mathlib.Core.List.{List}
use mathlib.Core.Logic.Iff
use mathlib.Core.Logic.{◌↔◌}
use native.Mathlib.Omega.{arith}
use lib.Dec.{leb}
use lib.IntN.{pos}
use lib.ListN.{length}
use Rattle.theory.specs.Replies.{Reply, value, refusal, ◌>>=◌, question}
use Rattle.theory.specs.Answers.{Verdict, allow, hold, no_room}
use Rattle.theory.proofs.Answers.{clash, then-no}
use Rattle.theory.proofs.Exact.{replies, Retold, retold}
use Rattle.theory.specs.Nets.{Net, Marking}
use Rattle.theory.specs.Demands.{Answered, Demand3}
use Rattle.theory.specs.Demands as Demands
use Rattle.codec.specs.Output.{wrote_of, answer, Pair, wrote_both_of, both_answer}
use Rattle.net.specs.declared.Observer.{Observer}
use Rattle.net.specs.declared.Verdict as Memory
use Rattle.net.specs.declared.Verdict.TheVariants.{Allow, Hold}
use Rattle.net.specs.Answers.{answer_of}
use Rattle.host.specs.Numbers.{wrote_number, answer_number, known_number}
use Rattle.host.proofs.Numbers.{wrote-refused, judge-refused, judge-held, judge-allowed, known-yes}
use Rattle.promises.specs.Promises.{on_bytes_told, on_values_told, host_told}

-- ---- judging

refused-iff : (j : Reply Verdict) (n : ℕ) → (answer_of j ≡ refusal n) ↔ (j ≡ refusal n)
refused-iff (value v) n = ((λ e. clash (cc)), (λ e. clash (cc)))
refused-iff (refusal k) n = ((λ e. cc), (λ e. cc))

held-iff : (j : Reply Verdict) (l : ℕ) → (answer_of j ≡ value (Hold l)) ↔ (j ≡ value (hold l))
held-iff (value allow) l = ((λ e. clash (cc)), (λ e. clash (cc)))
held-iff (value (hold k)) l = ((λ e. cc), (λ e. cc))
held-iff (refusal k) l = ((λ e. clash (cc)), (λ e. clash (cc)))

allowed-iff : (j : Reply Verdict) → (answer_of j ≡ value Allow) ↔ (j ≡ value allow)
allowed-iff (value allow) = ((λ e. cc), (λ e. cc))
allowed-iff (value (hold k)) = ((λ e. clash (cc)), (λ e. clash (cc)))
allowed-iff (refusal k) = ((λ e. clash (cc)), (λ e. clash (cc)))

-- ---- known

-- a report is told by its value
pub report-iff : (b : Bool) {P : Type 0} → (b ≡ true) ↔ P → (value b ≡ value true) ↔ P
report-iff b told = ((λ e. told.0 (cc)), (λ p. ap value (told.1 p)))

pub known-told : (r : Reply Bool) → (known_number r ≡ pos 1) ↔ (r ≡ value true)
known-told r = known-yes r

-- ---- recording

wrote-iff : (r : Reply (List ℕ)) (n : ℕ) → (wrote_of r ≡ refusal n) ↔ (r ≡ refusal n)
wrote-iff (value b) n = ((λ e. clash (cc)), (λ e. clash (cc)))
wrote-iff (refusal k) n = ((λ e. cc), (λ e. cc))

-- ---- room

-- 13 is asked last, so that the room plays no part in another refusal
asked-last : {A : Type 0} (a : A) (q : Bool) (n : ℕ) → (no_room ≡ n → ⊥)
    → ((question q no_room >>= λ _. value a) ≡ refusal n) ↔ (value a ≡ refusal n)
asked-last a true n other = ((λ e. e), (λ e. e))
asked-last a false n other = ((λ e. absurd (other (cc))), (λ e. clash (cc)))

pub room-iff : (r : Reply (List ℕ)) (room n : ℕ) → (no_room ≡ n → ⊥) → (answer room r ≡ refusal n) ↔ (r ≡ refusal n)
room-iff (refusal k) room n other = wrote-iff (refusal k) n
room-iff (value b) room n other =
    let q = leb (length b) room in
    Iff.trans (wrote-iff (question q no_room >>= λ _. value b) n) (asked-last b q n other)

wrote_both-iff : (r : Reply Pair) (n : ℕ) → (wrote_both_of r ≡ refusal n) ↔ (r ≡ refusal n)
wrote_both-iff (value pair) n = ((λ e. clash (cc)), (λ e. clash (cc)))
wrote_both-iff (refusal k) n = ((λ e. cc), (λ e. cc))

pub rooms-iff : (r : Reply Pair) (described room n : ℕ) → (no_room ≡ n → ⊥)
    → (both_answer described room r ≡ refusal n) ↔ (r ≡ refusal n)
rooms-iff (refusal k) described room n other = wrote_both-iff (refusal k) n
rooms-iff (value pair) described room n other =
    let q = leb (length pair.description) described && leb (length pair.state) room in
    Iff.trans (wrote_both-iff (question q no_room >>= λ _. value pair) n) (asked-last pair q n other)

-- ---- in the calls' words

-- whatever is kept with the bytes
pub bytes-told : {S : Type 0} (kept : List ℕ → S) (r : Reply (List ℕ)) (j : Reply Verdict)
    → Retold (replies S) on_bytes_told (r >>= λ b. value (kept b)) j (wrote_of r) (answer_of j)
bytes-told kept r j =
    record {
      rejected = λ n l. Iff.trans (wrote-iff r (suc n)) (Iff.symm (then-no kept r (suc n)));
      refused = λ n. refused-iff j (suc n);
      held = λ l. held-iff j (suc l);
      allowed = allowed-iff j;
    }

pub values-told : (r : Reply Observer) (j : Reply Verdict) → Retold (replies Observer) on_values_told r j r (answer_of j)
values-told r j =
    record {
      rejected = λ n l. Iff.rfl;
      refused = λ n. refused-iff j (suc n);
      held = λ l. held-iff j (suc l);
      allowed = allowed-iff j;
    }

-- and in the host's numbers: no refusal and no limit that an event from 1 to T is answered with has the number 0
pub in-numbers : {net : Net} {M : Marking → Type 0} {after : ℕ → ℕ} {e : ℕ} {w : Reply ℕ} {a : Reply Memory.Verdict}
    → Demand3 on_bytes_told net M after e w a → Demand3 host_told net M after e (wrote_number w) (answer_number a)
in-numbers {w = w} {a = a} d = retold same d
  where
    no-refusal : Answered on_bytes_told a → (n : ℕ) → a ≡ refusal n → n ≡ 0 → ⊥
    no-refusal (Demands.allowed u) n v z = clash (cc)
    no-refusal (Demands.held l u) n v z = clash (cc)
    no-refusal (Demands.cannot u) n v z = let here : 11 ≡ n = cc in omega arith
    no-refusal (Demands.above u) n v z = let here : 12 ≡ n = cc in omega arith

    no-hold : Answered on_bytes_told a → (l : ℕ) → a ≡ value (Hold l) → l ≡ 0 → ⊥
    no-hold (Demands.allowed u) l v z = clash (cc)
    no-hold (Demands.held k u) l v z = let here : suc k ≡ l = cc in omega arith
    no-hold (Demands.cannot u) l v z = clash (cc)
    no-hold (Demands.above u) l v z = clash (cc)

    same : Retold on_bytes_told host_told w a (wrote_number w) (answer_number a)
    same =
        record {
          rejected = λ n l. wrote-refused w n;
          refused = λ n. judge-refused a n;
          held = λ l. judge-held a l;
          allowed = judge-allowed a (no-refusal d.judge_answered) (no-hold d.judge_answered);
        }
