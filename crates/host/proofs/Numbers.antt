-- What the host's numbers say of the answers: no two answers that a call gives have one number.
use Prim.Native.Nat.{ℕ, zero, suc}
use mathlib.Core.Path.{◌≡◌, refl, ap}
use mathlib.Core.Logic.{◌↔◌}
use mathlib.Core.Bool.{Bool, true, false}
use lib.IntN.{pos}
use Rattle.theory.specs.Replies.{Reply, value, refusal}
use Rattle.theory.proofs.Answers.{clash}
use Rattle.net.specs.declared.Verdict.{Verdict}
use Rattle.net.specs.declared.Verdict.TheVariants.{Allow, Hold}
use Rattle.host.specs.Numbers.{refusal_number, wrote_number, wrote_both_number, answer_number, known_number}

-- a refusal
refusal-back : (k n : ℕ) → refusal_number k ≡ refusal_number (suc n) → k ≡ suc n
refusal-back zero n e = clash (cc)
refusal-back (suc k) n e = cc

pub wrote-refused : (w : Reply ℕ) (n : ℕ) → (wrote_number w ≡ refusal_number (suc n)) ↔ (w ≡ refusal (suc n))
wrote-refused (value k) n = ((λ e. clash (cc)), (λ e. clash (cc)))
wrote-refused (refusal k) n = ((λ e. ap refusal (refusal-back k n e)), (λ e. ap wrote_number e))

pub both-refused : (w : Reply (ℕ × ℕ)) (n : ℕ) → (wrote_both_number w ≡ refusal_number (suc n)) ↔ (w ≡ refusal (suc n))
both-refused (value (k, m)) n = ((λ e. clash (cc)), (λ e. clash (cc)))
both-refused (refusal k) n = ((λ e. ap refusal (refusal-back k n e)), (λ e. ap wrote_both_number e))

pub judge-refused : (a : Reply Verdict) (n : ℕ) → (answer_number a ≡ refusal_number (suc n)) ↔ (a ≡ refusal (suc n))
judge-refused (value Allow) n = ((λ e. clash (cc)), (λ e. clash (cc)))
judge-refused (value (Hold l)) n = ((λ e. clash (cc)), (λ e. clash (cc)))
judge-refused (refusal k) n = ((λ e. ap refusal (refusal-back k n e)), (λ e. ap answer_number e))

-- a hold
pub judge-held : (a : Reply Verdict) (l : ℕ) → (answer_number a ≡ pos (suc l)) ↔ (a ≡ value (Hold (suc l)))
judge-held (value Allow) l = ((λ e. clash (cc)), (λ e. clash (cc)))
judge-held (value (Hold k)) l = ((λ e. cc), (λ e. ap answer_number e))
judge-held (refusal zero) l = ((λ e. clash (cc)), (λ e. clash (cc)))
judge-held (refusal (suc k)) l = ((λ e. clash (cc)), (λ e. clash (cc)))

-- an allowance, where no refusal and no limit has the number 0
pub judge-allowed : (a : Reply Verdict) → ((n : ℕ) → a ≡ refusal n → n ≡ 0 → ⊥) → ((l : ℕ) → a ≡ value (Hold l) → l ≡ 0 → ⊥)
    → (answer_number a ≡ pos 0) ↔ (a ≡ value Allow)
judge-allowed (value Allow) no-refusal no-hold = ((λ e. refl), (λ e. refl))
judge-allowed (value (Hold zero)) no-refusal no-hold = ((λ e. absurd (no-hold 0 refl refl)), (λ e. clash (cc)))
judge-allowed (value (Hold (suc l))) no-refusal no-hold = ((λ e. clash (cc)), (λ e. clash (cc)))
judge-allowed (refusal zero) no-refusal no-hold = ((λ e. absurd (no-refusal 0 refl refl)), (λ e. clash (cc)))
judge-allowed (refusal (suc n)) no-refusal no-hold = ((λ e. clash (cc)), (λ e. clash (cc)))

-- "known"
pub known-yes : (k : Reply Bool) → (known_number k ≡ pos 1) ↔ (k ≡ (value true))
known-yes (value true) = ((λ e. refl), (λ e. refl))
known-yes (value false) = ((λ e. clash (cc)), (λ e. clash (cc)))
known-yes (refusal zero) = ((λ e. clash (cc)), (λ e. clash (cc)))
known-yes (refusal (suc n)) = ((λ e. clash (cc)), (λ e. clash (cc)))
