-- The numbers that the host gets for answers (01, "Bytes": "the host's functions take only numbers and byte slices"; docs/DECISIONS.md, point 8).
use Rattle.std.specs.Prelude.{ℕ, Bool, true, false, ◌+◌, ◌*◌, ◌<◌, ◌^◌, ℤ, pos, neg_ℤ}
use Rattle.theory.specs.Replies.{Reply, value, refusal}
use Rattle.net.specs.declared.Verdict.{Verdict}
use Rattle.net.specs.declared.Verdict.TheVariants.{Allow, Hold}

-- "a refusal with its number": minus the number, which is from 1 to 18
abbrev pub refusal_number : ℕ → ℤ
refusal_number n = neg_ℤ (pos n)

-- "Calls that write .. answer a refusal or the number of bytes written"
abbrev pub wrote_number : Reply ℕ → ℤ
wrote_number (value n) = pos n
wrote_number (refusal n) = refusal_number n

-- the number of bytes is one that an i64 holds
abbrev pub Countable : Reply ℕ → Type 0
Countable (value n) = n < 2 ^ 63
Countable (refusal n) = Unit

-- the number of bytes of the description times 2 ^ 32, and of the state, both in one number
abbrev pub wrote_both_number : Reply (ℕ × ℕ) → ℤ
wrote_both_number (value (description, state)) = pos (description * 2 ^ 32 + state)
wrote_both_number (refusal n) = refusal_number n

-- that number is one that an i64 holds
abbrev pub BothCountable : Reply (ℕ × ℕ) → Type 0
BothCountable (value (description, state)) = description * 2 ^ 32 + state < 2 ^ 63
BothCountable (refusal n) = Unit

-- "The answer is allow, or hold with" the highest "such limit's number": limits are numbered from 1, so 0 is no limit's number
abbrev pub verdict_number : Verdict → ℤ
verdict_number Allow = pos 0
verdict_number (Hold limit) = pos limit

-- "An answer is a refusal with its number, or a hold with its limit, or an allowance"
abbrev pub answer_number : Reply Verdict → ℤ
answer_number (value verdict) = verdict_number verdict
answer_number (refusal n) = refusal_number n

-- "The "known" report is a yes, a no or a refusal"
abbrev pub known_number : Reply Bool → ℤ
known_number (value true) = pos 1
known_number (value false) = pos 0
known_number (refusal n) = refusal_number n
