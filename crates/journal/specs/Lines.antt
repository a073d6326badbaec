-- What the journal prints, line by line, as bytes (01, "The pool of three": "A line has the event, the word (allow, hold, refused), limit or
-- refusal number or 0, the estimates, the unplaced numbers, one space between, newline.").
use Rattle.std.specs.Prelude.{ℕ, zero, suc, ◌+◌, ◌/◌, ◌%◌, cond, List, [], ◌∷◌, ◌++◌, ltb}
use Rattle.theory.specs.Replies.{Reply, value, refusal}
use Rattle.codec.specs.Joined.{joined}
use Rattle.net.specs.declared.Verdict.{Verdict}
use Rattle.net.specs.declared.Verdict.TheVariants.{Allow, Hold}

-- ---- numbers

-- the decimal digits of n, of which at most k stand before the last
unfoldable pub digits : ℕ → ℕ → List ℕ
digits zero n = (48 + n) ∷ []
digits (suc k) n = cond (ltb n 10) ((48 + n) ∷ []) (digits k (n / 10) ++ ((48 + n % 10) ∷ []))

-- a number in decimal with no zero before it; ten digits hold 32 bits
unfoldable pub decimal : ℕ → List ℕ
decimal n = digits 9 n

-- ---- words

abbrev pub space : ℕ
space = 32

abbrev pub newline : ℕ
newline = 10

-- "allow"
abbrev pub allow_word : List ℕ
allow_word = 97 ∷ 108 ∷ 108 ∷ 111 ∷ 119 ∷ []

-- "hold"
abbrev pub hold_word : List ℕ
hold_word = 104 ∷ 111 ∷ 108 ∷ 100 ∷ []

-- "refused"
abbrev pub refused_word : List ℕ
refused_word = 114 ∷ 101 ∷ 102 ∷ 117 ∷ 115 ∷ 101 ∷ 100 ∷ []

-- a word and a number, with a space between
abbrev pub numbered : List ℕ → ℕ → List ℕ
numbered word n = word ++ (space ∷ decimal n)

-- "the word (allow, hold, refused), limit or refusal number or 0"
abbrev pub answer_bytes : Reply Verdict → List ℕ
answer_bytes (value Allow) = numbered allow_word 0
answer_bytes (value (Hold limit)) = numbered hold_word limit
answer_bytes (refusal n) = numbered refused_word n

-- ---- lines

-- the first n numbers of f, each after a space
abbrev pub spaced : ℕ → (ℕ → ℕ) → List ℕ
spaced n f = joined n (λ i. space ∷ decimal (f i))

-- the line of an event: its number, the answer, the estimates of the places and the unplaced numbers of the groups
unfoldable pub line_bytes : ℕ → Reply Verdict → ℕ → (ℕ → ℕ) → ℕ → (ℕ → ℕ) → List ℕ
line_bytes event answer places estimate groups unplaced =
    decimal event ++ (space ∷ answer_bytes answer) ++ spaced places estimate ++ spaced groups unplaced ++ (newline ∷ [])

-- the ending "refused N"
unfoldable pub refused_bytes : ℕ → List ℕ
refused_bytes n = numbered refused_word n ++ (newline ∷ [])

-- no line is longer: 98 numbers of at most 10 digits, 98 spaces, a word of at most 7 letters and a newline
abbrev pub longest_line : ℕ
longest_line = 1086
