-- Readers: what they find at the front of the bytes left, or the number of the refusal.
use Rattle.std.specs.Prelude.{ℕ, zero, suc, ◌-◌, List, [], ◌∷◌, Bool, true, false, length, drop, Option, Some, None}
use Rattle.theory.specs.Replies.{Reply, value, refusal}
use Rattle.numbers.specs.Number.{Found, found, nothing}
use Rattle.numbers.specs.Number as Stored

-- a value and the bytes left, or a refusal
pub data Result (A : Type 0) : Type 0 where
  ok : A → List ℕ → Result A
  no : ℕ → Result A

abbrev pub Reader : Type 0 → Type 0
Reader A = List ℕ → Result A

-- what comes next after a result
abbrev pub onward : {A B : Type 0} → Result A → (A → Reader B) → Result B
onward (ok a left) next = next a left
onward (no n) next = no n

-- one reader, and then another on what it found
infixl 10 ◌>>=◌
abbrev pub ◌>>=◌ : {A B : Type 0} → Reader A → (A → Reader B) → Reader B
◌>>=◌ reader next bytes = onward (reader bytes) next

-- a value, and no byte read
abbrev pub done : {A : Type 0} → A → Reader A
done a bytes = ok a bytes

-- a refusal
abbrev pub refuse : {A : Type 0} → ℕ → Reader A
refuse n bytes = no n

-- "Number when the answer is no"
abbrev pub ask : Bool → ℕ → Reader Unit
ask true n bytes = ok tt bytes
ask false n bytes = no n

-- a stored number; "complete, shortest and small enough? 1"
abbrev pub from_found : List ℕ → Found → Result ℕ
from_found bytes (found n size) = ok n (drop size bytes)
from_found bytes nothing = no 1

unfoldable pub number : Reader ℕ
number bytes = from_found bytes (Stored.number bytes)

-- the bytes' end; "Do the bytes end with the description? 8"
unfoldable pub end : Reader Unit
end [] = ok tt []
end (byte ∷ bytes) = no 8

-- the same reader, n times
unfoldable pub many : {A : Type 0} → ℕ → Reader A → Reader (List A)
many zero reader = done []
many (suc n) reader = do
  a ← reader
  rest ← many n reader
  done (a ∷ rest)

-- what a reader found, without the bytes left
abbrev pub read : {A : Type 0} → Result A → Reply A
read (ok a left) = value a
read (no n) = refusal n

-- what a reader found, with another value made of it
abbrev pub map_result : {A B : Type 0} → (A → B) → Result A → Result B
map_result f (ok a left) = ok (f a) left
map_result f (no n) = no n

-- ---- at a position, as the code answers

-- how far a reader came in the bytes, or the refusal
abbrev pub passed : {A : Type 0} → List ℕ → Result A → Reply ℕ
passed bytes (ok a left) = value (length bytes - length left)
passed bytes (no n) = refusal n

-- what it found, and how far it came
abbrev pub found_at : {A : Type 0} → List ℕ → Result A → Reply (A × ℕ)
found_at bytes (ok a left) = value (a, length bytes - length left)
found_at bytes (no n) = refusal n

-- what a number that is read tells: it and the position after it; "Is each stored number complete, shortest and small enough? 1"
abbrev pub read_reply : Option (ℕ × ℕ) → Reply (ℕ × ℕ)
read_reply (Some (n, at)) = value (n, at)
read_reply None = refusal 1

-- what it found, or another value if it refused
abbrev pub found_or : {A : Type 0} → A → Result A → A
found_or other (ok a left) = a
found_or other (no n) = other
