-- What is printed, by what the input begins with; a refusal that is put out.
use Prim.Native.Nat.{ℕ, ◌+◌, ◌-◌, ◌≤◌, ◌<◌}
use mathlib.Core.Path.{◌≡◌, refl, sym, ap, ◌∙◌}
use mathlib.Core.Bool.{true}
use mathlib.Core.List.{List, [], ◌++◌, append-nil}
use native.Mathlib.Omega.{arith}
use borrow.Author.Tests.{le-leb, lt-leb}
use lib.ListN.{length, take, drop, length-append, length-drop}
use lib.Seq.{take-append-le, drop-append-le, take-append-add, drop-drop}
use Rattle.theory.specs.Replies.{Reply, value, refusal}
use Rattle.theory.proofs.Answers.{clash}
use Rattle.numbers.specs.Number.{longest_number}
use Rattle.codec.specs.Reader.{ok, no, number}
use Rattle.codec.specs.Walk.{Walked}
use Rattle.net.specs.declared.Net.{Net}
use Rattle.description.specs.Grammar.{description}
use Rattle.description.specs.Read.{longest_description, description_read}
use Rattle.description.proofs.Longest.{longer-refused, longer-read}
use Rattle.journal.specs.declared.input.Next.{Next}
use Rattle.journal.specs.Lines.{refused_bytes, longest_line}
use Rattle.journal.specs.Printed.{whole, opening, printed_from, printed}
use Rattle.journal.specs.Passing.{Tells, Sized}
use Rattle.journal.proofs.Putting.{refused-length, walked-within, walked-take}

-- ---- all that is printed

pub printed-none : (input : List ℕ) → number input ≡ no 1 → printed input ≡ refused_bytes 1
unfolding opening printed
printed-none input e = rw e

module _ (input left : List ℕ) (size : ℕ) (e : number input ≡ ok size left) where
  pub printed-short : length left < size → printed input ≡ refused_bytes 1
  unfolding opening printed
  printed-short h = rw (e, lt-leb size (length left) h)

  pub printed-whole : size ≤ length left → printed input ≡ printed_from (whole (description_read (take size left)) (drop size left))
  unfolding opening printed
  printed-whole h = rw (e, le-leb size (length left) h)

module _ {seen : List ℕ} {start size : ℕ} (sized : Sized seen start size) (rest : List ℕ) where
  -- the description lies in what is seen
  pub printed-described : (end : ℕ) → end ≡ start + size → end ≤ length seen → (reply : Reply Net)
      → description_read (take (end - start) (drop start seen)) ≡ reply → printed (seen ++ rest) ≡ printed_from (whole reply (drop end seen ++ rest))
  printed-described end e inside reply r =
      let d = drop start seen in
      let few : size ≤ length d = simp length-drop (omega arith) in
      let described : take size (d ++ rest) ≡ take (end - start) d =
      take-append-le size d rest few ∙ ap (λ (k : ℕ). take k d) (let same : size ≡ end - start = omega arith in same) in
      let left : drop size (d ++ rest) ≡ drop end seen ++ rest =
      drop-append-le size d rest few ∙ ap (λ (l : List ℕ). l ++ rest) (drop-drop size start seen ∙ ap (λ (k : ℕ). drop k seen) (sym e)) in
      printed-whole (seen ++ rest) (d ++ rest) size (sized.read rest) (simp length-append (omega arith))
      ∙ rw (described, left, r)

  -- it goes on after what is seen, which is more than any good one has
  pub printed-long : longest_description + longest_number ≤ length (drop start seen) → length (drop start seen) ≤ size
      → size ≤ length (drop start seen ++ rest) → (n : ℕ) → description_read (drop start seen) ≡ refusal n → printed (seen ++ rest) ≡ refused_bytes n
  printed-long long beyond there n e =
      let d = drop start seen in
      let more = size - length d in
      let described : take size (d ++ rest) ≡ d ++ take more rest =
      ap (λ (k : ℕ). take k (d ++ rest)) (let all : size ≡ length d + more = omega arith in all) ∙ take-append-add d rest more in
      printed-whole (seen ++ rest) (d ++ rest) size (sized.read rest) there
      ∙ rw (described, longer-read d (take more rest) long, e)

-- what is seen is all, or enough to tell that there is no number
pub none-printed : (seen rest : List ℕ) (r : Next) → ((n next : ℕ) → r ≡ Next.Number n next → ⊥) → Tells seen 0 r
    → (length seen < longest_number → rest ≡ []) → printed (seen ++ rest) ≡ refused_bytes 1
none-printed seen rest (Next.Number n next) none tells all = absurd (none n next refl)
none-printed seen rest Next.IllFormed none tells all = printed-none (seen ++ rest) (tells.1 rest)
none-printed seen rest Next.Short none tells all =
    rw (all tells.0, append-nil seen) (printed-none seen tells.1)

-- none is read from so many bytes
pub long-refused : {C : Type 0} (bytes : List ℕ) (net : Net) → longest_description + longest_number ≤ length bytes → description_read bytes ≡ value net → C
unfolding description_read description
long-refused bytes net long e = let refused = longer-refused bytes long in clash (cc refused.1)

-- ---- what is put out

-- the first bytes of the output are these
pub record Prints (out : List ℕ) (used : ℕ) (bytes : List ℕ) : Type 0 where
  pub within : used ≤ length out
  pub are : take used out ≡ bytes

pub refused-prints : {out after : List ℕ} {next : ℕ} (n : ℕ) → longest_line ≤ length out → Walked true out 0 (refused_bytes n) after next
    → Prints after next (refused_bytes n)
refused-prints {out} n long w =
    let inside : 0 + length (refused_bytes n) ≤ length out = omega (arith, refused-length n) in
    record { within = walked-within w inside; are = walked-take w inside }
