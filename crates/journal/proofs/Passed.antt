-- A pass over the events that are seen: what is put out and what is left to print.
use Prim.Native.Nat.{ℕ, ◌+◌, ◌≤◌}
use mathlib.Core.Path.{◌≡◌, sym, ap, ◌∙◌}
use mathlib.Core.Bool.{true}
use mathlib.Core.List.{List, [], ◌∷◌, ◌++◌, append_assoc, append-nil}
use native.Mathlib.Omega.{arith}
use lib.ListN.{length, take, drop, get_or, length-append, length-drop}
use Rattle.theory.specs.Nets as Theory
use Rattle.theory.specs.Recording.{State}
use Rattle.theory.specs.Replies.{Reply}
use Rattle.codec.specs.Walk.{Walked}
use Rattle.codec.proofs.Walk.{walked-length}
use Rattle.net.specs.declared.Net.{Net}
use Rattle.net.specs.declared.Verdict.{Verdict}
use Rattle.net.specs.View.{net_of}
use Rattle.steps.specs.Totals.{unplaced_numbers}
use Rattle.journal.specs.declared.input.Next.TheVariants.{Number, IllFormed}
use Rattle.journal.specs.declared.events.Stop.TheVariants.{Ended}
use Rattle.journal.specs.Lines.{line_bytes, refused_bytes, longest_line}
use Rattle.journal.specs.Printed.{lines}
use Rattle.journal.specs.Passing.{Tells, state_in, Running, Steps, Passes}
use Rattle.journal.proofs.Putting.{refused-length, line-length, walked-within, walked-take}
use Rattle.journal.proofs.Runs.{lines_none, lines-event, lines-refused, lines-alike}
use Rattle.journal.proofs.Stepping.{formed, line-is}

-- the bytes before a position are passed, and their lines are put out
pub record Going (net : Net) (seen : List ℕ) (from : ℕ) (estimates₀ remainders₀ out₀ estimates remainders out : List ℕ) (at used : ℕ) : Type 0 where
  pub within : at ≤ length seen
  pub fits : used ≤ length out
  pub long : length out ≡ length out₀
  pub running : Running net estimates remainders
  pub are : (rest : List ℕ)
      → lines (net_of net) (state_in estimates₀ remainders₀) (drop from seen ++ rest)
      ≡ take used out ++ lines (net_of net) (state_in estimates remainders) (drop at seen ++ rest)

module _ {net : Net} {seen : List ℕ} {from : ℕ} {estimates₀ remainders₀ out₀ estimates remainders out : List ℕ} {at used : ℕ}
    (going : Going net seen from estimates₀ remainders₀ out₀ estimates remainders out at used) where
  -- an event more
  pub going_more : used + longest_line ≤ length out → {event next : ℕ} → Tells seen at (Number event next) → {after left : List ℕ} {answer : Reply Verdict}
      → Steps net event estimates remainders after left answer → {numbers : List ℕ} → numbers ≡ unplaced_numbers net.groups.number net.groups.around left
      → {put : List ℕ} {end : ℕ}
      → Walked true out used (line_bytes event answer net.places (λ p. get_or after p 0) net.groups.number (λ i. get_or numbers i 0)) put end
      → Going net seen from estimates₀ remainders₀ out₀ after left put next end
  going_more room {event} {next} tells {after} {left} {answer} steps {numbers} are {put} {end} walked =
      let bytes = line_bytes event answer net.places (λ p. get_or after p 0) net.groups.number (λ i. get_or numbers i 0) in
      let fine = formed steps.running in
      let inside : used + length bytes ≤ length out =
      omega (
        arith,
        line-length event answer net.places (λ p. get_or after p 0) net.groups.number (λ i. get_or numbers i 0) fine.sized.places fine.sized.groups,
      ) in
      let state = state_in estimates remainders in
      record {
        within = tells.1;
        fits = walked-within walked inside;
        long = walked-length walked ∙ going.long;
        running = steps.running;
        are = λ rest.
            let others = lines (net_of net) (state_in after left) (drop next seen ++ rest) in
            let event-line : lines (net_of net) state (drop at seen ++ rest) ≡ bytes ++ others =
            lines-event (net_of net) state (drop at seen ++ rest) (drop next seen ++ rest) event (tells.2 rest)
            ∙ rw (← line-is steps are, lines-alike (net_of net) steps.leaves (drop next seen ++ rest)) in
            going.are rest ∙ ap (λ (l : List ℕ). take used out ++ l) event-line
            ∙ sym (append_assoc (take used out) bytes others)
            ∙ ap (λ (l : List ℕ). l ++ others) (sym (walked-take walked inside));
      }

  -- the pass ends here
  pub going-ended : used + longest_line ≤ length out → Tells seen at IllFormed → {put : List ℕ} {end : ℕ} → Walked true out used (refused_bytes 1) put end
      → Passes net seen from estimates₀ remainders₀ estimates remainders put (record { stop = Ended; at = at; used = end })
  going-ended room tells {put} {end} walked =
      record {
        running = going.running;
        are = λ rest.
            going.are rest
            ∙ ap (λ (l : List ℕ). take used out ++ l)
            (lines-refused (net_of net) (state_in estimates remainders) (drop at seen ++ rest) 1 (simp (length-append, length-drop) (omega (arith, tells.0))) (tells.1 rest))
            ∙ sym (append-nil (take end put) ∙ walked-take walked (omega (arith, refused-length 1)));
      }

-- ---- the end of the input

module _ (net : Theory.Net) (s : State) where
  pub none_left : (bytes : List ℕ) → length bytes ≡ 0 → [] ≡ lines net s bytes
  none_left [] e = sym (lines_none net s)
  none_left (byte ∷ bytes) e = absurd (let z : ⊥ = omega arith in z)
