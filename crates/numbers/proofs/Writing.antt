-- A number is written group by group, the lowest first: what is left to be stored, and what each store makes of it.
use Rattle.std.specs.Prelude.{Some, None}
use Prim.Native.Nat.{ℕ, ◌+◌, ◌/◌, ◌%◌, ◌^◌, ◌≤◌, ◌<◌}
use mathlib.Core.Path.{◌≡◌, refl, sym, ap, ◌∙◌}
use mathlib.Core.List.{List}
use native.Mathlib.Numerals.{add-one}
use native.Mathlib.Omega.{arith}
use borrow.Author.Tests.{le-leb, lt-leb}
use lib.ListN.{length, set, length-set}
use lib.Seq.{sets, sets-eq}
use Rattle.numbers.specs.Number.{form, room, written_at, write_at}
use Rattle.numbers.proofs.Number.{form-last, form-step, form-length-bounds}

-- there is no room, and nothing is stored
pub no_room : (out : List ℕ) (at number : ℕ) → length out < at + length (form number) → (None ≡ written_at out at number) × (out ≡ write_at out at number)
unfolding written_at write_at room
no_room out at number h = rw (lt-leb _ _ h) (refl, refl)

-- the form of `rest`, stored from `next` on, is what is left of storing that of the number
pub record Writing (out₀ : List ℕ) (at number : ℕ) (out : List ℕ) (next rest : ℕ) : Type 0 where
  pub fits : at + length (form number) ≤ length out₀
  pub same_length : length out ≡ length out₀
  pub small : rest < 2 ^ 32
  pub position : next + length (form rest) ≡ at + length (form number)
  pub left : sets out next (form rest) ≡ sets out₀ at (form number)

pub writing-first : (out : List ℕ) (at number : ℕ) → at + length (form number) ≤ length out → number < 2 ^ 32 → Writing out at number out at number
writing-first out at number h b = record { fits = h; same_length = refl; small = b; position = refl; left = refl }

module _ {out₀ : List ℕ} {at number : ℕ} {out : List ℕ} {next rest : ℕ} (w : Writing out₀ at number out next rest) where
  pub writing-inside : next < length out
  writing-inside = omega (arith, form-length-bounds rest)

  pub writing_more : 128 ≤ rest → Writing out₀ at number (set out next (128 + rest % 128)) (next + 1) (rest / 128)
  writing_more h =
      let step = form-step rest h (omega arith) in
      record {
        fits = w.fits;
        same_length = length-set out next (128 + rest % 128) ∙ w.same_length;
        small = omega arith;
        position = omega (arith, ap length step);
        left = rw add-one (sym (ap (sets out next) step) ∙ w.left);
      }

  pub writing-last : rest < 128 → (Some (next + 1) ≡ written_at out₀ at number) × (set out next rest ≡ write_at out₀ at number)
  unfolding written_at write_at room
  writing-last h =
      let one = form-last rest h in
      rw (le-leb _ _ w.fits)
      (ap Some (omega (arith, ap length one)), sym (ap (sets out next) one) ∙ w.left ∙ sets-eq (form number) out₀ at w.fits)
