-- `cursor::header_numbers`: each number stands behind the one before it.
use Rattle.std.proofs.Common.{◌≡◌, Option, ℕ, List, ap, ◌∙◌}
use Rattle.numbers.specs.Number.{number_at}
use Rattle.cursor.specs.Cursors.{next, behind, header_numbers}
use Rattle.cursor.specs.declared.Cursor.{Cursor}
use Rattle.cursor.specs.declared.HeaderNumbers.{HeaderNumbers}
use Rattle.cursor.proofs.header_numbers.Goals as goal

-- a cursor of these bytes at a position
record Stands (bytes : List ℕ) (at : ℕ) (c : Cursor) : Type 0 where
  same : c.description.now ≡ bytes
  here : c.at ≡ at

moved : {bytes : List ℕ} {at : ℕ} {c : Cursor} (d : Cursor) → Stands bytes at c → d ≡ behind c → Stands bytes (next bytes at) d
moved {bytes} {at} {c} d s is = record {
  same = ap (λ x. x.description.now) is ∙ s.same;
  here = ap (λ x. x.at) is ∙ ap (λ x. next x c.at) s.same ∙ ap (next bytes) s.here;
}

found : {bytes : List ℕ} {at : ℕ} {c : Cursor} (r : Option (ℕ × ℕ)) → Stands bytes at c → r ≡ number_at c.description.now c.at → r ≡ number_at bytes at
found {bytes} {at} {c} r s is = is ∙ ap (λ x. number_at x c.at) s.same ∙ ap (number_at bytes) s.here

joined : (e p v l e' p' v' l' : Option (ℕ × ℕ)) → e ≡ e' → p ≡ p' → v ≡ v' → l ≡ l'
    → ◌≡◌ {A = HeaderNumbers} record { edition = e; places = p; events = v; limits = l } record { edition = e'; places = p'; events = v'; limits = l' }
joined e p v l e' p' v' l' a b c d = cc

pub returns : goal.returns
unfolding header_numbers
returns c =
    let zero : Stands c.args.description.now 0 c.new-cursor.result = record { same = ap (λ x. x.now) c.new-cursor.ensures.0; here = c.new-cursor.ensures.1 } in
    let one = moved c.take-edition.new.self zero c.take-edition.ensures.1 in
    let two = moved c.take-places.new.self one c.take-places.ensures.1 in
    let three = moved c.take-events.new.self two c.take-events.ensures.1 in
    joined _ _ _ _ _ _ _ _ (found c.take-edition.result zero c.take-edition.ensures.0) (found c.take-places.result one c.take-places.ensures.0)
    (found c.take-events.result two c.take-events.ensures.0) (found c.take-limits.result three c.take-limits.ensures.0)
