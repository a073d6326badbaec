-- What the code's answers tell, as a caller meets them.
use Rattle.std.proofs.Common.{◌≡◌, ℕ, List, sym, ap, ◌∙◌}
use Rattle.std.specs.Prelude.{Result, Ok, Err}
use Rattle.theory.specs.Replies.{Reply, value, refusal}
use Rattle.theory.proofs.Answers.{clash}
use Rattle.codec.specs.Reader as Reader
use Rattle.codec.specs.Reader.{ok, no, passed, found_at, map_result}
use Rattle.codec.specs.declared.refusals.Refusal.{Refusal}
use Rattle.codec.specs.Refusals.{number, reply}

-- a value or a refusal is what the reply was
pub told-ok : {A : Type 0} {answer : Result A Refusal} {r : Reply A} {a : A} → reply answer ≡ r → answer ≡ Ok a → r ≡ value a
told-ok e is = sym e ∙ ap reply is

pub told-err : {A : Type 0} {answer : Result A Refusal} {r : Reply A} {n : Refusal} → reply answer ≡ r → answer ≡ Err n → r ≡ refusal (number n)
told-err e is = sym e ∙ ap reply is

-- the parts of a pair that is replied
pub value-parts : {A B : Type 0} {a c : A} {b d : B} → ◌≡◌ {A = Reply (A × B)} (value (a, b)) (value (c, d)) → (a ≡ c) × (b ≡ d)
value-parts {A} {B} {a} {c} {b} {d} e =
    let pair : ◌≡◌ {A = A × B} (a, b) (c, d) = cc in
    (ap (λ (p : A × B). p.0) pair, ap (λ (p : A × B). p.1) pair)

-- what a reader found, made of what it read, and how far it came
module _ {A B : Type 0} (bytes : List ℕ) (f : A → B) where
  pub found-passed : (result : Reader.Result A) {b : B} {next : ℕ} → found_at bytes (map_result f result) ≡ value (b, next)
      → (passed bytes result ≡ value next) × ((a : A) (left : List ℕ) → result ≡ ok a left → f a ≡ b)
  found-passed (ok a left) e =
      let parts = value-parts e in
      (ap value parts.1, λ c rest is. let same : a ≡ c = cc in ap f (sym same) ∙ parts.0)
  found-passed (no n) e = clash (cc)

  pub found-refused : (result : Reader.Result A) {n : ℕ} → found_at bytes (map_result f result) ≡ refusal n → passed bytes result ≡ refusal n
  found-refused (ok a left) e = clash (cc)
  found-refused (no m) {n} e = let same : m ≡ n = cc in ap refusal same

module _ {A : Type 0} (bytes : List ℕ) where
  pub found-there : (result : Reader.Result A) {a : A} {next : ℕ} → found_at bytes result ≡ value (a, next)
      → (passed bytes result ≡ value next) × (left : List ℕ) × (result ≡ ok a left)
  found-there (ok b left) e = let parts = value-parts e in (ap value parts.1, left, ap (λ (c : A). ok c left) parts.0)
  found-there (no n) e = clash (cc)

  pub found-not : (result : Reader.Result A) {n : ℕ} → found_at bytes result ≡ refusal n → result ≡ no n
  found-not (ok a left) e = clash (cc)
  found-not (no m) {n} e = let same : m ≡ n = cc in ap no same
