-- Laws of joined lists.
use Prim.Native.Nat.{ℕ, zero, suc, ◌≤◌, ◌<◌}
use mathlib.Core.Path.{◌≡◌, refl, sym, ap, ◌∙◌}
use mathlib.Core.Bool.{cond}
use mathlib.Core.List.{List, [], ◌∷◌, ◌++◌, map, flat_map, append-nil, append_assoc}
use native.Mathlib.Omega.{arith}
use native.Mathlib.Decide.{dec_lt}
use borrow.Author.Tests.{lt-ltb, le-ltb}
use lib.ListN.{length, get_or, replicate, length-append}
use lib.Seq.{ext_get_or}
use lib.Dec.{ltb}
use Rattle.theory.specs.Sums.{sum}
use Rattle.codec.specs.Joined.{joined, listed, first_of}

-- ---- joined lists

pub joined-cong : {A : Type 0} (n : ℕ) {f g : ℕ → List A} → ((i : ℕ) → i < n → f i ≡ g i) → joined n f ≡ joined n g
unfolding joined
joined-cong zero e = refl
joined-cong (suc n) e = cc (joined-cong n (λ i l. e i (omega arith)), e n (omega arith))

pub joined_length : {A : Type 0} (n : ℕ) (f : ℕ → List A) → length (joined n f) ≡ sum n (λ i. length (f i))
unfolding joined sum
joined_length zero f = refl
joined_length (suc n) f = simp length-append (omega (arith, joined_length n f))

-- the first list apart from the others
pub joined-first : {A : Type 0} (n : ℕ) (f : ℕ → List A) → joined (suc n) f ≡ f 0 ++ joined n (λ i. f (suc i))
unfolding joined
joined-first zero f = sym (append-nil (f 0))
joined-first (suc n) f = ap (λ (l : List _). l ++ f (suc n)) (joined-first n f) ∙ append_assoc (f 0) (joined n (λ i. f (suc i))) (f (suc n))

pub flat_map-++ : {A B : Type 0} (f : A → List B) (l m : List A) → flat_map f (l ++ m) ≡ flat_map f l ++ flat_map f m
unfolding flat_map
flat_map-++ f [] m = refl
flat_map-++ f (a ∷ l) m = ap (λ (r : List _). f a ++ r) (flat_map-++ f l m) ∙ sym (append_assoc (f a) (flat_map f l) (flat_map f m))

pub flat_map-joined : {A B : Type 0} (f : A → List B) (n : ℕ) (g : ℕ → List A) → flat_map f (joined n g) ≡ joined n (λ i. flat_map f (g i))
unfolding flat_map joined
flat_map-joined f zero g = refl
flat_map-joined f (suc n) g = flat_map-++ f (joined n g) (g n) ∙ ap (λ (r : List _). r ++ flat_map f (g n)) (flat_map-joined f n g)

-- ---- the elements at places

pub get_or-same : {A : Type 0} (n i : ℕ) (a : A) → get_or (replicate n a) i a ≡ a
get_or-same zero i a = refl
get_or-same (suc n) zero a = refl
get_or-same (suc n) (suc i) a = get_or-same n i a

pub flat_map-listed : {A B : Type 0} (f : A → List B) (n : ℕ) (g : ℕ → A) → flat_map f (listed n g) ≡ joined n (λ i. f (g i))
unfolding flat_map
flat_map-listed f n g = flat_map-joined f n (λ i. g i ∷ []) ∙ joined-cong n (λ i l. append-nil (f (g i)))

pub map-++ : {A B : Type 0} (f : A → B) (l m : List A) → map f (l ++ m) ≡ map f l ++ map f m
map-++ f [] m = refl
map-++ f (a ∷ l) m = ap (λ (r : List _). f a ∷ r) (map-++ f l m)

pub map-listed : {A B : Type 0} (f : A → B) (n : ℕ) (g : ℕ → A) → map f (listed n g) ≡ listed n (λ i. f (g i))
unfolding joined
map-listed f zero g = refl
map-listed f (suc n) g = map-++ f (listed n g) (g n ∷ []) ∙ ap (λ (r : List _). r ++ (f (g n) ∷ [])) (map-listed f n g)

pub length-listed : {A : Type 0} (n : ℕ) (f : ℕ → A) → length (listed n f) ≡ n
unfolding joined
length-listed zero f = refl
length-listed (suc n) f = simp length-append (omega (arith, length-listed n f))

pub get_or-listed : {A : Type 0} (n : ℕ) (f : ℕ → A) (i : ℕ) (d : A) → i < n → get_or (listed n f) i d ≡ f i
unfolding joined
get_or-listed zero f i d l = absurd (let z : ⊥ = omega arith in z)
get_or-listed (suc n) f zero d l = rw (joined-first n (λ i. f i ∷ []))
get_or-listed (suc n) f (suc i) d l = rw (joined-first n (λ i. f i ∷ [])) (get_or-listed n (λ i. f (suc i)) i d (omega arith))

-- a list is listed from its own elements
pub listed-get_or : {A : Type 0} (d : A) (l : List A) → listed (length l) (λ i. get_or l i d) ≡ l
unfolding joined
listed-get_or d [] = refl
listed-get_or d (a ∷ l) = joined-first (length l) (λ i. get_or (a ∷ l) i d ∷ []) ∙ ap (λ (r : List _). a ∷ r) (listed-get_or d l)

-- the lists of a list's elements
pub flat_map-get_or : {A B : Type 0} (f : A → List B) (d : A) (l : List A) → flat_map f l ≡ joined (length l) (λ i. f (get_or l i d))
flat_map-get_or f d l = ap (flat_map f) (sym (listed-get_or d l)) ∙ flat_map-listed f (length l) (λ i. get_or l i d)

-- ---- the first entries, and 0 after them

module _ (size n : ℕ) where
  pub first-at : (f : ℕ → ℕ) → n ≤ size → (i : ℕ) → i < n → get_or (first_of size n f) i 0 ≡ f i
  first-at f h i l = get_or-listed size (λ j. cond (ltb j n) (f j) 0) i 0 (omega arith) ∙ rw (lt-ltb i n l)

  pub first_past : (f : ℕ → ℕ) (i : ℕ) → n ≤ i → i < size → get_or (first_of size n f) i 0 ≡ 0
  first_past f i l h = get_or-listed size (λ j. cond (ltb j n) (f j) 0) i 0 h ∙ rw (le-ltb i n l)

  pub first_cong : {f g : ℕ → ℕ} → ((i : ℕ) → i < n → f i ≡ g i) → first_of size n f ≡ first_of size n g
  first_cong {f} {g} e = joined-cong size (λ i l. ap (λ (v : ℕ). v ∷ []) (at i (dec_lt i n)))
    where
      at : (i : ℕ) → Dec (i < n) → cond (ltb i n) (f i) 0 ≡ cond (ltb i n) (g i) 0
      at i (yes l) = rw (lt-ltb i n l) (e i l)
      at i (no l) = rw (le-ltb i n (omega arith))

  -- a list of such entries
  pub is-first : (f : ℕ → ℕ) (entries : List ℕ) → length entries ≡ size → ((i : ℕ) → i < n → get_or entries i 0 ≡ f i)
      → ((i : ℕ) → n ≤ i → i < size → get_or entries i 0 ≡ 0) → entries ≡ first_of size n f
  is-first f entries long are past =
      ext_get_or 0 entries (first_of size n f) (long ∙ sym (length-listed size _))
      (λ i l. at i (omega (arith, long)) (dec_lt i n) ∙ sym (get_or-listed size (λ j. cond (ltb j n) (f j) 0) i 0 (omega (arith, long))))
    where
      at : (i : ℕ) → i < size → Dec (i < n) → get_or entries i 0 ≡ cond (ltb i n) (f i) 0
      at i h (yes l) = rw (lt-ltb i n l) (are i l)
      at i h (no l) = rw (le-ltb i n (omega arith)) (past i (omega arith) h)

-- ---- each element

-- is of a kind
abbrev pub Each : {A : Type 0} → (A → Type 0) → List A → Type 0
Each P [] = Unit
Each P (a ∷ l) = P a × Each P l

pub each-imp : {A : Type 0} {P Q : A → Type 0} (l : List A) → ((a : A) → P a → Q a) → Each P l → Each Q l
each-imp [] h e = tt
each-imp (a ∷ l) h e = (h a e.0, each-imp l h e.1)

pub each-++ : {A : Type 0} (P : A → Type 0) (l m : List A) → Each P l → Each P m → Each P (l ++ m)
each-++ P [] m h k = k
each-++ P (a ∷ l) m h k = (h.0, each-++ P l m h.1 k)

pub each-listed : {A : Type 0} (P : A → Type 0) (n : ℕ) (f : ℕ → A) → ((i : ℕ) → i < n → P (f i)) → Each P (listed n f)
unfolding joined
each-listed P zero f h = tt
each-listed P (suc n) f h = each-++ P (listed n f) (f n ∷ []) (each-listed P n f (λ i l. h i (omega arith))) (h n (omega arith), tt)

pub each_map : {A B : Type 0} {P : A → Type 0} (Q : B → Type 0) (f : A → B) (l : List A) → ((a : A) → P a → Q (f a)) → Each P l → Each Q (map f l)
each_map Q f [] h e = tt
each_map Q f (a ∷ l) h e = (h a e.0, each_map Q f l h e.1)

pub each_at : {A : Type 0} (P : A → Type 0) (l : List A) (i : ℕ) (d : A) → Each P l → i < length l → P (get_or l i d)
each_at P [] i d e h = absurd (let z : ⊥ = omega arith in z)
each_at P (a ∷ l) zero d e h = e.0
each_at P (a ∷ l) (suc i) d e h = each_at P l i d e.1 (omega arith)

-- the same at any place
pub each_or : {A : Type 0} (P : A → Type 0) (l : List A) (i : ℕ) (d : A) → Each P l → P d → P (get_or l i d)
each_or P [] i d e h = h
each_or P (a ∷ l) zero d e h = e.0
each_or P (a ∷ l) (suc i) d e h = each_or P l i d e.1 h
