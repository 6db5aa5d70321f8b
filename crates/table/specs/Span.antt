-- A run of bytes read in two places: equal bytes make equal numbers, and equal numbers come of equal bytes.
-- The key idea: a number is its first byte and 256 times the number after it. Assumes nothing.
use Rattle.std.specs.Prelude.{ℕ, zero, suc, ◌+◌, ◌*◌, ◌-◌, ◌≤◌, ◌<◌, ◌≡◌, refl, List, get_or}
use Rattle.std.proofs.Common.{ap, sym, ◌∙◌, arith, add-zero}
use Rattle.places.specs.Cases.{below_or}
use Rattle.number.specs.Number.{number_at, number_from}
use Rattle.number.specs.Frame.{Bytes, number_as}

-- the n bytes of m from a on are those of l from b on
abbrev pub Alike : ℕ → List ℕ → ℕ → List ℕ → ℕ → Type 0
Alike n m a l b = (j : ℕ) → j < n → get_or m (a + j) 0 ≡ get_or l (b + j) 0

-- a run within a run
pub alike_within :
    (n w o : ℕ) (m : List ℕ) (a : ℕ) (l : List ℕ) (b : ℕ)
    → o + w ≤ n
    → Alike n m a l b
    → Alike w m (a + o) l (b + o)
alike_within n w o m a l b h same j p =
    let ea : a + o + j ≡ a + (o + j) = omega arith in
    let eb : b + (o + j) ≡ b + o + j = omega arith in
    ap (λ (i : ℕ). get_or m i 0) ea ∙ same (o + j) (omega arith) ∙ ap (λ (i : ℕ). get_or l i 0) eb

from_alike :
    (n k : ℕ) (m : List ℕ) (a : ℕ) (l : List ℕ) (b : ℕ)
    → ((j : ℕ) → j < k + n → get_or m (a + j) 0 ≡ get_or l (b + j) 0)
    → number_from m a k n ≡ number_from l b k n
from_alike zero k m a l b same = refl
from_alike (suc n) k m a l b same =
    omega (arith, same k (omega arith), from_alike n (suc k) m a l b (λ j p. same j (omega arith)))

-- equal bytes make equal numbers
pub number_alike :
    (n : ℕ) (m : List ℕ) (a : ℕ) (l : List ℕ) (b : ℕ) → Alike n m a l b → number_at n m a ≡ number_at n l b
number_alike n m a l b same =
    number_as n m a ∙ from_alike n 0 m a l b (λ j p. same j (omega arith)) ∙ sym (number_as n l b)

alike_from :
    (n k : ℕ) (m : List ℕ) (a : ℕ) (l : List ℕ) (b : ℕ)
    → Bytes m
    → Bytes l
    → number_from m a k n ≡ number_from l b k n
    → (j : ℕ)
    → j < n
    → get_or m (a + (k + j)) 0 ≡ get_or l (b + (k + j)) 0
alike_from zero k m a l b hm hl e j p = absurd (omega arith)
alike_from (suc n) k m a l b hm hl e zero p = rw add-zero (omega (arith, hm (a + k), hl (b + k)))
alike_from (suc n) k m a l b hm hl e (suc j) p =
    let shift : k + suc j ≡ suc k + j = omega arith in
    rw shift (alike_from n (suc k) m a l b hm hl (omega (arith, hm (a + k), hl (b + k))) j (omega arith))

-- equal numbers come of equal bytes
pub alike_number :
    (n : ℕ) (m : List ℕ) (a : ℕ) (l : List ℕ) (b : ℕ)
    → Bytes m
    → Bytes l
    → number_at n m a ≡ number_at n l b
    → Alike n m a l b
alike_number n m a l b hm hl e j p =
    let zero-on : j ≡ 0 + j = omega arith in
    rw zero-on (alike_from n 0 m a l b hm hl (sym (number_as n m a) ∙ e ∙ number_as n l b) j p)

-- ---- equal bytes, number after number

module _ (m : List ℕ) (a : ℕ) (l : List ℕ) (b : ℕ) (hm : Bytes m) (hl : Bytes l) where
  -- one number more
  pub alike_more : (k w : ℕ) → Alike k m a l b → number_at w m (a + k) ≡ number_at w l (b + k) → Alike (k + w) m a l b
  alike_more k w before e j p =
      below_or
      j
      k
      (before j)
      (λ q.
      let i : j ≡ k + (j - k) = omega arith in
      let ea : a + j ≡ a + k + (j - k) = omega arith in
      let eb : b + k + (j - k) ≡ b + j = omega arith in
      ap (λ (x : ℕ). get_or m x 0) ea
      ∙ alike_number w m (a + k) l (b + k) hm hl e (j - k) (omega arith)
      ∙ ap (λ (x : ℕ). get_or l x 0) eb)

  -- n numbers more, of two bytes each
  pub alike_row :
      (k n : ℕ)
      → Alike k m a l b
      → ((i : ℕ) → i < n → number_at 2 m (a + k + 2 * i) ≡ number_at 2 l (b + k + 2 * i))
      → Alike (k + 2 * n) m a l b
  alike_row k zero before e j p = before j (omega arith)
  alike_row k (suc n) before e j p =
      let ea : a + (k + 2 * n) ≡ a + k + 2 * n = omega arith in
      let eb : b + k + 2 * n ≡ b + (k + 2 * n) = omega arith in
      alike_more
      (k + 2 * n)
      2
      (alike_row k n before (λ i q. e i (omega arith)))
      (ap (number_at 2 m) ea ∙ e n (omega arith) ∙ ap (number_at 2 l) eb)
      j
      (omega arith)
