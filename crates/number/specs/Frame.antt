-- What a write changes and what it leaves, by single bytes and over any width:
-- a number written is read back, and a number whose bytes stand apart is as it was. Assumes nothing.
use Rattle.std.specs.Prelude.{ℕ, zero, suc, ◌+◌, ◌/◌, ◌^◌, ◌≤◌, ◌<◌, ◌≡◌, refl, set}
use Rattle.std.proofs.Common.{sym, ◌∙◌, add-zero, zero-add, pow-suc, take, drop}
use Rattle.std.proofs.Common.{length-set, get_or-set_same, get_or-set_other}
use Rattle.std.proofs.lemmas.List.{get_or-take, get_or-drop}
use Rattle.std.proofs.Math.Seq.{paste, paste-zero, paste-suc, drop-cons}
use Rattle.std.proofs.Math.Path.{ap, ap₂}
use mathlib.Core.List.{List, [], ◌∷◌}
use native.Mathlib.Omega.{arith}
use Rattle.std.proofs.Math.ListN.{get_or, length}
use Rattle.number.specs.Number.{number_at, number_from, digits, written, written_from, with_number}

-- every element is a byte
abbrev pub Bytes : List ℕ → Type 0
Bytes l = (i : ℕ) → get_or l i 0 < 256

-- i is none of the n places from `at` on
abbrev pub Outside : ℕ → ℕ → ℕ → Type 0
Outside at n i = (j : ℕ) → j < n → i ≡ at + j → ⊥

-- the n places from `at` on hold in m what they hold in l
abbrev pub Same : ℕ → ℕ → List ℕ → List ℕ → Type 0
Same at n m l = (j : ℕ) → j < n → get_or m (at + j) 0 ≡ get_or l (at + j) 0

-- ---- digits

pub digits_length : (n v : ℕ) → length (digits n v) ≡ n
digits_length zero v = refl
digits_length (suc n) v = ap suc (digits_length n (v / 256))

pub digits_bytes : (n v : ℕ) → Bytes (digits n v)
digits_bytes zero v i = omega arith
digits_bytes (suc n) v zero = omega arith
digits_bytes (suc n) v (suc i) = digits_bytes n (v / 256) i

-- ---- writes, one byte at a time

written_as : (l : List ℕ) (at : ℕ) (bs : List ℕ) → written l at bs ≡ written_from l at 0 bs
written_as l at [] = refl
written_as l at (b ∷ bs) = rw add-zero

from_length : (bs l : List ℕ) (at k : ℕ) → length (written_from l at k bs) ≡ length l
from_length [] l at k = refl
from_length (b ∷ bs) l at k = from_length bs (set l (at + k) b) at (suc k) ∙ length-set l (at + k) b

from_outside :
    (bs l : List ℕ) (at k i : ℕ)
    → ((j : ℕ) → k ≤ j → j < k + length bs → i ≡ at + j → ⊥)
    → get_or (written_from l at k bs) i 0 ≡ get_or l i 0
from_outside [] l at k i h = refl
from_outside (b ∷ bs) l at k i h =
    from_outside bs (set l (at + k) b) at (suc k) i (λ j p q e. h j (omega arith) (omega arith) e)
    ∙ get_or-set_other l (at + k) i b 0 (λ e. h k (omega arith) (omega arith) e)

from_inside :
    (bs l : List ℕ) (at k j : ℕ)
    → j < length bs
    → at + k + length bs ≤ length l
    → get_or (written_from l at k bs) (at + (k + j)) 0 ≡ get_or bs j 0
from_inside [] l at k j p h = absurd (omega arith)
from_inside (b ∷ bs) l at k zero p h =
    rw add-zero
    (from_outside bs (set l (at + k) b) at (suc k) (at + k) (λ j q r e. omega arith)
    ∙ get_or-set_same l (at + k) b 0 (omega arith))
from_inside (b ∷ bs) l at k (suc j) p h =
    let e : at + (k + suc j) ≡ at + (suc k + j) = omega arith in
    rw e (from_inside bs (set l (at + k) b) at (suc k) j (omega arith) (rw length-set (omega arith)))

-- the bytes of bs from k on, written one by one behind the first k, are all of bs
written_rest :
    (rest bs l : List ℕ) (at k : ℕ)
    → drop k bs ≡ rest
    → k + length rest ≡ length bs
    → at + length bs ≤ length l
    → written_from (paste l at bs k) at k rest ≡ paste l at bs (length bs)
written_rest [] bs l at k d e h = ap (paste l at bs) (omega (arith, e))
written_rest (b ∷ rest) bs l at k d e h =
    let seam = drop-cons bs k 0 (omega arith) in
    let here : get_or bs k 0 ≡ b = cc in
    let behind : drop (suc k) bs ≡ rest = cc in
    let turn = rw here at (paste-suc l at bs k 0 (omega arith) (omega arith)) in
    ap (λ (m : List ℕ). written_from m at (suc k) rest) turn ∙ written_rest rest bs l at (suc k) behind (omega arith) h

-- n bytes put in their place at once are the number written
pub written_at_once :
    (n : ℕ) (l : List ℕ) (at v : ℕ) → at + n ≤ length l → paste l at (digits n v) n ≡ with_number n l at v
unfolding with_number
written_at_once n l at v h =
    let bs = digits n v in
    let none = paste-zero l at bs in
    let all = written_rest bs bs l at 0 refl (omega arith) (omega (arith, digits_length n v)) in
    let size = digits_length n v in
    ap (paste l at bs) (sym size)
    ∙ sym all
    ∙ ap (λ (m : List ℕ). written_from m at 0 bs) (sym none)
    ∙ sym (written_as l at bs)

-- ---- a number written: its length, the bytes outside, the bytes inside

module _ (n : ℕ) (l : List ℕ) (at v : ℕ) where
  pub with_length : length (with_number n l at v) ≡ length l
  unfolding with_number
  with_length = ap length (written_as l at (digits n v)) ∙ from_length (digits n v) l at 0

  pub with_outside : (i : ℕ) → Outside at n i → get_or (with_number n l at v) i 0 ≡ get_or l i 0
  unfolding with_number
  with_outside i h =
      ap (λ (m : List ℕ). get_or m i 0) (written_as l at (digits n v))
      ∙ from_outside (digits n v) l at 0 i (λ j p q e. h j (omega (arith, digits_length n v)) e)

  pub with_inside :
      at + n ≤ length l → (j : ℕ) → j < n → get_or (with_number n l at v) (at + j) 0 ≡ get_or (digits n v) j 0
  unfolding with_number
  with_inside h j p =
      let e : at + j ≡ at + (0 + j) = omega arith in
      ap₂ (λ (m : List ℕ) (i : ℕ). get_or m i 0) (written_as l at (digits n v)) e
      ∙ from_inside
      (digits n v)
      l
      at
      0
      j
      (omega (arith, digits_length n v))
      (omega (arith, digits_length n v))

-- ---- reads

pub number_as : (n : ℕ) (l : List ℕ) (at : ℕ) → number_at n l at ≡ number_from l at 0 n
unfolding number_at
number_as zero l at = refl
number_as (suc n) l at = rw add-zero

number_from_alike :
    (n k : ℕ) (m l : List ℕ) (at of : ℕ)
    → ((j : ℕ) → j < k + n → get_or m (at + j) 0 ≡ get_or l (of + j) 0)
    → number_from m at k n ≡ number_from l of k n
number_from_alike zero k m l at of h = refl
number_from_alike (suc n) k m l at of h =
    omega (arith, h k (omega arith), number_from_alike n (suc k) m l at of (λ j p. h j (omega arith)))

-- the same bytes at two places make the same number
pub number_alike :
    (n : ℕ) (m l : List ℕ) (at of : ℕ)
    → ((j : ℕ) → j < n → get_or m (at + j) 0 ≡ get_or l (of + j) 0)
    → number_at n m at ≡ number_at n l of
number_alike n m l at of h =
    number_as n m at ∙ number_from_alike n 0 m l at of (λ j p. h j (omega arith)) ∙ sym (number_as n l of)

number_from_same :
    (n k : ℕ) (m l : List ℕ) (at : ℕ)
    → ((j : ℕ) → j < k + n → get_or m (at + j) 0 ≡ get_or l (at + j) 0)
    → number_from m at k n ≡ number_from l at k n
number_from_same zero k m l at h = refl
number_from_same (suc n) k m l at h =
    omega (arith, h k (omega arith), number_from_same n (suc k) m l at (λ j p. h j (omega arith)))

-- the same bytes make the same number
pub number_same : (n : ℕ) (m l : List ℕ) (at : ℕ) → Same at n m l → number_at n m at ≡ number_at n l at
number_same n m l at h = number_alike n m l at at h

-- and so does a copy of them, taken out
pub number_copied :
    (n k : ℕ) (m l : List ℕ) (at : ℕ) → n ≤ k → m ≡ take k (drop at l) → number_at n m 0 ≡ number_at n l at
number_copied n k m l at h e =
    number_alike n m l 0 at
    (λ j p.
    let within = get_or-take k (drop at l) j 0 (omega arith) in
    let there = get_or-drop at l j 0 in
    ap (λ (b : List ℕ). get_or b (0 + j) 0) e ∙ rw zero-add (within ∙ there))

number_from_digits :
    (n k v : ℕ) (m : List ℕ) (at : ℕ)
    → v < 256 ^ n
    → ((j : ℕ) → j < n → get_or m (at + (k + j)) 0 ≡ get_or (digits n v) j 0)
    → number_from m at k n ≡ v
number_from_digits zero k v m at hv h = omega arith
number_from_digits (suc n) k v m at hv h =
    let e0 = rw add-zero at (h 0 (omega arith)) in
    let rest =
    number_from_digits
    n
    (suc k)
    (v / 256)
    m
    at
    (omega (arith, pow-suc 256 n))
    (λ j p.
    let e : at + (suc k + j) ≡ at + (k + suc j) = omega arith in
    rw e (h (suc j) (omega arith))) in
    omega (arith, e0, rest)

-- what was written is read back
pub number_with :
    (n : ℕ) (l : List ℕ) (at v : ℕ) → v < 256 ^ n → at + n ≤ length l → number_at n (with_number n l at v) at ≡ v
number_with n l at v hv h =
    number_as n (with_number n l at v) at
    ∙ number_from_digits
    n
    0
    v
    (with_number n l at v)
    at
    hv
    (λ j p.
    let e : at + (0 + j) ≡ at + j = omega arith in
    rw e (with_inside n l at v h j p))

-- a number whose bytes stand apart from those written is as it was
pub number_other :
    (n m : ℕ) (l : List ℕ) (at other v : ℕ)
    → ((i j : ℕ) → i < n → j < m → other + j ≡ at + i → ⊥)
    → number_at m (with_number n l at v) other ≡ number_at m l other
number_other n m l at other v h =
    number_same m (with_number n l at v) l other (λ j q. with_outside n l at v (other + j) (λ i p e. h i j p q e))

number_from_lt : (n k : ℕ) (l : List ℕ) (at : ℕ) → Bytes l → number_from l at k n < 256 ^ n
number_from_lt zero k l at h = omega arith
number_from_lt (suc n) k l at h = omega (arith, pow-suc 256 n, h (at + k), number_from_lt n (suc k) l at h)

-- n bytes hold a number below 256 ^ n
pub number_lt : (n : ℕ) (l : List ℕ) (at : ℕ) → Bytes l → number_at n l at < 256 ^ n
number_lt n l at h = rw number_as (number_from_lt n 0 l at h)
