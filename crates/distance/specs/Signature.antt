-- "A signature is sixteen readings held together and passed as one, or a fault mask; both take 32 bytes."
-- A signature is the list of its sixteen readings; the mask's four words are made of the same bytes.
use Rattle.std.specs.Prelude.{ℕ, zero, suc, ◌+◌, ◌*◌, ◌<◌, ◌^◌, ◌≡◌, refl, List, [], ◌∷◌, get_or, length}
use Rattle.std.proofs.Common.{ap, ◌∙◌, arith, lit<}
use Rattle.number.specs.Number.{number_at}
use Rattle.number.specs.Frame.{Bytes, number_lt}

-- ---- sixteen readings

-- the n readings from reading k on, of the signature that starts at `at`
abbrev pub readings_from : List ℕ → ℕ → ℕ → ℕ → List ℕ
readings_from l at k zero = []
readings_from l at k (suc n) = number_at 2 l (at + 2 * k) ∷ readings_from l at (suc k) n

-- "sixteen 16-bit readings, low byte first", in the 32 bytes from `at` on
unfoldable pub readings_at : List ℕ → ℕ → List ℕ
readings_at l at = readings_from l at 0 16

pub readings_length : (l : List ℕ) (at : ℕ) → length (readings_at l at) ≡ 16
unfolding readings_at
readings_length l at = refl

-- every reading is a 16-bit number
abbrev pub Fit : List ℕ → Type 0
Fit a = (i : ℕ) → get_or a i 0 < 65536

from_fit : (n : ℕ) (l : List ℕ) (at k : ℕ) → Bytes l → Fit (readings_from l at k n)
from_fit zero l at k h i = lit< tt
from_fit (suc n) l at k h zero = number_lt 2 l (at + 2 * k) h
from_fit (suc n) l at k h (suc i) = from_fit n l at (suc k) h i

pub readings_fit : (l : List ℕ) (at : ℕ) → Bytes l → Fit (readings_at l at)
unfolding readings_at
readings_fit l at h = from_fit 16 l at 0 h

from_at :
    (n : ℕ) (l : List ℕ) (at k i : ℕ)
    → i < n
    → get_or (readings_from l at k n) i 0 ≡ number_at 2 l (at + 2 * (k + i))
from_at zero l at k i h = absurd (omega arith)
from_at (suc n) l at k zero h =
    let e : at + 2 * k ≡ at + 2 * (k + 0) = omega arith in
    ap (number_at 2 l) e
from_at (suc n) l at k (suc i) h =
    let e : at + 2 * (suc k + i) ≡ at + 2 * (k + suc i) = omega arith in
    from_at n l at (suc k) i (omega arith) ∙ ap (number_at 2 l) e

-- reading i stands in the two bytes from at + 2i on
pub reading_at : (l : List ℕ) (at i : ℕ) → i < 16 → get_or (readings_at l at) i 0 ≡ number_at 2 l (at + 2 * i)
unfolding readings_at
reading_at l at i h =
    let e : at + 2 * (0 + i) ≡ at + 2 * i = omega arith in
    from_at 16 l at 0 i h ∙ ap (number_at 2 l) e

-- ---- four words

-- "256 fault bits, four 64-bit words": word k of the mask is the eight bytes that readings 4k to 4k + 3 hold, low byte
-- first
unfoldable pub word_of : List ℕ → ℕ → ℕ
word_of a k =
    get_or a (4 * k) 0
    + 65536 * get_or a (4 * k + 1) 0
    + 4294967296 * get_or a (4 * k + 2) 0
    + 281474976710656 * get_or a (4 * k + 3) 0

pub word_lt : (a : List ℕ) (k : ℕ) → Fit a → word_of a k < 2 ^ 64
unfolding word_of
word_lt a k h = omega (arith, h (4 * k), h (4 * k + 1), h (4 * k + 2), h (4 * k + 3))

-- numbers of two bytes each, one after another from `at` on, make the words that stand there
pub word_of_pairs :
    (a l : List ℕ) (at k : ℕ)
    → ((i : ℕ) → i < 4 * k + 4 → get_or a i 0 ≡ number_at 2 l (at + 2 * i))
    → word_of a k ≡ number_at 8 l (at + 8 * k)
unfolding word_of number_at
word_of_pairs a l at k pair =
    let e0 = pair (4 * k) (omega arith) in
    let e1 = pair (4 * k + 1) (omega arith) in
    let e2 = pair (4 * k + 2) (omega arith) in
    let e3 = pair (4 * k + 3) (omega arith) in
    let byte : (i j : ℕ) → i ≡ j → get_or l i 0 ≡ get_or l j 0 = λ i j e. ap (λ (x : ℕ). get_or l x 0) e in
    omega (
      arith,
      e0,
      e1,
      e2,
      e3,
      byte (at + 2 * (4 * k)) (at + 8 * k) (omega arith),
      byte (at + 2 * (4 * k) + 1) (at + 8 * k + 1) (omega arith),
      byte (at + 2 * (4 * k + 1)) (at + 8 * k + 2) (omega arith),
      byte (at + 2 * (4 * k + 1) + 1) (at + 8 * k + 3) (omega arith),
      byte (at + 2 * (4 * k + 2)) (at + 8 * k + 4) (omega arith),
      byte (at + 2 * (4 * k + 2) + 1) (at + 8 * k + 5) (omega arith),
      byte (at + 2 * (4 * k + 3)) (at + 8 * k + 6) (omega arith),
      byte (at + 2 * (4 * k + 3) + 1) (at + 8 * k + 7) (omega arith),
    )

-- the mask of the readings in 32 bytes is the four 64-bit numbers in them
pub word_at : (l : List ℕ) (at k : ℕ) → k < 4 → word_of (readings_at l at) k ≡ number_at 8 l (at + 8 * k)
word_at l at k h = word_of_pairs (readings_at l at) l at k (λ i b. reading_at l at i (omega arith))
