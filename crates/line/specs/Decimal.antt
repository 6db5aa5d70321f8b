-- A number's digits by two equations in which no turn is counted: one digit below 10, else those of a tenth and one
-- more. How many there are, by powers of ten; and that the library's are the same. Assumes nothing.
use Rattle.std.specs.Prelude.{
  ℕ,
  zero,
  suc,
  ◌+◌,
  ◌*◌,
  ◌/◌,
  ◌%◌,
  ◌^◌,
  ◌≤◌,
  ◌<◌,
  max,
  ◌≡◌,
  refl,
  Bool,
  true,
  false,
  List,
  [],
  ◌∷◌,
  ◌++◌,
  ltb,
  length,
}
use Rattle.std.specs.Fmt.{decimal as library_decimal}
use Rattle.std.proofs.Common.{sym, ap, ◌∙◌, arith, lt-ltb, le-ltb, ltb-false, length-append}
use Rattle.std.proofs.Math.Decide.{dec_lt}
use Rattle.std.proofs.lemmas.Fmt.{decimal_by_steps}
use Rattle.places.specs.Choice.{pick}
use Rattle.line.specs.Line.{digit, decimal, decimal_within}

-- two choices that differ only in their second value, and not where that is chosen
same_else : (b : Bool) (x y z : List ℕ) → (b ≡ false → y ≡ z) → pick b x y ≡ pick b x z
same_else true x y z h = refl
same_else false x y z h = h refl

-- any two numbers of turns above n give the same digits
enough : (k j n : ℕ) → n < k → n < j → decimal_within k n ≡ decimal_within j n
unfolding decimal_within
enough zero j n h g = absurd (omega arith)
enough (suc k) zero n h g = absurd (omega arith)
enough (suc k) (suc j) n h g =
    same_else
    (ltb n 10)
    (digit n ∷ [])
    (decimal_within k (n / 10) ++ (digit (n % 10) ∷ []))
    (decimal_within j (n / 10) ++ (digit (n % 10) ∷ []))
    (λ e.
    let ten : 10 ≤ n = ltb-false n 10 e in
    ap (λ (l : List ℕ). l ++ (digit (n % 10) ∷ [])) (enough k j (n / 10) (omega arith) (omega arith)))

-- ---- the two equations

pub decimal_one : (n : ℕ) → n < 10 → decimal n ≡ digit n ∷ []
unfolding decimal decimal_within
decimal_one n h = rw (lt-ltb n 10 h)

pub decimal_more : (n : ℕ) → 10 ≤ n → decimal n ≡ decimal (n / 10) ++ (digit (n % 10) ∷ [])
unfolding decimal decimal_within
decimal_more n h =
    rw (le-ltb n 10 h)
    (ap (λ (l : List ℕ). l ++ (digit (n % 10) ∷ [])) (enough n (suc (n / 10)) (n / 10) (omega arith) (omega arith)))

-- ---- how many there are

pub length_one : (n : ℕ) → n < 10 → length (decimal n) ≡ 1
length_one n h = ap length (decimal_one n h)

pub length_more : (n : ℕ) → 10 ≤ n → length (decimal n) ≡ length (decimal (n / 10)) + 1
length_more n h =
    ap length (decimal_more n h) ∙ length-append (decimal (n / 10)) (digit (n % 10) ∷ [])

-- at least one
pub some_digit : (n : ℕ) → 1 ≤ length (decimal n)
some_digit n = elim (dec_lt n 10) [
  | yes h ↦ omega (arith, length_one n h)
  | no h ↦ omega (arith, length_more n (omega arith))
]

-- a number below 10 to the power k has at most k
pub few_digits : (k n : ℕ) → n < 10 ^ suc k → length (decimal n) ≤ suc k
few_digits zero n h = omega (arith, length_one n (omega arith))
few_digits (suc k) n h = elim (dec_lt n 10) [
  | yes small ↦ omega (arith, length_one n small)
  | no large ↦ omega (arith, length_more n (omega arith), few_digits k (n / 10) (omega arith))
]

some_power : (k : ℕ) → 1 ≤ 10 ^ k
some_power zero = omega arith
some_power (suc k) = omega (arith, some_power k)

-- between two powers of ten the number of digits is known; 0 has as many as 1
pub digits_counted : (k n : ℕ) → 10 ^ k ≤ max n 1 → max n 1 < 10 * 10 ^ k → length (decimal n) ≡ suc k
digits_counted zero n h g = length_one n (omega arith)
digits_counted (suc k) n h g =
    let ten : 10 ≤ n = omega (arith, some_power k) in
    omega (arith, length_more n ten, digits_counted k (n / 10) (omega arith) (omega arith))

-- so many turns are enough for it
pub decimal_within_lem : (k n : ℕ) → n < 10 ^ suc k → decimal n ≡ decimal_within (suc k) n
unfolding decimal_within
decimal_within_lem zero n h = let small : n < 10 = omega arith in decimal_one n small ∙ rw (lt-ltb n 10 small)
decimal_within_lem (suc k) n h = elim (dec_lt n 10) [
  | yes small ↦ decimal_one n small ∙ rw (lt-ltb n 10 small)
  | no large ↦
      let ten : 10 ≤ n = omega arith in
      decimal_more n ten
      ∙ rw
      (le-ltb n 10 ten)
      (ap (λ (l : List ℕ). l ++ (digit (n % 10) ∷ [])) (decimal_within_lem k (n / 10) (omega arith)))
]

-- what the library writes
pub library_same : (n : ℕ) → n < 2 ^ 64 → library_decimal n ≡ decimal n
library_same =
    decimal_by_steps
    (λ (n : ℕ) (ds : List ℕ). ds ≡ decimal n)
    (λ n h. sym (decimal_one n h))
    (λ n ds h e. ap (λ (l : List ℕ). l ++ (digit (n % 10) ∷ [])) e ∙ sym (decimal_more n h))

-- what the types of the code hold: 8, 32 and 64 bits
pub few_digits_8 : (n : ℕ) → n < 2 ^ 8 → length (decimal n) ≤ 3
few_digits_8 n h = few_digits 2 n (omega arith)

pub few_digits_32 : (n : ℕ) → n < 2 ^ 32 → length (decimal n) ≤ 10
few_digits_32 n h = few_digits 9 n (omega arith)

pub few_digits_64 : (n : ℕ) → n < 2 ^ 64 → length (decimal n) ≤ 20
few_digits_64 n h = few_digits 19 n (omega arith)
