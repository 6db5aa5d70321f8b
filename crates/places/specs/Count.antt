-- Counting and adding up: what a count of 0, 1 or more says of the places, and when equal sums have equal parts.
-- Assumes nothing.
use Rattle.std.specs.Prelude.{ℕ, zero, suc, ◌≤◌, ◌<◌, ◌≡◌, refl, Bool, true, false, eqb}
use Rattle.std.proofs.Common.{sym, ap, ◌∙◌, ⊎_elim, arith, eq-or-lt_of_le, le_of_suc-le-suc, eq-eqb, eqb-true}
use Rattle.places.specs.Choice.{pick}
use Rattle.places.specs.Test.{count_to}
use Rattle.places.specs.Sum.{sum_to, sum_zero, sum_below, sum_tight, sum_only, sum_add, some_part}

-- 1 for yes
abbrev pub one : Bool → ℕ
one t = pick t 1 0

pub one_yes : (t : Bool) → t ≡ true → one t ≡ 1
one_yes t e = ap one e

pub one_no : (t : Bool) → (t ≡ true → ⊥) → one t ≡ 0
one_no true h = absurd (h refl)
one_no false h = refl

-- a count is a sum
pub count_sum : (n : ℕ) (p : ℕ → Bool) → count_to n p ≡ sum_to n (λ k. one (p k))
unfolding count_to sum_to
count_sum zero p = refl
count_sum (suc n) p = omega (arith, count_sum n p)

-- ---- none, some, one

pub none_counted : (n : ℕ) (p : ℕ → Bool) → ((k : ℕ) → k < n → p k ≡ true → ⊥) → count_to n p ≡ 0
none_counted n p h =
    count_sum n p
    ∙ sum_below n (λ k. one (p k)) (λ _. 0) (λ k b. one_no (p k) (h k b))
    ∙ sum_zero n (λ _. 0) (λ _. refl)

pub some_counted : (n : ℕ) (p : ℕ → Bool) → 1 ≤ count_to n p → (k : ℕ) × (k < n) × (p k ≡ true)
some_counted n p h =
    let r = some_part n (λ k. one (p k)) (omega (arith, count_sum n p)) in (r.0, r.1, yes (p r.0) r.2)
  where
    yes : (t : Bool) → 1 ≤ one t → t ≡ true
    yes true h = refl
    yes false h = absurd (omega arith)

-- exactly one passes: place a and no other
pub one_counted :
    (n a : ℕ) (p : ℕ → Bool)
    → a < n
    → p a ≡ true
    → ((k : ℕ) → k < n → p k ≡ true → k ≡ a)
    → count_to n p ≡ 1
one_counted n a p b e h =
    count_sum n p
    ∙ sum_only n a (λ k. one (p k)) b (λ k c d. one_no (p k) (λ y. d (h k c y)))
    ∙ one_yes (p a) e

-- two places that pass count as one only if they are one
pub counted_one :
    (n : ℕ) (p : ℕ → Bool)
    → count_to n p ≤ 1
    → (a b : ℕ)
    → a < n
    → b < n
    → p a ≡ true
    → p b ≡ true
    → b ≡ a
counted_one n p h a b ba bb ea eb =
    let point : sum_to n (λ k. one (eqb k a)) ≡ 1 =
    sum_only n a (λ k. one (eqb k a)) ba (λ k _ d. one_no (eqb k a) (λ y. d (eqb-true k a y)))
    ∙ one_yes (eqb a a) (eq-eqb a a refl) in
    let tight : one (eqb b a) ≡ one (p b) =
    sum_tight n (λ k. one (eqb k a)) (λ k. one (p k)) inside (omega (arith, count_sum n p)) b bb in
    same (eqb b a) refl (tight ∙ one_yes (p b) eb)
  where
    inside : (k : ℕ) → k < n → one (eqb k a) ≤ one (p k)
    inside k _ = go (eqb k a) refl
      where
        go : (t : Bool) → eqb k a ≡ t → one t ≤ one (p k)
        go true e = omega (arith, one_yes (p k) (ap p (eqb-true k a e) ∙ ea))
        go false e = omega arith

    same : (t : Bool) → eqb b a ≡ t → one t ≡ 1 → b ≡ a
    same true e q = eqb-true b a e
    same false e q = absurd (omega arith)

pub seen_counted : (n : ℕ) (p : ℕ → Bool) (k : ℕ) → k < n → p k ≡ true → 1 ≤ count_to n p
unfolding count_to
seen_counted zero p k b e = absurd (omega arith)
seen_counted (suc n) p k b e =
    ⊎_elim
    (λ q. omega (arith, one_yes (p n) (ap p (sym q) ∙ e)))
    (λ l. omega (arith, seen_counted n p k l e))
    (eq-or-lt_of_le (le_of_suc-le-suc b))

-- at most one passes, if no two do
pub few_counted :
    (n : ℕ) (p : ℕ → Bool)
    → ((a b : ℕ) → a < n → b < n → p a ≡ true → p b ≡ true → a ≡ b)
    → count_to n p ≤ 1
few_counted n p h = go (count_to n p) refl
  where
    go : (k : ℕ) → count_to n p ≡ k → count_to n p ≤ 1
    go zero e = omega arith
    go (suc k) e =
        let r = some_counted n p (omega arith) in
        omega (arith, one_counted n r.0 p r.1 r.2 (λ b l y. h b r.0 l r.1 y r.2))

-- ---- what stands where

-- where each of k things stands at one of n places, the places hold k things in all
pub spread :
    (n k : ℕ) (f : ℕ → ℕ) → ((i : ℕ) → i < k → f i < n) → sum_to n (λ s. count_to k (λ i. eqb (f i) s)) ≡ k
unfolding count_to
spread n zero f h = sum_zero n (λ _. 0) (λ _. refl)
spread n (suc k) f h =
    let last : sum_to n (λ s. one (eqb (f k) s)) ≡ 1 =
    sum_only n (f k) (λ s. one (eqb (f k) s)) (h k (omega arith))
    (λ s _ d. one_no (eqb (f k) s) (λ y. d (sym (eqb-true (f k) s y))))
    ∙ one_yes (eqb (f k) (f k)) (eq-eqb (f k) (f k) refl) in
    let rest : sum_to n (λ s. count_to k (λ i. eqb (f i) s)) ≡ k = spread n k f (λ i b. h i (omega arith)) in
    omega (arith, sum_add n (λ s. one (eqb (f k) s)) (λ s. count_to k (λ i. eqb (f i) s)))
