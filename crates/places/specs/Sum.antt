-- A sum over the first n places, and what it inherits from its parts. Both distances are such sums. Assumes nothing.
use Rattle.std.specs.Prelude.{ℕ, zero, suc, ◌+◌, ◌*◌, ◌≤◌, ◌<◌, ◌≡◌, refl}
use Rattle.std.proofs.Common.{sym, ap, ◌∙◌, ⊎_elim, arith, add-one, suc-mul, eq-or-lt_of_le, le_of_suc-le-suc}

-- f 0 + f 1 + .. , n parts in all
unfoldable pub sum_to : ℕ → (ℕ → ℕ) → ℕ
sum_to zero f = 0
sum_to (suc n) f = sum_to n f + f n

-- one turn of a loop that adds the parts up
pub sum_more : (n s p : ℕ) (f : ℕ → ℕ) → s ≡ sum_to n f → p ≡ f n → s + p ≡ sum_to (n + 1) f
unfolding sum_to
sum_more n s p f hs hp = rw add-one (cc)

pub sum_still : (n s : ℕ) (f : ℕ → ℕ) → s ≡ sum_to n f → f n ≡ 0 → s ≡ sum_to (n + 1) f
unfolding sum_to
sum_still n s f hs z = rw add-one (omega arith)

pub sum_zero : (n : ℕ) (f : ℕ → ℕ) → ((i : ℕ) → f i ≡ 0) → sum_to n f ≡ 0
unfolding sum_to
sum_zero zero f h = refl
sum_zero (suc n) f h = omega (arith, sum_zero n f h, h n)

pub sum_same : (n : ℕ) (f g : ℕ → ℕ) → ((i : ℕ) → f i ≡ g i) → sum_to n f ≡ sum_to n g
unfolding sum_to
sum_same zero f g h = refl
sum_same (suc n) f g h = omega (arith, sum_same n f g h, h n)

pub sum_over : (n : ℕ) (f g h : ℕ → ℕ) → ((i : ℕ) → f i ≤ g i + h i) → sum_to n f ≤ sum_to n g + sum_to n h
unfolding sum_to
sum_over zero f g h p = omega arith
sum_over (suc n) f g h p = omega (arith, sum_over n f g h p, p n)

pub sum_at_most : (n k : ℕ) (f : ℕ → ℕ) → ((i : ℕ) → f i ≤ k) → sum_to n f ≤ n * k
unfolding sum_to
sum_at_most zero k f h = omega arith
sum_at_most (suc n) k f h = omega (arith, sum_at_most n k f h, h n, suc-mul n k)

-- ---- sums of what is known below n alone

pub sum_below : (n : ℕ) (f g : ℕ → ℕ) → ((k : ℕ) → k < n → f k ≡ g k) → sum_to n f ≡ sum_to n g
unfolding sum_to
sum_below zero f g h = refl
sum_below (suc n) f g h = omega (arith, sum_below n f g (λ k b. h k (omega arith)), h n (omega arith))

pub sum_le : (n : ℕ) (f g : ℕ → ℕ) → ((k : ℕ) → k < n → f k ≤ g k) → sum_to n f ≤ sum_to n g
unfolding sum_to
sum_le zero f g h = omega arith
sum_le (suc n) f g h = omega (arith, sum_le n f g (λ k b. h k (omega arith)), h n (omega arith))

-- where no part is larger and the sum is no smaller, all parts are equal
pub sum_tight :
    (n : ℕ) (f g : ℕ → ℕ)
    → ((k : ℕ) → k < n → f k ≤ g k)
    → sum_to n g ≤ sum_to n f
    → (k : ℕ)
    → k < n
    → f k ≡ g k
unfolding sum_to
sum_tight zero f g h t k b = absurd (omega arith)
sum_tight (suc n) f g h t k b =
    let low : sum_to n f ≤ sum_to n g = sum_le n f g (λ j c. h j (omega arith)) in
    let last : f n ≤ g n = h n (omega arith) in
    ⊎_elim
    (λ e. rw e (omega arith))
    (λ l. sum_tight n f g (λ j c. h j (omega arith)) (omega arith) k l)
    (eq-or-lt_of_le (le_of_suc-le-suc b))

-- where only part a counts, the sum is that part
pub sum_only :
    (n a : ℕ) (f : ℕ → ℕ) → a < n → ((k : ℕ) → k < n → (k ≡ a → ⊥) → f k ≡ 0) → sum_to n f ≡ f a
unfolding sum_to
sum_only zero a f b h = absurd (omega arith)
sum_only (suc n) a f b h =
    ⊎_elim
    (λ e.
    let none : sum_to n f ≡ 0 = sum_below n f (λ _. 0) (λ k c. h k (omega arith) (λ q. omega arith))
    ∙ sum_zero n (λ _. 0) (λ _. refl) in
    omega (arith, ap f e))
    (λ l.
    let rest : sum_to n f ≡ f a = sum_only n a f l (λ k c. h k (omega arith)) in
    let last : f n ≡ 0 = h n (omega arith) (λ q. omega arith) in
    omega arith)
    (eq-or-lt_of_le (le_of_suc-le-suc b))

pub sum_add : (n : ℕ) (f g : ℕ → ℕ) → sum_to n (λ k. f k + g k) ≡ sum_to n f + sum_to n g
unfolding sum_to
sum_add zero f g = refl
sum_add (suc n) f g = omega (arith, sum_add n f g)

-- a table of numbers has one sum, by rows or by columns
pub sum_swap :
    (m n : ℕ) (f : ℕ → ℕ → ℕ) → sum_to m (λ a. sum_to n (λ b. f a b)) ≡ sum_to n (λ b. sum_to m (λ a. f a b))
unfolding sum_to
sum_swap zero n f = sym (sum_zero n (λ _. 0) (λ _. refl))
sum_swap (suc m) n f =
    let rows : sum_to m (λ a. sum_to n (λ b. f a b)) ≡ sum_to n (λ b. sum_to m (λ a. f a b)) = sum_swap m n f in
    let split : sum_to n (λ b. sum_to m (λ a. f a b) + f m b)
    ≡ sum_to n (λ b. sum_to m (λ a. f a b)) + sum_to n (λ b. f m b) = sum_add n (λ b. sum_to m (λ a. f a b)) (f m) in
    omega arith

-- a sum above 0 has a part above 0
pub some_part : (n : ℕ) (f : ℕ → ℕ) → 1 ≤ sum_to n f → (k : ℕ) × (k < n) × (1 ≤ f k)
unfolding sum_to
some_part zero f h = absurd (omega arith)
some_part (suc n) f h = go (f n) refl (some_part n f)
  where
    go :
        (v : ℕ)
        → f n ≡ v
        → (1 ≤ sum_to n f → (k : ℕ) × (k < n) × (1 ≤ f k))
        → (k : ℕ) × (k < suc n) × (1 ≤ f k)
    go zero e earlier = let r = earlier (omega arith) in (r.0, omega (arith, r.1), r.2)
    go (suc v) e earlier = (n, omega arith, omega arith)
