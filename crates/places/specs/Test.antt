-- A test at each of the first n places: all pass, or how many do. Assumes nothing.
use Rattle.std.specs.Prelude.{ℕ, zero, suc, ◌+◌, ◌≤◌, ◌<◌, ◌≡◌, refl, Bool, true, false, ◌&&◌}
use Rattle.std.proofs.Common.{sym, ap, ◌∙◌, ⊎_elim, arith, add-one, eq-or-lt_of_le, le_of_suc-le-suc}
use Rattle.std.proofs.lemmas.Bool.{false≢true}
use Rattle.places.specs.Choice.{pick, and_left, and_right, and_both, and_comm}
use Rattle.places.specs.Cases.{equal_or}

-- every one of the first n places passes
unfoldable pub all_to : ℕ → (ℕ → Bool) → Bool
all_to zero p = true
all_to (suc n) p = p n && all_to n p

-- how many of the first n places pass
unfoldable pub count_to : ℕ → (ℕ → Bool) → ℕ
count_to zero p = 0
count_to (suc n) p = pick (p n) 1 0 + count_to n p

pub all_at : (n : ℕ) (p : ℕ → Bool) → all_to n p ≡ true → (k : ℕ) → k < n → p k ≡ true
unfolding all_to
all_at zero p h k b = absurd (omega arith)
all_at (suc n) p h k b =
    ⊎_elim
    (λ e. rw e (and_left (p n) (all_to n p) h))
    (λ l. all_at n p (and_right (p n) (all_to n p) h) k l)
    (eq-or-lt_of_le (le_of_suc-le-suc b))

pub at_all : (n : ℕ) (p : ℕ → Bool) → ((k : ℕ) → k < n → p k ≡ true) → all_to n p ≡ true
unfolding all_to
at_all zero p h = refl
at_all (suc n) p h = and_both (p n) (all_to n p) (h n (omega arith)) (at_all n p (λ k b. h k (omega arith)))

-- one place that does not pass
pub all_fails : (n : ℕ) (p : ℕ → Bool) (k : ℕ) → k < n → p k ≡ false → all_to n p ≡ false
all_fails n p k b e = go (all_to n p) refl
  where
    go : (t : Bool) → all_to n p ≡ t → t ≡ false
    go true h = absurd (false≢true (sym e ∙ all_at n p h k b))
    go false h = refl

-- ---- one turn of a loop over the places

pub all_none : (p : ℕ → Bool) → true ≡ all_to 0 p
unfolding all_to
all_none p = refl

pub all_more : (n : ℕ) (t b : Bool) (p : ℕ → Bool) → t ≡ all_to n p → b ≡ p n → t && b ≡ all_to (n + 1) p
unfolding all_to
all_more n t b p et eb = rw (add-one, et, eb) (and_comm (all_to n p) (p n))

pub count_more :
    (n k v : ℕ) (p : ℕ → Bool) → k ≡ count_to n p → v ≡ pick (p n) 1 0 → k + v ≡ count_to (n + 1) p
unfolding count_to
count_more n k v p ek ev = rw add-one (omega arith)

pub count_still : (n k : ℕ) (p : ℕ → Bool) → k ≡ count_to n p → p n ≡ false → k ≡ count_to (n + 1) p
unfolding count_to
count_still n k p ek e = rw add-one (omega (arith, ap (λ (t : Bool). pick {A = ℕ} t 1 0) e))

pub count_most : (n : ℕ) (p : ℕ → Bool) → count_to n p ≤ n
unfolding count_to
count_most zero p = omega arith
count_most (suc n) p = go (p n) (count_most n p)
  where
    go : (t : Bool) → count_to n p ≤ n → pick t 1 0 + count_to n p ≤ suc n
    go true h = omega arith
    go false h = omega arith

-- more places, no fewer that pass
pub count_grows : (m n : ℕ) (p : ℕ → Bool) → m ≤ n → count_to m p ≤ count_to n p
unfolding count_to
count_grows m zero p h =
    let e : m ≡ 0 = omega arith in rw e (omega arith)
count_grows m (suc n) p h =
    equal_or m (suc n) (λ e. rw e (omega arith)) (λ ne. go (p n) (count_grows m n p (omega arith)))
  where
    go : (t : Bool) → count_to m p ≤ count_to n p → count_to m p ≤ pick t 1 0 + count_to n p
    go true q = omega arith
    go false q = omega arith
