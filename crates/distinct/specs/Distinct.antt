-- "Cards are distinct; timestamps are distinct" (paper, "Well formed"), for the keys at the first n places of a row:
-- those that are not 0 are all different. A free record has 0 for both keys, so zeros are left aside. As a test by
-- order's `distinct`, as a statement, and what a loop over the keys learns of it. Assumes nothing.
use Rattle.std.specs.Prelude.{ℕ, zero, suc, ◌+◌, ◌≤◌, ◌<◌, ◌≡◌, refl, Bool, true, false, not, ◌&&◌, ◌||◌, List, [], ◌∷◌}
use Rattle.std.specs.Prelude.{◌++◌, eqb, length, take, set}
use Rattle.std.proofs.Common.{sym, ap, ◌∙◌, arith, add-one, eq-eqb, ne_eqb, take-suc-set}
use Rattle.std.proofs.lemmas.Bool.{false≢true, not-true}
use Rattle.places.specs.Cases.{equal_or}
use Rattle.places.specs.Choice.{pick, and_left, and_right, same_test}
use Rattle.order.specs.Order.{stands_in, distinct}
use Rattle.order.specs.Distinct.{distinct_last, stands_in_last}

-- those of f 0, .. , f (n - 1) that are not 0
unfoldable pub kept_to : ℕ → (ℕ → ℕ) → List ℕ
kept_to zero f = []
kept_to (suc n) f = pick (eqb (f n) 0) (kept_to n f) (kept_to n f ++ f n ∷ [])

-- no two of the first n places hold the same number, 0 aside
unfoldable pub distinct_to : ℕ → (ℕ → ℕ) → Bool
distinct_to n f = distinct (kept_to n f)

-- the same as a statement: what is not 0 stands at one place
abbrev pub OnePlaceEach : ℕ → (ℕ → ℕ) → Type 0
OnePlaceEach n f = (a b : ℕ) → a < n → b < n → 1 ≤ f a → f a ≡ f b → a ≡ b

-- ---- the keys kept

kept_skips : (n : ℕ) (f : ℕ → ℕ) → f n ≡ 0 → kept_to (suc n) f ≡ kept_to n f
unfolding kept_to
kept_skips n f e = rw (eq-eqb _ _ e)

kept_takes : (n : ℕ) (f : ℕ → ℕ) → (f n ≡ 0 → ⊥) → kept_to (suc n) f ≡ kept_to n f ++ f n ∷ []
unfolding kept_to
kept_takes n f e = rw (ne_eqb _ _ e)

-- one turn of a loop that writes them into a row, where the first m stand already
pub kept_zero : (n : ℕ) (f : ℕ → ℕ) → f n ≡ 0 → kept_to (n + 1) f ≡ kept_to n f
kept_zero n f e = rw add-one (kept_skips n f e)

pub kept_more :
    (n : ℕ) (f : ℕ → ℕ) (row : List ℕ) (m : ℕ)
    → m < length row
    → (f n ≡ 0 → ⊥)
    → take m row ≡ kept_to n f
    → take (m + 1) (set row m (f n)) ≡ kept_to (n + 1) f
kept_more n f row m l h e =
    rw (add-one n, kept_takes n f h, ← e) (rw (add-one m) (take-suc-set row m (f n) l))

-- x is one of the keys kept just where one of the first n keys is x
kept_stands : (n : ℕ) (f : ℕ → ℕ) (b : ℕ) → b < n → 1 ≤ f b → stands_in (f b) (kept_to n f) ≡ true
kept_stands zero f b l h = absurd (omega arith)
kept_stands (suc n) f b l h =
    equal_or (f n) 0
    (λ z. rw (kept_skips n f z) (kept_stands n f b (earlier (λ e. omega (arith, ap f e))) h))
    (λ k. rw (kept_takes n f k, stands_in_last) (equal_or b n (here k) (λ k. later (kept_stands n f b (earlier k) h))))
  where
    earlier : (b ≡ n → ⊥) → b < n
    earlier k = omega arith

    here : (f n ≡ 0 → ⊥) → b ≡ n → (eqb (f b) (f n) || stands_in (f b) (kept_to n f)) ≡ true
    here k e = rw (eq-eqb (f b) (f n) (ap f e))

    later : stands_in (f b) (kept_to n f) ≡ true → (eqb (f b) (f n) || stands_in (f b) (kept_to n f)) ≡ true
    later e = rw e (go (eqb (f b) (f n)))
      where
        go : (t : Bool) → (t || true) ≡ true
        go true = refl
        go false = refl

kept_absent :
    (n : ℕ) (f : ℕ → ℕ) (x : ℕ) → ((b : ℕ) → b < n → x ≡ f b → ⊥) → stands_in x (kept_to n f) ≡ false
unfolding kept_to stands_in
kept_absent zero f x h = refl
kept_absent (suc n) f x h =
    let rest = kept_absent n f x (λ b l. h b (omega arith)) in
    equal_or (f n) 0
    (λ z. rw (kept_skips n f z) rest)
    (λ k. rw (kept_takes n f k, stands_in_last, ne_eqb x (f n) (h n (omega arith))) rest)

-- ---- the test and the statement say the same

distinct_skips : (n : ℕ) (f : ℕ → ℕ) → f n ≡ 0 → distinct_to (suc n) f ≡ distinct_to n f
unfolding distinct_to
distinct_skips n f z = ap distinct (kept_skips n f z)

distinct_takes :
    (n : ℕ) (f : ℕ → ℕ)
    → (f n ≡ 0 → ⊥)
    → distinct_to (suc n) f ≡ (not (stands_in (f n) (kept_to n f)) && distinct_to n f)
unfolding distinct_to
distinct_takes n f k = ap distinct (kept_takes n f k) ∙ distinct_last (kept_to n f) (f n)

-- one turn: the next key is 0, or none of those before it
distinct_next :
    (n : ℕ) (f : ℕ → ℕ)
    → distinct_to n f ≡ true
    → ((b : ℕ) → b < n → 1 ≤ f n → f n ≡ f b → ⊥)
    → distinct_to (suc n) f ≡ true
distinct_next n f t h =
    equal_or (f n) 0
    (λ z. distinct_skips n f z ∙ t)
    (λ k.
    rw (distinct_takes n f k, kept_absent n f (f n) (λ b l. h b l (omega arith))) t)

pub apart_distinct :
    (n : ℕ) (f : ℕ → ℕ) → ((a b : ℕ) → a < n → b < a → 1 ≤ f a → f a ≡ f b → ⊥) → distinct_to n f ≡ true
unfolding distinct_to distinct kept_to
apart_distinct zero f h = refl
apart_distinct (suc n) f h =
    distinct_next n f (apart_distinct n f (λ a b p. h a b (omega arith))) (λ b. h n b (omega arith))

pub distinct_apart :
    (n : ℕ) (f : ℕ → ℕ) → distinct_to n f ≡ true → (a b : ℕ) → a < n → b < a → 1 ≤ f a → f a ≡ f b → ⊥
distinct_apart zero f t a b p q h e = omega arith
distinct_apart (suc n) f t a b p q h e =
    equal_or (f n) 0
    (λ z.
    let l : a < n = before (λ k. omega (arith, ap f k)) in
    distinct_apart n f (sym (distinct_skips n f z) ∙ t) a b l q h e)
    (λ k.
    let met = stands_in (f n) (kept_to n f) in
    let both : (not met && distinct_to n f) ≡ true = sym (distinct_takes n f k) ∙ t in
    equal_or a n
    (λ s. last s (not-true met (and_left (not met) (distinct_to n f) both)))
    (λ k. distinct_apart n f (and_right (not met) (distinct_to n f) both) a b (before k) q h e))
  where
    before : (a ≡ n → ⊥) → a < n
    before k = omega arith

    last : a ≡ n → stands_in (f n) (kept_to n f) ≡ false → ⊥
    last s none =
        let same : f b ≡ f n = sym e ∙ ap f s in
        let found : stands_in (f n) (kept_to n f) ≡ true =
        rw (← same) (kept_stands n f b (omega arith) (rw e at h)) in
        false≢true (sym none ∙ found)

pub distinct_reads : (n : ℕ) (f : ℕ → ℕ) → distinct_to n f ≡ true → OnePlaceEach n f
distinct_reads n f t a b p q h e =
    let not_below : b < a → ⊥ = λ l. distinct_apart n f t a b p l h e in
    let not_above : a < b → ⊥ = λ l. distinct_apart n f t b a q l (rw e at h) (sym e) in
    omega arith

pub reads_distinct : (n : ℕ) (f : ℕ → ℕ) → OnePlaceEach n f → distinct_to n f ≡ true
reads_distinct n f d = apart_distinct n f (λ a b p q h e. omega (arith, d a b p (omega arith) h e))

-- rows that agree on the first n places are as distinct
pub distinct_same :
    (n : ℕ) (f g : ℕ → ℕ) → ((k : ℕ) → k < n → f k ≡ g k) → distinct_to n f ≡ distinct_to n g
distinct_same n f g h =
    same_test (distinct_to n f) (distinct_to n g) (carry f g h) (carry g f (λ k b. sym (h k b)))
  where
    carry : (f g : ℕ → ℕ) → ((k : ℕ) → k < n → f k ≡ g k) → distinct_to n f ≡ true → distinct_to n g ≡ true
    carry f g h t =
        apart_distinct n g
        (λ a b p q i e.
        distinct_apart n f t a b p q (rw (h a p) i) (h a p ∙ e ∙ sym (h b (omega arith))))

-- ---- a loop over the keys

-- before the first key
pub distinct_none : (f : ℕ → ℕ) → distinct_to 0 f ≡ true
distinct_none f = apart_distinct 0 f (λ a b p q h e. omega arith)

pub distinct_more :
    (n : ℕ) (f : ℕ → ℕ)
    → distinct_to n f ≡ true
    → ((b : ℕ) → b < n → 1 ≤ f n → f n ≡ f b → ⊥)
    → distinct_to (n + 1) f ≡ true
distinct_more n f t h = rw add-one (distinct_next n f t h)

-- a key that was there before ends it
pub distinct_twice :
    (n : ℕ) (f : ℕ → ℕ) (a b : ℕ) → a < n → b < a → 1 ≤ f a → f a ≡ f b → distinct_to n f ≡ false
distinct_twice n f a b p q h e = by (distinct_to n f) refl
  where
    by : (t : Bool) → distinct_to n f ≡ t → distinct_to n f ≡ false
    by true t = absurd (distinct_apart n f t a b p q h e)
    by false t = t
