-- Laws of lists in order: the same members, as many; each goes before all that follow it; what is put far behind does
-- not change the front; lists without repeats with the same members are one in order. Assumes nothing.
use Prim.Native.Nat.{ℕ, suc, zero, ◌-◌, ◌≤◌, ◌<◌}
use Rattle.std.specs.Prelude.{Bool, cond, ◌≡◌, ◌⊎◌, get_or}
use Rattle.std.proofs.Math.Bool.{true, false}
use Rattle.std.proofs.Common.{true≢false, sym, ◌∙◌, inl, inr, arith}
use Rattle.std.proofs.Math.Path.{refl, ap}
use mathlib.Core.List.Memᴰ
use mathlib.Core.List.{List, [], ◌∷◌, map}
use mathlib.Core.List.Memᴰ.{head as first}
use mathlib.Core.List.Memᴰ.{tail as later}
use mathlib.Core.List.{Memᴰ}
use Rattle.std.proofs.Math.ListN.{length, take}
use Rattle.places.specs.Cases.{either}
use Rattle.tree.specs.Slots.{◌∈◌, ∈_decide, Distinct, image_from, image_to}
use Rattle.tree.specs.Sorted.{put_by, sort_by}
use Rattle.tree.specs.Sorted.Front.{take_behind, get_d_member}

-- each goes before all that follow it
abbrev pub Ascends : {A : Type 0} → (A → A → Bool) → List A → Type 0
Ascends before [] = Unit {0}
Ascends {A} before (x ∷ l) = ((y : A) → Memᴰ y l → before x y ≡ true) × Ascends before l

-- `before` puts things in one order, those with P without a tie
pub record Orders {A : Type 0} (before : A → A → Bool) (P : A → Type 0) : Type 0 where
  pub one_way : (x y : A) → before x y ≡ true → before y x ≡ false
  pub through : (x y z : A) → before x y ≡ true → before y z ≡ true → before x z ≡ true
  pub one : (x y : A) → P x → P y → before x y ≡ false → before y x ≡ false → x ≡ y

-- ---- members and length, of any comparison

module _ {A : Type 0} (before : A → A → Bool) where
  pub put_by_from : (x y : A) (l : List A) → Memᴰ y (put_by before x l) → Memᴰ y (x ∷ l)
  unfolding put_by
  put_by_from x y [] i = i
  put_by_from x y (z ∷ l) i = go (before z x) i (put_by_from x y l)
    where
      swapped : Memᴰ y (x ∷ l) → Memᴰ y (x ∷ z ∷ l)
      swapped (first e) = first e
      swapped (later j) = later (later j)

      go : (b : Bool) → Memᴰ y (cond b (z ∷ put_by before x l) (x ∷ z ∷ l))
          → (Memᴰ y (put_by before x l) → Memᴰ y (x ∷ l)) → Memᴰ y (x ∷ z ∷ l)
      go true (first e) rest = later (first e)
      go true (later j) rest = swapped (rest j)
      go false j rest = j

  pub put_by_to : (x y : A) (l : List A) → Memᴰ y (x ∷ l) → Memᴰ y (put_by before x l)
  unfolding put_by
  put_by_to x y [] i = i
  put_by_to x y (z ∷ l) i = go (before z x) i (put_by_to x y l)
    where
      go : (b : Bool) → Memᴰ y (x ∷ z ∷ l) → (Memᴰ y (x ∷ l) → Memᴰ y (put_by before x l))
          → Memᴰ y (cond b (z ∷ put_by before x l) (x ∷ z ∷ l))
      go true (first e) rest = later (rest (first e))
      go true (later (first e)) rest = first e
      go true (later (later j)) rest = later (rest (later j))
      go false j rest = j

  pub put_by_length : (x : A) (l : List A) → length (put_by before x l) ≡ suc (length l)
  unfolding put_by
  put_by_length x [] = refl
  put_by_length x (y ∷ l) = go (before y x) (put_by_length x l)
    where
      go : (b : Bool) → length (put_by before x l) ≡ suc (length l)
          → length (cond b (y ∷ put_by before x l) (x ∷ y ∷ l)) ≡ suc (suc (length l))
      go true e = ap suc e
      go false e = refl

  pub sort_by_from : (y : A) (l : List A) → Memᴰ y (sort_by before l) → Memᴰ y l
  unfolding sort_by
  sort_by_from y [] i = i
  sort_by_from y (x ∷ l) i = go (put_by_from x y (sort_by before l) i) (sort_by_from y l)
    where
      go : Memᴰ y (x ∷ sort_by before l) → (Memᴰ y (sort_by before l) → Memᴰ y l) → Memᴰ y (x ∷ l)
      go (first e) rest = first e
      go (later j) rest = later (rest j)

  pub sort_by_to : (y : A) (l : List A) → Memᴰ y l → Memᴰ y (sort_by before l)
  unfolding sort_by
  sort_by_to y [] x' = elim x' [ ]
  sort_by_to y (x ∷ l) (first e) = put_by_to x y (sort_by before l) (first e)
  sort_by_to y (x ∷ l) (later i) = put_by_to x y (sort_by before l) (later (sort_by_to y l i))

  pub sort_by_length : (l : List A) → length (sort_by before l) ≡ length l
  unfolding sort_by
  sort_by_length [] = refl
  sort_by_length (x ∷ l) = put_by_length x (sort_by before l) ∙ ap suc (sort_by_length l)

  -- where no two have one number, and a new number comes, no two have one number
  pub put_by_distinct : (f : A → ℕ) (x : A) (l : List A) → (f x ∈ map f l → ⊥) → Distinct (map f l)
      → Distinct (map f (put_by before x l))
  unfolding put_by
  put_by_distinct f x [] new p = (Memᴰ.not-nil, tt)
  put_by_distinct f x (y ∷ l) new p = go (before y x) (put_by_distinct f x l (λ i. new (later i)) p.1)
    where
      apart : (a : A) → Memᴰ a (x ∷ l) → f y ≡ f a → ⊥
      apart a (first e) g = new (first (sym (g ∙ ap f e)))
      apart a (later i) g = p.0 (Memᴰ.cast g (image_to f a l i))

      go : (b : Bool) → Distinct (map f (put_by before x l))
          → Distinct (map f (cond b (y ∷ put_by before x l) (x ∷ y ∷ l)))
      go true rest = (
        λ i. let z = image_from f (f y) (put_by before x l) i in apart z.0 (put_by_from x z.0 l z.1) z.2,
        rest,
      )
      go false rest = (new, p)

  -- the first k after a putting are fixed by the first k before it
  pub take_put : (k : ℕ) (x : A) (l : List A) → take k (put_by before x (take k l)) ≡ take k (put_by before x l)
  unfolding put_by
  take_put zero x l = refl
  take_put (suc k) x [] = refl
  take_put (suc k) x (y ∷ l) = go (before y x) (take_put k x l)
    where
      go : (b : Bool) → take k (put_by before x (take k l)) ≡ take k (put_by before x l)
          → take (suc k) (cond b (y ∷ put_by before x (take k l)) (x ∷ y ∷ take k l))
          ≡ take (suc k) (cond b (y ∷ put_by before x l) (x ∷ y ∷ l))
      go true e = ap (y ∷◌) e
      go false e = ap (x ∷◌) (take_behind k y l)

-- ---- in order

module _ {A : Type 0} {before : A → A → Bool} {P : A → Type 0} (orders : Orders before P) where
  -- nothing goes before itself
  pub before_self : (x : A) → before x x ≡ true → ⊥
  before_self x e = true≢false (sym e ∙ orders.one_way x x e)

  pub put_by_ascends : (x : A) (l : List A) → P x → ((y : A) → Memᴰ y l → P y) → (Memᴰ x l → ⊥)
      → Ascends before l → Ascends before (put_by before x l)
  unfolding put_by
  put_by_ascends x [] px pl new a = (λ y i. absurd (Memᴰ.not-nil i), tt)
  put_by_ascends x (y ∷ l) px pl new a =
      go (before y x) refl (put_by_ascends x l px (λ z i. pl z (later i)) (λ i. new (later i)) a.1)
    where
      after_y : before y x ≡ true → (z : A) → Memᴰ z (x ∷ l) → before y z ≡ true
      after_y e z (first f) = rw f e
      after_y e z (later i) = a.0 z i

      x_y : before y x ≡ false → before x y ≡ true
      x_y e = test (before x y) refl
        where
          test : (b : Bool) → before x y ≡ b → b ≡ true
          test true f = refl
          test false f = absurd (new (first (orders.one x y px (pl y (first refl)) f e)))

      after_x : before x y ≡ true → (z : A) → Memᴰ z (y ∷ l) → before x z ≡ true
      after_x e z (first f) = rw f e
      after_x e z (later i) = orders.through x y z e (a.0 z i)

      go : (b : Bool) → before y x ≡ b → Ascends before (put_by before x l)
          → Ascends before (cond b (y ∷ put_by before x l) (x ∷ y ∷ l))
      go true e rest = (λ z i. after_y e z (put_by_from before x z l i), rest)
      go false e rest = (after_x (x_y e), a)

  -- ---- two lists in order

  heads_same : (x y : A) (m : List A) → Ascends before (y ∷ m) → (x ≡ y) ⊎ (before x y ≡ true) → Memᴰ x (y ∷ m)
      → x ≡ y
  heads_same x y m am h (first e) = e
  heads_same x y m am (inl e) (later i) = e
  heads_same x y m am (inr e) (later i) = absurd (true≢false (sym (am.0 x i) ∙ orders.one_way x y e))

  -- what follows the first of l stands in m behind the same first
  follows : (x y z : A) (l m : List A) → Ascends before (x ∷ l) → x ≡ y → Memᴰ z l → Memᴰ z (y ∷ m)
      → Memᴰ z m
  follows x y z l m al same i (first e) = absurd (before_self x (al.0 x (Memᴰ.cast (same ∙ sym e) i)))
  follows x y z l m al same i (later j) = j

  first_or : (x z : A) (l : List A) → Ascends before (x ∷ l) → Memᴰ z (x ∷ l) → (x ≡ z) ⊎ (before x z ≡ true)
  first_or x z l al (first e) = inl (sym e)
  first_or x z l al (later i) = inr (al.0 z i)

  -- with the same members they are one
  pub ascends_same : (l m : List A) → Ascends before l → Ascends before m → ((x : A) → Memᴰ x l → Memᴰ x m)
      → ((x : A) → Memᴰ x m → Memᴰ x l) → l ≡ m
  ascends_same [] [] al am f g = refl
  ascends_same [] (y ∷ m) al am f g = absurd (Memᴰ.not-nil (g y (first refl)))
  ascends_same (x ∷ l) [] al am f g = absurd (Memᴰ.not-nil (f x (first refl)))
  ascends_same (x ∷ l) (y ∷ m) al am f g =
      let same = heads_same x y m am (first_or x y l al (g y (first refl))) (f x (first refl)) in
      let rest = ascends_same l m al.1 am.1
      (λ z i. follows x y z l m al same i (f z (later i)))
      (λ z i. follows y x z m l am (sym same) i (g z (later i))) in
      rw (same, rest)

  -- they begin alike up to the k-th if all that m has more goes after it
  ascends_front : (k : ℕ) (l m : List A) (o : A) → k < length l → Ascends before l → Ascends before m
      → ((x : A) → Memᴰ x l → Memᴰ x m)
      → ((y : A) → Memᴰ y m → Memᴰ y l ⊎ (before (get_or l k o) y ≡ true)) → take (suc k) m ≡ take (suc k) l
  ascends_front k [] m o h al am f g = absurd (omega arith)
  ascends_front k (x ∷ l) [] o h al am f g = absurd (Memᴰ.not-nil (f x (first refl)))
  ascends_front zero (x ∷ l) (y ∷ m) o h al am f g =
      let same = heads_same x y m am (either (g y (first refl)) (first_or x y l al) inr) (f x (first refl)) in
      rw same
  ascends_front (suc k) (x ∷ l) (y ∷ m) o h al am f g =
      rw (
        same,
        ascends_front k l m o (omega arith) al.1 am.1
            (λ z i. follows x y z l m al same i (f z (later i))) rest,
      )
    where
      far : (z : A) → before (get_or l k o) z ≡ true → before x z ≡ true
      far z e = orders.through x (get_or l k o) z (al.0 (get_or l k o) (get_d_member k l o (omega arith))) e

      same : x ≡ y
      same = heads_same x y m am (either (g y (first refl)) (first_or x y l al) (λ e. inr (far y e))) (f x (first refl))

      rest : (z : A) → Memᴰ z m → Memᴰ z l ⊎ (before (get_or l k o) z ≡ true)
      rest z i = either (g z (later i)) (λ j. inl (follows y x z m l am (sym same) i j)) inr

-- ---- slots in order

module _ {before : ℕ → ℕ → Bool} {P : ℕ → Type 0} (orders : Orders before P) where
  pub sort_by_ascends : (l : List ℕ) → ((x : ℕ) → x ∈ l → P x) → Distinct l → Ascends before (sort_by before l)
  unfolding sort_by
  sort_by_ascends [] p once = tt
  sort_by_ascends (x ∷ l) p once = put_by_ascends orders x (sort_by before l) (p x (first refl))
      (λ y i. p y (later (sort_by_from before y l i))) (λ i. once.0 (sort_by_from before x l i))
      (sort_by_ascends l (λ y i. p y (later i)) once.1)

  module _ (l m : List ℕ) (p : (x : ℕ) → x ∈ l → P x) (r : (x : ℕ) → x ∈ m → P x) (ol : Distinct l) (om : Distinct m)
      (f : (x : ℕ) → x ∈ l → x ∈ m) where
    -- lists without repeats with the same members are one in order
    pub sorted_same : ((x : ℕ) → x ∈ m → x ∈ l) → sort_by before l ≡ sort_by before m
    sorted_same g = ascends_same orders (sort_by before l) (sort_by before m)
        (sort_by_ascends l p ol) (sort_by_ascends m r om)
        (λ x i. sort_by_to before x m (f x (sort_by_from before x l i)))
        (λ x i. sort_by_to before x l (g x (sort_by_from before x m i)))

    -- their first k are the same if all that m has more goes after the k-th of l
    pub sorted_front : (k : ℕ) → 1 ≤ k → k ≤ length l
        → ((y : ℕ) → y ∈ m → (y ∈ l → ⊥) → before (get_or (sort_by before l) (k - 1) 0) y ≡ true)
        → take k (sort_by before m) ≡ take k (sort_by before l)
    sorted_front zero some h g = absurd (omega arith)
    sorted_front (suc k) some h g = ascends_front orders k (sort_by before l) (sort_by before m) 0
        (omega (arith, sort_by_length before l)) (sort_by_ascends l p ol) (sort_by_ascends m r om)
        (λ x i. sort_by_to before x m (f x (sort_by_from before x l i)))
        (λ y i. more y (sort_by_from before y m i) (∈_decide y l))
      where
        more : (y : ℕ) → y ∈ m → Dec (y ∈ l)
            → y ∈ sort_by before l ⊎ (before (get_or (sort_by before l) k 0) y ≡ true)
        more y i (yes j) = inl (sort_by_to before y l j)
        more y i (no n) = let e : suc k - 1 ≡ k = omega arith in inr (rw e at (g y i n))
