-- The walk of an insertion: the child taken is a nearest one, and of these the oldest; each record visited is the
-- root or the child taken of another one visited; no record is visited twice, so the distance count is at most the
-- used records. Assumes nothing.
use Prim.Native.Nat.{ℕ, suc, zero, ◌≤◌, ◌<◌}
use Rattle.std.specs.Prelude.{Bool, true, false, ◌≡◌, ◌⊎◌}
use Rattle.std.proofs.Math.Bool.{cond}
use Rattle.std.proofs.Math.Path.{refl}
use Rattle.std.proofs.Math.Logic.{inl, inr}
use mathlib.Core.List.Memᴰ
use mathlib.Core.List.Memᴰ.{head as first}
use mathlib.Core.List.Memᴰ.{tail as later}
use mathlib.Core.List.{List, [], ◌∷◌, flat_map}
use mathlib.Core.List.Sublistᴰ
use Rattle.std.proofs.Common.{arith, ltb-true, ltb-false}
use Rattle.std.proofs.Math.Dec.{ltb}
use Rattle.tree.specs.Slots.{◌∈◌, ◌⊑◌, keep_from, keep_to, keep_part, flat_map_part, Distinct, distinct_part}
use Rattle.places.specs.Cases.{either}
use Rattle.tree.specs.View.{View, Used, away, Rising, Formed, used_count, distance_count, under}
use Rattle.tree.specs.View.Count.{distance_count_at_most}
use Rattle.tree.specs.View.Under.{under_distinct}
use Rattle.tree.specs.Insert.{last, nearest, onward, path, attach}

-- ---- the nearest child

pub cond_∈ : (b : Bool) (y e c : ℕ) (l : List ℕ) → y ∈ (cond b e c ∷ l) → y ∈ (c ∷ e ∷ l)
cond_∈ true y e c l i = later i
cond_∈ false y e c l (first q) = first q
cond_∈ false y e c l (later i) = later (later i)

cond_nearer : (g : ℕ → ℕ) (e c : ℕ) → (g (cond (ltb (g e) (g c)) e c) ≤ g e) × (g (cond (ltb (g e) (g c)) e c) ≤ g c)
cond_nearer g e c = go (ltb (g e) (g c)) refl
  where
    go : (b : Bool) → ltb (g e) (g c) ≡ b → (g (cond b e c) ≤ g e) × (g (cond b e c) ≤ g c)
    go true q = omega (arith, ltb-true (g e) (g c) q)
    go false q = omega (arith, ltb-false (g e) (g c) q)

module _ {Sig : Type 0} (d : Sig → Sig → ℕ) (v : View Sig) (x : Sig) where
  pub nearest_∈ : (c : ℕ) (l : List ℕ) → nearest d v x c l ∈ (c ∷ l)
  unfolding nearest
  nearest_∈ c [] = first refl
  nearest_∈ c (e ∷ l) = let b = ltb (away d v x e) (away d v x c) in cond_∈ b _ e c l (nearest_∈ (cond b e c) l)

  -- none is nearer
  pub nearest_least : (c : ℕ) (l : List ℕ) (y : ℕ) → y ∈ (c ∷ l) → away d v x (nearest d v x c l) ≤ away d v x y
  unfolding nearest
  nearest_least c [] y i = rw (Memᴰ.eq_of_singleton i) (omega arith)
  nearest_least c (e ∷ l) y i =
      let m = cond (ltb (away d v x e) (away d v x c)) e c in
      from m (cond_nearer (away d v x) e c) (nearest_least m l m (first refl)) (nearest_least m l y) i
    where
      from : (m : ℕ) → (away d v x m ≤ away d v x e) × (away d v x m ≤ away d v x c)
          → away d v x (nearest d v x m l) ≤ away d v x m
          → (y ∈ (m ∷ l) → away d v x (nearest d v x m l) ≤ away d v x y)
          → y ∈ (c ∷ e ∷ l) → away d v x (nearest d v x m l) ≤ away d v x y
      from m g h k (first q) = rw q (omega arith)
      from m g h k (later (first q)) = rw q (omega arith)
      from m g h k (later (later j)) = k (later j)

  -- of those equally near it is the oldest
  pub nearest_oldest : (c : ℕ) (l : List ℕ) → Rising v.timestamp (c ∷ l) → (y : ℕ) → y ∈ (c ∷ l)
      → away d v x y ≡ away d v x (nearest d v x c l) → v.timestamp (nearest d v x c l) ≤ v.timestamp y
  unfolding nearest
  nearest_oldest c [] ris y i h = rw (Memᴰ.eq_of_singleton i) (omega arith)
  nearest_oldest c (e ∷ l) ris y i h =
      go (ltb (away d v x e) (away d v x c)) refl (λ m rs z j k. nearest_oldest m l rs z j k) i h
    where
      beside : Rising v.timestamp (c ∷ l)
      beside = (λ z j. ris.0 z (later j), ris.1.1)

      go : (b : Bool) → ltb (away d v x e) (away d v x c) ≡ b
          → ((m : ℕ) → Rising v.timestamp (m ∷ l) → (z : ℕ) → z ∈ (m ∷ l)
          → away d v x z ≡ away d v x (nearest d v x m l) → v.timestamp (nearest d v x m l) ≤ v.timestamp z)
          → y ∈ (c ∷ e ∷ l) → away d v x y ≡ away d v x (nearest d v x (cond b e c) l)
          → v.timestamp (nearest d v x (cond b e c) l) ≤ v.timestamp y
      go true q k (first f) h =
          let g : away d v x c ≡ away d v x (nearest d v x e l) = rw f at h in
          absurd (omega (arith, g, nearest_least e l e (first refl), ltb-true (away d v x e) (away d v x c) q))
      go true q k (later j) h = k e ris.1 y j h
      go false q k (first f) h = k c beside y (first f) h
      go false q k (later (first f)) h =
          let g : away d v x e ≡ away d v x (nearest d v x c l) = rw f at h in
          let near = nearest_least c l c (first refl) in
          let far = ltb-false (away d v x e) (away d v x c) q in
          rw f (omega (arith, k c beside c (first refl) (omega arith), ris.0 e (first refl)))
      go false q k (later (later j)) h = k c beside y (later j) h

-- ---- the records visited

pub last_∈ : (a : ℕ) (l : List ℕ) → last a l ∈ (a ∷ l)
unfolding last
last_∈ a [] = first refl
last_∈ a (b ∷ l) = later (last_∈ b l)

module _ {Sig : Type 0} (d : Sig → Sig → ℕ) (v : View Sig) (x : Sig) (arity : ℕ) where
  onward_from : (go : ℕ → List ℕ) (a b : ℕ) (l : List ℕ) → b ∈ onward d v x arity go a l
      → (c : ℕ) × c ∈ l × ((e : ℕ) → e ∈ l → away d v x c ≤ away d v x e) × b ∈ go c
      × ((y : ℕ) → y ∈ go c → y ∈ onward d v x arity go a l)
  unfolding onward
  onward_from go a b [] i = absurd (Memᴰ.not-nil i)
  onward_from go a b (c ∷ l) i =
      let z = keep_from _ b _ i in
      (nearest d v x c l, nearest_∈ d v x c l, nearest_least d v x c l, z.1, λ y j. keep_to _ y _ z.0 j)

  -- each record visited is the first, or a nearest child of another one visited
  pub path_from : (f r b : ℕ) → b ∈ path d v x arity f r → (b ≡ r)
      ⊎ ((a : ℕ) × a ∈ path d v x arity f r × b ∈ v.children a
      × ((c : ℕ) → c ∈ v.children a → away d v x b ≤ away d v x c))
  unfolding path
  path_from zero r b i = absurd (Memᴰ.not-nil i)
  path_from (suc f) r b (first e) = inl e
  path_from (suc f) r b (later i) =
      let z = onward_from (path d v x arity f) r b (v.children r) i in
      either (path_from f z.0 b z.3)
      (λ e. inr (r, first refl, Memᴰ.cast e z.1, λ c j. rw e (z.2 c j)))
      (λ w. inr (w.0, later (z.4 w.0 w.1), w.2, w.3))

  pub attach_∈ : (f root : ℕ) → 0 < f → attach d v x arity f root ∈ path d v x arity f root
  unfolding attach path last
  attach_∈ zero root h = absurd (omega arith)
  attach_∈ (suc f) root h = last_∈ root (onward d v x arity (path d v x arity f) root (v.children root))

  -- what is visited stands at or below the first, in the order of the whole tree
  onward_part : (go : ℕ → List ℕ) (u : ℕ → List ℕ) (a : ℕ) (l : List ℕ) → ((c : ℕ) → go c ⊑ u c)
      → onward d v x arity go a l ⊑ flat_map u l
  unfolding onward
  onward_part go u a [] f = Sublistᴰ.nil-sublist (flat_map u [])
  onward_part go u a (c ∷ l) f =
      let near = nearest d v x c l in
      keep_part _ (Sublistᴰ.trans (f near) (flat_map_part u near (c ∷ l) (nearest_∈ d v x c l)))

  pub path_part : (f a : ℕ) → path d v x arity f a ⊑ under v.children f a
  unfolding path under
  path_part zero a = Sublistᴰ.slnil
  path_part (suc f) a = Sublistᴰ.cons-cons refl
      (onward_part (path d v x arity f) (under v.children f) a (v.children a) (path_part f))

  -- ---- in a well-formed table

  module _ {n root : ℕ} (wf : Formed v n root) (f : ℕ) where
    pub path_used : (a : ℕ) → a ∈ path d v x arity f root → Used v a
    path_used a i = either (path_from f root a i) (λ e. rw e wf.root_used) (λ w. wf.child_used w.0 a w.2)

    pub path_distinct : Distinct (path d v x arity f root)
    path_distinct = distinct_part (path_part f root) (under_distinct wf f root)

    pub path_count : distance_count v (path d v x arity f root) ≤ used_count v n
    path_count = distance_count_at_most wf (path d v x arity f root) path_distinct

    pub attach_used : 0 < f → Used v (attach d v x arity f root)
    attach_used h = path_used (attach d v x arity f root) (attach_∈ f root h)
