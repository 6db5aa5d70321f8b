-- The walk of an insertion looks only at what it can reach: two views that agree on a set of slots, closed under
-- children, have the same walk from each of them (`path_same`), at the same count (`count_same`). Assumes nothing.
use Prim.Native.Nat.{ℕ, suc, zero, ◌+◌}
use Rattle.std.proofs.Math.Bool.{cond}
use Rattle.std.specs.Prelude.{not, ◌≡◌, ltb}
use Rattle.std.proofs.Math.Path.{refl, ap, ap₂}
use Rattle.std.proofs.Common.{◌∙◌}
use mathlib.Core.List.Memᴰ
use mathlib.Core.List.Memᴰ.{head as first}
use mathlib.Core.List.Memᴰ.{tail as later}
use mathlib.Core.List.{List, [], ◌∷◌}
use Rattle.std.proofs.Math.ListN.{length}
use Rattle.tree.specs.Slots.{◌∈◌, keep_from}
use Rattle.tree.specs.View.{View, away, child_counts, distance_count}
use Rattle.tree.specs.Insert.{nearest, hangs, onward, path}
use Rattle.tree.proofs.Insert.Path.{cond_∈, nearest_∈}

module _ {Sig : Type 0} (d : Sig → Sig → ℕ) (v w : View Sig) (x : Sig) (arity : ℕ) (In : ℕ → Type 0)
    (closed : (a b : ℕ) → In a → b ∈ v.children a → In b)
    (same_children : (a : ℕ) → In a → w.children a ≡ v.children a)
    (same_signature : (a : ℕ) → In a → w.signature a ≡ v.signature a)
  where
    away_same : (a : ℕ) → In a → away d w x a ≡ away d v x a
    away_same a i = ap (λ (s : Sig). d s x) (same_signature a i)

    nearest_same : (c : ℕ) (l : List ℕ) → ((y : ℕ) → y ∈ (c ∷ l) → In y) → nearest d w x c l ≡ nearest d v x c l
    unfolding nearest
    nearest_same c [] h = refl
    nearest_same c (e ∷ l) h =
        let old = cond (ltb (away d v x e) (away d v x c)) e c in
        let chosen : cond (ltb (away d w x e) (away d w x c)) e c ≡ old =
        ap₂
        (λ (m n : ℕ). cond (ltb m n) e c)
        (away_same e (h e (later (first refl))))
        (away_same c (h c (first refl))) in
        ap (λ (m : ℕ). nearest d w x m l) chosen
        ∙ nearest_same old l (λ y i. h y (cond_∈ (ltb (away d v x e) (away d v x c)) y e c l i))

    hangs_same : (a c : ℕ) → In a → In c → hangs d w x arity a c ≡ hangs d v x arity a c
    unfolding hangs
    hangs_same a c i j = rw (away_same a i, away_same c j, same_children a i)

    onward_same :
        (f a : ℕ) (l : List ℕ) → In a → ((y : ℕ) → y ∈ l → In y)
        → ((y : ℕ) → In y → path d w x arity f y ≡ path d v x arity f y)
        → onward d w x arity (path d w x arity f) a l ≡ onward d v x arity (path d v x arity f) a l
    unfolding onward
    onward_same f a [] i h rest = refl
    onward_same f a (c ∷ l) i h rest =
        let near = nearest_same c l h in
        let there = h (nearest d v x c l) (nearest_∈ d v x c l) in
        rw (near, hangs_same a (nearest d v x c l) i there, rest (nearest d v x c l) there)

    pub path_same : (f a : ℕ) → In a → path d w x arity f a ≡ path d v x arity f a
    unfolding path
    path_same zero a i = refl
    path_same (suc f) a i =
        ap
        (λ (l : List ℕ). a ∷ l)
        (ap (λ (l : List ℕ). onward d w x arity (path d w x arity f) a l) (same_children a i)
        ∙ onward_same f a (v.children a) i (λ y j. closed a y i j) (λ y j. path_same f y j))

    onward_in :
        (f a : ℕ) (l : List ℕ) → ((y : ℕ) → y ∈ l → In y)
        → ((c y : ℕ) → In c → y ∈ path d v x arity f c → In y)
        → (y : ℕ) → y ∈ onward d v x arity (path d v x arity f) a l → In y
    unfolding onward
    onward_in f a [] h rest y i = absurd (Memᴰ.not-nil i)
    onward_in f a (c ∷ l) h rest y i =
        let near = nearest d v x c l in
        rest near y (h near (nearest_∈ d v x c l))
        (keep_from (not (hangs d v x arity a near)) y (path d v x arity f near) i).1

    -- the walk stays in the set
    pub path_in : (f a y : ℕ) → In a → y ∈ path d v x arity f a → In y
    unfolding path
    path_in zero a y i j = absurd (Memᴰ.not-nil j)
    path_in (suc f) a y i (first e) = rw e i
    path_in (suc f) a y i (later j) =
        onward_in f a (v.children a) (λ b k. closed a b i k) (λ c z k m. path_in f c z k m) y j

    counts_same : (p : List ℕ) → ((y : ℕ) → y ∈ p → In y) → child_counts w p ≡ child_counts v p
    unfolding child_counts
    counts_same [] h = refl
    counts_same (a ∷ p) h =
        ap₂
        (λ (m n : ℕ). m + n)
        (ap length (same_children a (h a (first refl))))
        (counts_same p (λ y i. h y (later i)))

    pub count_same : (p : List ℕ) → ((y : ℕ) → y ∈ p → In y) → distance_count w p ≡ distance_count v p
    unfolding distance_count
    count_same p h = ap (λ (m : ℕ). 1 + m) (counts_same p h)
