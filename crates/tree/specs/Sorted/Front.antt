-- The first k of a list. Assumes nothing.
use Rattle.std.specs.Prelude.{ℕ, suc, zero, ◌-◌, ◌≤◌, ◌<◌, ◌≡◌, refl, length, get_or, take}
use Rattle.std.proofs.Common.{ap, arith, get_or-take}
use mathlib.Core.List.Memᴰ
use mathlib.Core.List.Memᴰ.{head as first}
use mathlib.Core.List.Memᴰ.{tail as later}
use mathlib.Core.List.{List, [], ◌∷◌, Memᴰ}

module _ {A : Type 0} where
  take_less : (k : ℕ) (l : List A) → take k (take (suc k) l) ≡ take k l
  take_less zero l = refl
  take_less (suc k) [] = refl
  take_less (suc k) (x ∷ l) = ap (x ∷◌) (take_less k l)

  pub take_behind : (k : ℕ) (x : A) (l : List A) → take k (x ∷ take k l) ≡ take k (x ∷ l)
  take_behind zero x l = refl
  take_behind (suc k) x l = ap (x ∷◌) (take_less k l)

  pub take_member : (k : ℕ) (y : A) (l : List A) → Memᴰ y (take k l) → Memᴰ y l
  take_member zero y l i = absurd (Memᴰ.not-nil i)
  take_member (suc k) y [] i = i
  take_member (suc k) y (x ∷ l) (first e) = first e
  take_member (suc k) y (x ∷ l) (later i) = later (take_member k y l i)

  -- the k-th of the first k is the k-th
  pub take_last : (k : ℕ) (l : List A) (o : A) → 1 ≤ k → get_or (take k l) (k - 1) o ≡ get_or l (k - 1) o
  take_last k l o h = get_or-take k l (k - 1) o (omega arith)

  pub get_d_member : (i : ℕ) (l : List A) (o : A) → i < length l → Memᴰ (get_or l i o) l
  get_d_member i [] o h = absurd (omega arith)
  get_d_member zero (x ∷ l) o h = first refl
  get_d_member (suc i) (x ∷ l) o h = later (get_d_member i l o (omega arith))
