-- Lists and the numbers that their elements are sent to: putting in order, and reading one. Assumes nothing.
use Rattle.std.specs.Prelude.{ℕ, zero, suc, ◌<◌, ◌≡◌, Bool, ltb, length, get_or}
use Rattle.std.proofs.Math.Path.{refl, ap}
use Rattle.std.proofs.Math.Bool.{true, false, cond}
use mathlib.Core.List.Memᴰ.{head as first}
use mathlib.Core.List.Memᴰ.{tail as later}
use mathlib.Core.List.{List, [], ◌∷◌, map, Memᴰ}
use Rattle.std.proofs.Common.{arith}
use Rattle.order.specs.Order.{put_among}
use Rattle.tree.specs.Sorted.{put_by}

module _ {A : Type 0} (f : A → ℕ) where
  -- where the numbers compare as the elements do, putting in order is the same
  pub put_map : (before : A → A → Bool) (x : A) (l : List A)
      → ((y : A) → Memᴰ y l → ltb (f y) (f x) ≡ before y x)
      → put_among (f x) (map f l) ≡ map f (put_by before x l)
  unfolding put_among put_by
  put_map before x [] same = refl
  put_map before x (y ∷ l) same =
      rw (same y (first refl)) (go (before y x) (put_map before x l (λ z i. same z (later i))))
    where
      go : (b : Bool) → put_among (f x) (map f l) ≡ map f (put_by before x l)
          → cond b (f y ∷ put_among (f x) (map f l)) (f x ∷ f y ∷ map f l)
          ≡ map f (cond b (y ∷ put_by before x l) (x ∷ y ∷ l))
      go true rest = ap (f y ∷◌) rest
      go false rest = refl

  -- what is read of the numbers is what is read of the elements, place by place
  pub read_map : (g : ℕ → ℕ) (h : A → ℕ) (l : List A) (i : ℕ) (o : A)
      → ((y : A) → Memᴰ y l → g (f y) ≡ h y) → i < length l
      → g (get_or (map f l) i 0) ≡ h (get_or l i o)
  read_map g h [] i o same b = absurd (omega arith)
  read_map g h (x ∷ l) zero o same b = same x (first refl)
  read_map g h (x ∷ l) (suc i) o same b = read_map g h l i o (λ y m. same y (later m)) (omega arith)
