-- Lists and what their elements are sent to: the first few, and sent on. Assumes nothing.
use Rattle.std.specs.Prelude.{ℕ, zero, suc, ◌≡◌, refl, take}
use Rattle.std.proofs.Common.{ap, ap₂}
use mathlib.Core.List.Memᴰ.{head as first}
use mathlib.Core.List.Memᴰ.{tail as later}
use mathlib.Core.List.{List, [], ◌∷◌, map, Memᴰ}

module _ {A B : Type 0} (f : A → B) where
  pub take_map : (k : ℕ) (l : List A) → take k (map f l) ≡ map f (take k l)
  take_map zero l = refl
  take_map (suc k) [] = refl
  take_map (suc k) (x ∷ l) = ap (f x ∷◌) (take_map k l)

  -- sent on, each element to where h sends it
  pub map_map : {C : Type 0} (g : B → C) (h : A → C) (l : List A)
      → ((y : A) → Memᴰ y l → g (f y) ≡ h y) → map g (map f l) ≡ map h l
  map_map g h [] same = refl
  map_map g h (x ∷ l) same = ap₂ ◌∷◌ (same x (first refl)) (map_map g h l (λ y i. same y (later i)))
