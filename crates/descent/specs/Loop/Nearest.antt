-- Loop: the scan for the nearest child (`scanned`): of some children it gives the one that the definition calls
-- nearest, with its distance (`scanned_nearest`; `scanned_over` from a start that is farther). Assumes nothing.
use Prim.Native.Nat.{ℕ, ◌+◌, ◌≤◌, ◌<◌}
use Rattle.std.specs.Prelude.{Bool, Option, Some, None, MatchOption, IsTrue, cond, ◌≡◌, get_or, drop}
use Rattle.std.proofs.Math.Bool.{true, false}
use Rattle.std.proofs.Math.Path.{refl}
use Rattle.std.proofs.Common.{add-one, drop-cons, drop_of_length-le}
use mathlib.Core.List.{List, [], ◌∷◌}
use Rattle.std.proofs.Math.Dec.{ltb}
use Rattle.std.proofs.Math.ListN.{length}
use borrow.Author.Tests.{lt-ltb}
use Rattle.places.specs.Choice.{pick}
use Rattle.tree.specs.View.{View, away}
use Rattle.tree.specs.Insert.{nearest}
use Rattle.descent.specs.declared.Near.{Near}

-- a record and its distance
abbrev pub near : ℕ → ℕ → Near
near c e = record { slot = c; away = e }

-- b, at its distance by g, where it is the first or nearer than the nearest before it
unfoldable pub nearer : (ℕ → ℕ) → Option Near → ℕ → Option Near
nearer g None b = Some (near b (g b))
nearer g (Some m) b = pick (ltb (g b) m.away) (Some (near b (g b))) (Some m)

-- the nearest so far is m, and these are left
unfoldable pub scanned : (ℕ → ℕ) → Option Near → List ℕ → Option Near
scanned g m [] = m
scanned g m (b ∷ l) = scanned g (nearer g m b) l

-- ---- the scan, child by child

pub scanned_more :
    (g : ℕ → ℕ) (m : Option Near) (k : ℕ) (l : List ℕ)
    → k < length l
    → scanned g m (drop k l) ≡ scanned g (nearer g m (get_or l k 0)) (drop (k + 1) l)
unfolding scanned
scanned_more g m k l h = rw (drop-cons l k 0 h, add-one k)

drop_past : (k : ℕ) (l : List ℕ) → length l ≤ k → drop k l ≡ []
drop_past k l h = drop_of_length-le l {i = k} h

pub scanned_end : (g : ℕ → ℕ) (m : Option Near) (k : ℕ) (l : List ℕ) → length l ≤ k → scanned g m (drop k l) ≡ m
unfolding scanned
scanned_end g m k l h = rw (drop_past k l h)

-- as the code takes it: b at the distance e, where it took b
pub nearer_is :
    (g : ℕ → ℕ) (m : Option Near) (b e : ℕ) (took : Bool)
    → e ≡ g b
    → MatchOption m (IsTrue took) (λ p. took ≡ ltb e p.away)
    → pick took (Some (near b e)) m ≡ nearer g m b
unfolding nearer
nearer_is g None b e took far h = rw (h, far) refl
nearer_is g (Some p) b e took far h = rw (h, far) refl

-- ---- what it gives

pub scanned_none : (g : ℕ → ℕ) → scanned g None [] ≡ None
unfolding scanned
scanned_none g = refl

module _ {Sig : Type 0} (d : Sig → Sig → ℕ) (v : View Sig) (x : Sig) where
  -- the nearest of c and these, with its distance
  abbrev pub nearest_of : ℕ → List ℕ → Near
  nearest_of c l = near (nearest d v x c l) (away d v x (nearest d v x c l))

  scanned_is : (c : ℕ) (l : List ℕ) → scanned (away d v x) (Some (near c (away d v x c))) l ≡ Some (nearest_of c l)
  unfolding scanned nearer nearest
  scanned_is c [] = refl
  scanned_is c (b ∷ l) = go (ltb (away d v x b) (away d v x c)) (scanned_is b l) (scanned_is c l)
    where
      go :
          (t : Bool)
          → scanned (away d v x) (Some (near b (away d v x b))) l ≡ Some (nearest_of b l)
          → scanned (away d v x) (Some (near c (away d v x c))) l ≡ Some (nearest_of c l)
          → scanned (away d v x) (pick t (Some (near b (away d v x b))) (Some (near c (away d v x c)))) l
          ≡ Some (nearest_of (cond t b c) l)
      go true p q = p
      go false p q = q

  pub scanned_nearest : (c : ℕ) (l : List ℕ) → scanned (away d v x) None (c ∷ l) ≡ Some (nearest_of c l)
  unfolding scanned nearer
  scanned_nearest c l = scanned_is c l

  -- a start above the first child's distance is passed over
  pub scanned_over :
      (a e c : ℕ) (l : List ℕ)
      → away d v x c < e
      → scanned (away d v x) (Some (near a e)) (c ∷ l) ≡ Some (nearest_of c l)
  unfolding scanned nearer
  scanned_over a e c l h =
      let t : ltb (away d v x c) e ≡ true = lt-ltb (away d v x c) e h in
      rw t (scanned_is c l)
