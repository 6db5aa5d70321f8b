-- The host has room: the walk ends at a record without a child, or with fewer children than the arity. The key idea:
-- with fuel for every level below, the walk never stops for want of it, so it stops where step 3 says. Assumes nothing.
use Prim.Native.Nat.{ℕ, zero, suc, ◌<◌}
use Rattle.std.specs.Prelude.{◌≡◌, Bool, true, not, ◌⊎◌, ltb}
use Rattle.std.proofs.Math.Path.{refl}
use Rattle.std.proofs.Common.{ap, arith}
use Rattle.std.proofs.Math.Bool.{false}
use Rattle.std.proofs.Math.Logic.{inl, inr}
use mathlib.Core.List.{List, [], ◌∷◌}
use Rattle.std.proofs.Math.ListN.{length}
use borrow.Author.Tests.{ltb-true}
use Rattle.places.specs.Choice.{and_right}
use Rattle.tree.specs.Slots.{◌∈◌, keep}
use Rattle.tree.specs.View.{View, away, here, down, Shallow, Formed, used_count}
use Rattle.tree.specs.View.Shape.{shallow_some, shallow_child}
use Rattle.tree.specs.View.Under.{used_shallow}
use Rattle.tree.specs.Insert.{last, nearest, hangs, onward, path, attach}
use Rattle.tree.proofs.Insert.Path.{nearest_∈}

module _ {Sig : Type 0} (d : Sig → Sig → ℕ) (v : View Sig) (x : Sig) (arity : ℕ) where
  -- a has no child, or fewer than the arity
  abbrev pub Room : ℕ → Type 0
  Room a = (length (v.children a) ≡ 0) ⊎ (length (v.children a) < arity)

  hangs_room : (a c : ℕ) → hangs d v x arity a c ≡ true → length (v.children a) < arity
  unfolding hangs
  hangs_room a c e =
      ltb-true
      (length (v.children a))
      arity
      (and_right (ltb (away d v x a) (away d v x c)) (ltb (length (v.children a)) arity) e)

  -- a walk with fuel starts at its first record
  last_path : (f a b : ℕ) → 0 < f → last b (path d v x arity f a) ≡ last a (path d v x arity f a)
  unfolding path last
  last_path zero a b h = absurd (omega arith)
  last_path (suc f) a b h = refl

  room_onward :
      (f a : ℕ) (l : List ℕ)
      → v.children a ≡ l
      → ((c : ℕ) → c ∈ l → (0 < f) × Room (last c (path d v x arity f c)))
      → Room (last a (onward d v x arity (path d v x arity f) a l))
  unfolding onward last
  room_onward f a [] e go = inl (ap length e)
  room_onward f a (c ∷ l) e go = turn (hangs d v x arity a m) refl
    where
      m : ℕ
      m = nearest d v x c l

      turn :
          (b : Bool)
          → hangs d v x arity a m ≡ b
          → Room (last a (keep (not b) (path d v x arity f m)))
      turn true q = unfold keep last in inr (hangs_room a m q)
      turn false q =
          let z = go m (nearest_∈ d v x c l) in
          unfold keep in rw (last_path f m a z.0) z.1

  room_path : (f a : ℕ) → Shallow v.children f a → Room (last a (path d v x arity f a))
  unfolding path last
  room_path zero a deep = absurd (shallow_some deep)
  room_path (suc f) a deep =
      room_onward f a (v.children a) refl
      (λ c i. (omega (arith, deep 1 c (down i (here refl))), room_path f c (shallow_child deep i)))

  pub attach_room : {n root : ℕ} → Formed v n root → Room (attach d v x arity (used_count v n) root)
  unfolding attach
  attach_room {n} {root} wf =
      room_path (used_count v n) root (used_shallow wf (used_count v n) root wf.root_used (omega arith))
