-- Records that wait are taken one after the other, with rows of keys and in the lean work: the rows at the end are the
-- images of the work at its end (`rows_are`). Assumes nothing.
use Prim.Native.Nat.{ℕ, zero, suc, ◌≤◌}
use Rattle.std.specs.Prelude.{◌≡◌, Bool, length}
use Rattle.std.proofs.Math.Path.{refl}
use Rattle.std.proofs.Common.{ap, ◌∙◌}
use Rattle.std.proofs.Math.Bool.{true, false, cond}
use mathlib.Core.List.Memᴰ.{head as first}
use mathlib.Core.List.Memᴰ.{tail as later}
use mathlib.Core.List.{List, [], ◌∷◌, map}
use Rattle.distance.specs.Kind.{apart}
use Rattle.table.specs.Record.{Record, children}
use Rattle.tree.specs.Nearest.{Waiting, is_over}
use Rattle.tree.specs.Nearest.Lean.{Work, work, meets, onward, goes_on, begins}
use Rattle.view.specs.View.{view_of}
use Rattle.waiting.specs.Key.Laws.{key_first, key_slot}
use Rattle.waiting.specs.Front.{State, take_next, finish, start_at}
use Rattle.waiting.specs.Same.{Given, used_slot, key_held, key_waiting, held_of, image_of}
use Rattle.waiting.proofs.Same.Held.{exceeds_is}
use Rattle.waiting.proofs.Same.Steps.{InUse, start_is, start_used, children_are, children_used}

module _ {n : ℕ} {R : ℕ → Record} {root : ℕ} {q : List ℕ} (given : Given n R root q) (kind k : ℕ) (one : 1 ≤ k) where
  abbrev image : Work → State
  image W = image_of R kind q k W

  -- the next is taken, where go and on are the same after it
  next_is : (go : State → State) (on : Work → Work) → ((W : Work) → InUse R W → go (image W) ≡ image (on W))
      → (ws : List Waiting) (cs : List ℕ) → InUse R (work ws cs)
      → take_next R kind q k go (map (key_waiting R kind q k) ws) (image (work ws cs))
      ≡ image (onward (apart kind) (view_of R) q k on cs ws)
  unfolding take_next onward
  next_is go on same [] cs used = refl
  next_is go on same (w ∷ ws) cs used =
      let s = w.slot in
      let slot = used_slot given s (used.waits w (first refl)) in
      let rest : InUse R (work ws cs) = record { waits = λ x i. used.waits x (later i); met = used.met } in
      let then = meets (apart kind) (view_of R) q k w.lower [] (children (R s)) (work ws cs) in
      rw (
        key_first w.lower (R s).timestamp s slot (given.fields s).timestamp,
        key_slot w.lower (R s).timestamp s slot,
        exceeds_is given kind k one cs w.lower used.met,
        children_are given kind k one s w.lower (work ws cs) rest,
        same then (children_used given kind k one s w.lower (work ws cs) rest),
      )
      (by (is_over (apart kind) (view_of R) q k cs w.lower) (work (w ∷ ws) cs) (on then))
    where
      by : (b : Bool) (W X : Work) → cond b (image W) (image X) ≡ image (cond b W X)
      by true W X = refl
      by false W X = refl

  finish_is : (left : ℕ) (W : Work) → InUse R W
      → finish R kind q k left (image W) ≡ image (goes_on (apart kind) (view_of R) q k left W)
  unfolding finish goes_on
  finish_is zero W used = refl
  finish_is (suc left) W used =
      next_is (finish R kind q k left) (goes_on (apart kind) (view_of R) q k left) (finish_is left)
      W.waits W.met used

  -- the rows at the end are the images of the work at its end
  pub rows_are : (left : ℕ) → finish R kind q k left (start_at R kind q k root)
      ≡ image_of R kind q k (goes_on (apart kind) (view_of R) q k left (begins (apart kind) (view_of R) q k root))
  rows_are left =
      ap (finish R kind q k left) (start_is given kind k one)
      ∙ finish_is left (begins (apart kind) (view_of R) q k root) (start_used given kind k one)

  pub rows_held : (left : ℕ) → (finish R kind q k left (start_at R kind q k root)).held
      ≡ map (key_held R kind q k)
      (held_of R kind q k (goes_on (apart kind) (view_of R) q k left (begins (apart kind) (view_of R) q k root)).met)
  rows_held left = ap (λ (S : State). S.held) (rows_are left)

  pub rows_count : (left : ℕ) → (finish R kind q k left (start_at R kind q k root)).count
      ≡ length (goes_on (apart kind) (view_of R) q k left (begins (apart kind) (view_of R) q k root)).met
  rows_count left = ap (λ (S : State). S.count) (rows_are left)
