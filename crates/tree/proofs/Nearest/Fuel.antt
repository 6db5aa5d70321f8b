-- Fuel for the used records is fuel enough: more changes nothing, so `taken` obeys the paper's text with no word of
-- fuel (`taken_obeys`), and what obeys it is this list (`taken_only`). Assumes nothing.
use Prim.Native.Nat.{ℕ, suc, zero, ◌+◌, ◌≤◌}
use Rattle.std.specs.Prelude.{Bool, true, false, cond, ◌≡◌, length}
use Rattle.std.proofs.Common.{true≢false, sym, ◌∙◌, arith}
use Rattle.std.proofs.Math.Path.{refl}
use mathlib.Core.List.Memᴰ.{head as first}
use mathlib.Core.List.Memᴰ.{tail as later}
use mathlib.Core.List.{List, [], ◌∷◌}
use Rattle.tree.specs.Slots.{◌∈◌, Distinct}
use Rattle.tree.specs.View.{View, Used, Formed, used_count, compared, distance_count}
use Rattle.tree.specs.View.Count.{compared_used, used_at_most}
use Rattle.tree.specs.Nearest.{Waiting, wait, is_over, at_first, Takes, none_waits, over, takes, taken_from, taken}
use Rattle.tree.proofs.Nearest.Once.{Going, going_first, going_on, next_used, next_new}
use Rattle.tree.proofs.Nearest.Once.{takes_distinct, takes_used, takes_compared_distinct, takes_count}

module _ {Sig : Type 0} (d : Sig → Sig → ℕ) (v : View Sig) (q : Sig) (k root : ℕ) where
  -- the paper's text has one end
  pub takes_one : {ws : List Waiting} {ts us vs : List ℕ} → Takes d v q k root ws ts us → Takes d v q k root ws ts vs
      → us ≡ vs
  takes_one none_waits none_waits = refl
  takes_one (over e) (over f) = refl
  takes_one (over e) (takes f t) = absurd (true≢false (sym e ∙ f))
  takes_one (takes e t) (over f) = absurd (true≢false (sym f ∙ e))
  takes_one (takes e t) (takes f u) = takes_one t u

module _ {Sig : Type 0} (d : Sig → Sig → ℕ) {v : View Sig} (q : Sig) (k : ℕ) {n root : ℕ} (wf : Formed v n root) where
  -- where one waits, fewer than the used records were taken
  still_one : {w : Waiting} {ws : List Waiting} {ts : List ℕ} → Going v root (w ∷ ws) ts
      → suc (length ts) ≤ used_count v n
  still_one {w} {ts = ts} g = used_at_most wf (w.slot ∷ ts) (next_new d q wf g, g.taken_once) each
    where
      each : (a : ℕ) → a ∈ (w.slot ∷ ts) → Used v a
      each a (first e) = rw e (next_used d q wf g)
      each a (later i) = compared_used wf ts a (g.taken_met a i)

  taken_from_obeys : (f : ℕ) (ws : List Waiting) (ts : List ℕ) → Going v root ws ts → used_count v n ≤ f + length ts
      → Takes d v q k root ws ts (taken_from d v q k root f ws ts)
  unfolding taken_from
  taken_from_obeys zero [] ts g h = none_waits
  taken_from_obeys zero (w ∷ ws) ts g h = absurd (omega (arith, still_one g))
  taken_from_obeys (suc f) [] ts g h = none_waits
  taken_from_obeys (suc f) (w ∷ ws) ts g h = go (is_over d v q k (compared v root ts) w.lower) refl
      (taken_from_obeys f (wait d v q w.lower [] (v.children w.slot) ws) (w.slot ∷ ts) (going_on d q wf g)
      (omega arith))
    where
      more : List ℕ
      more = taken_from d v q k root f (wait d v q w.lower [] (v.children w.slot) ws) (w.slot ∷ ts)

      go : (b : Bool) → is_over d v q k (compared v root ts) w.lower ≡ b
          → Takes d v q k root (wait d v q w.lower [] (v.children w.slot) ws) (w.slot ∷ ts) more
          → Takes d v q k root (w ∷ ws) ts (cond b ts more)
      go true e t = over e
      go false e t = takes e t

  -- ---- the list taken

  fuel_obeys : (f : ℕ) → used_count v n ≤ f
      → Takes d v q k root (at_first d v q k root) [] (taken_from d v q k root f (at_first d v q k root) [])
  fuel_obeys f h = taken_from_obeys f (at_first d v q k root) [] (going_first d q wf k) (omega arith)

  pub taken_obeys : Takes d v q k root (at_first d v q k root) [] (taken d v q k root n)
  taken_obeys = fuel_obeys (used_count v n) (omega arith)

  pub taken_only : (us : List ℕ) → Takes d v q k root (at_first d v q k root) [] us → us ≡ taken d v q k root n
  taken_only us t = takes_one d v q k root t taken_obeys

  pub taken_fuel : (f : ℕ) → used_count v n ≤ f
      → taken_from d v q k root f (at_first d v q k root) [] ≡ taken d v q k root n
  taken_fuel f h = taken_only _ (fuel_obeys f h)

  pub taken_distinct : Distinct (taken d v q k root n)
  taken_distinct = takes_distinct d q k wf taken_obeys

  pub taken_used : (a : ℕ) → a ∈ taken d v q k root n → Used v a
  taken_used a i = takes_used d q k wf taken_obeys a i

  -- that each of them is used is `compared_used` of View.Count
  pub taken_compared_distinct : Distinct (compared v root (taken d v q k root n))
  taken_compared_distinct = takes_compared_distinct d q k wf taken_obeys

  pub taken_count : distance_count v (taken d v q k root n) ≤ used_count v n
  taken_count = takes_count d q k wf taken_obeys
