-- The lean work against the paper's: those that wait are the paper's with idle ones left out. So it stays when one more
-- is compared, which waits in both or in the paper's alone. Assumes nothing.
use Rattle.std.specs.Prelude.{ℕ, ◌≤◌, Bool, ◌||◌, ◌≡◌, eqb, length}
use Rattle.std.proofs.Math.Bool.{true, false, cond}
use Rattle.std.proofs.Common.{true≢false, sym, ◌∙◌}
use Rattle.std.proofs.Math.Path.{refl}
use mathlib.Core.List.Memᴰ.{head as first}
use mathlib.Core.List.Memᴰ.{tail as later}
use mathlib.Core.List.{List, [], ◌∷◌, Memᴰ}
use Rattle.tree.specs.Slots.{◌∈◌, Distinct}
use Rattle.tree.specs.Sorted.{put_by}
use Rattle.tree.specs.Sorted.Laws.{Ascends}
use Rattle.tree.specs.View.{View, Used, Formed}
use Rattle.tree.specs.Nearest.{Waiting, waiting, lower_bound, sooner, is_over, wait}
use Rattle.tree.proofs.Nearest.Order.{sooner_orders}
use Rattle.tree.proofs.Nearest.Wait.{InRow, slots, put_row, put_from}
use Rattle.tree.specs.Nearest.Lean.{Work, is_idle, meet, meets}
use Rattle.tree.proofs.Nearest.Lean.Over.{over_more}

-- xs are ws with some left out that are idle, where those of cs were compared
pub data Leaner {Sig : Type 0} (d : Sig → Sig → ℕ) (v : View Sig) (q : Sig) (k : ℕ) (cs : List ℕ)
    : List Waiting → List Waiting → Type 0 where
  none : Leaner d v q k cs [] []
  both : {w : Waiting} {xs ws : List Waiting} → Leaner d v q k cs xs ws → Leaner d v q k cs (w ∷ xs) (w ∷ ws)
  only : {w : Waiting} {xs ws : List Waiting} → is_idle d v q k cs w ≡ true → Leaner d v q k cs xs ws
      → Leaner d v q k cs xs (w ∷ ws)

-- how far both have come: W is the lean work, and ws wait in the paper's
pub record AsFar {Sig : Type 0} (d : Sig → Sig → ℕ) (v : View Sig) (q : Sig) (k : ℕ) (W : Work) (ws : List Waiting)
    : Type 0 where
  pub once : Distinct W.met
  pub used : (a : ℕ) → a ∈ W.met → Used v a
  pub row : InRow v ws
  pub waits_met : (a : ℕ) → a ∈ slots ws → a ∈ W.met
  pub leaner : Leaner d v q k W.met W.waits ws

module _ {Sig : Type 0} (d : Sig → Sig → ℕ) {v : View Sig} (q : Sig) (k : ℕ) where
  pub leaner_∈ : {cs : List ℕ} {xs ws : List Waiting} (x : Waiting) → Leaner d v q k cs xs ws → Memᴰ x xs
      → Memᴰ x ws
  leaner_∈ x none i = i
  leaner_∈ x (both l) (first e) = first e
  leaner_∈ x (both l) (later i) = later (leaner_∈ x l i)
  leaner_∈ x (only e l) i = later (leaner_∈ x l i)

  -- with more compared, if those stay idle that are
  leaner_more : {cs ds : List ℕ} {xs ws : List Waiting}
      → ((w : Waiting) → is_idle d v q k cs w ≡ true → is_idle d v q k ds w ≡ true)
      → Leaner d v q k cs xs ws → Leaner d v q k ds xs ws
  leaner_more f none = none
  leaner_more f (both l) = both (leaner_more f l)
  leaner_more f (only {w = w} e l) = only (f w e) (leaner_more f l)

  -- an idle one waits in the paper's alone
  put_only : {cs : List ℕ} {xs ws : List Waiting} (x : Waiting) → is_idle d v q k cs x ≡ true
      → Leaner d v q k cs xs ws → Leaner d v q k cs xs (put_by (sooner v) x ws)
  unfolding put_by
  put_only x idle none = only idle none
  put_only {cs} x idle (both {w = w} {xs = xs} {ws = ws} l) = go (sooner v w x) (put_only x idle l)
    where
      go : (t : Bool) → Leaner d v q k cs xs (put_by (sooner v) x ws)
          → Leaner d v q k cs (w ∷ xs) (cond t (w ∷ put_by (sooner v) x ws) (x ∷ w ∷ ws))
      go true rest = both rest
      go false rest = only idle (both l)
  put_only {cs} x idle (only {w = w} {xs = xs} {ws = ws} e l) = go (sooner v w x) (put_only x idle l)
    where
      go : (t : Bool) → Leaner d v q k cs xs (put_by (sooner v) x ws)
          → Leaner d v q k cs xs (cond t (w ∷ put_by (sooner v) x ws) (x ∷ w ∷ ws))
      go true rest = only e rest
      go false rest = only idle (only e l)

  module _ {n root : ℕ} (wf : Formed v n root) where
    -- x goes to the front where it goes before one after which all of xs go
    put_front : (x w : Waiting) (xs : List Waiting) → ((y : Waiting) → Memᴰ y xs → sooner v w y ≡ true)
        → sooner v w x ≡ false → put_by (sooner v) x xs ≡ x ∷ xs
    unfolding put_by
    put_front x w [] after e = refl
    put_front x w (y ∷ xs) after e = go (sooner v y x) refl
      where
        go : (t : Bool) → sooner v y x ≡ t → cond t (y ∷ put_by (sooner v) x xs) (x ∷ y ∷ xs) ≡ x ∷ y ∷ xs
        go true f =
            absurd (true≢false (sym ((sooner_orders v wf).through w y x (after y (first refl)) f) ∙ e))
        go false f = refl

    -- any waits in both
    put_both : {cs : List ℕ} {xs ws : List Waiting} (x : Waiting) → Ascends (sooner v) ws → Leaner d v q k cs xs ws
        → Leaner d v q k cs (put_by (sooner v) x xs) (put_by (sooner v) x ws)
    unfolding put_by
    put_both x s none = both none
    put_both {cs} x s (both {w = w} {xs = xs} {ws = ws} l) = go (sooner v w x) (put_both x s.1 l)
      where
        go : (t : Bool) → Leaner d v q k cs (put_by (sooner v) x xs) (put_by (sooner v) x ws)
            → Leaner d v q k cs (cond t (w ∷ put_by (sooner v) x xs) (x ∷ w ∷ xs))
            (cond t (w ∷ put_by (sooner v) x ws) (x ∷ w ∷ ws))
        go true rest = both rest
        go false rest = both (both l)
    put_both {cs} x s (only {w = w} {xs = xs} {ws = ws} e l) = go (sooner v w x) refl (put_both x s.1 l)
      where
        go : (t : Bool) → sooner v w x ≡ t → Leaner d v q k cs (put_by (sooner v) x xs) (put_by (sooner v) x ws)
            → Leaner d v q k cs (put_by (sooner v) x xs) (cond t (w ∷ put_by (sooner v) x ws) (x ∷ w ∷ ws))
        go true f rest = only e rest
        go false f rest = rw (put_front x w xs (λ y i. s.0 y (leaner_∈ y l i)) f) (both (only e l))

    -- ---- one more is compared

    module _ (some : 1 ≤ k) where
      idle_more : (cs : List ℕ) → Distinct cs → ((a : ℕ) → a ∈ cs → Used v a) → (b : ℕ) (w : Waiting)
          → is_idle d v q k cs w ≡ true → is_idle d v q k (b ∷ cs) w ≡ true
      unfolding is_idle
      idle_more cs once used b w e = go (eqb (length (v.children w.slot)) 0) e
        where
          go : (t : Bool) → t || is_over d v q k cs w.lower ≡ true → t || is_over d v q k (b ∷ cs) w.lower ≡ true
          go true f = refl
          go false f = over_more d q k wf some cs once used b w.lower f

      pub meet_far : (x : Waiting) (W : Work) (ws : List Waiting) → Used v x.slot → (x.slot ∈ W.met → ⊥)
          → AsFar d v q k W ws → AsFar d v q k (meet d v q k x W) (put_by (sooner v) x ws)
      unfolding meet
      meet_far x W ws u new far = record {
        once = (new, far.once);
        used = used;
        row = put_row v wf x ws u (λ i. new (far.waits_met x.slot i)) far.row;
        waits_met = λ a i. waits_met a (put_from v x a ws i);
        leaner = leaner (is_idle d v q k (x.slot ∷ W.met) x) refl;
      }
        where
          used : (a : ℕ) → a ∈ x.slot ∷ W.met → Used v a
          used a (first e) = rw e u
          used a (later i) = far.used a i

          waits_met : (a : ℕ) → a ∈ x.slot ∷ slots ws → a ∈ x.slot ∷ W.met
          waits_met a (first e) = first e
          waits_met a (later i) = later (far.waits_met a i)

          more : Leaner d v q k (x.slot ∷ W.met) W.waits ws
          more = leaner_more (idle_more W.met far.once far.used x.slot) far.leaner

          leaner : (t : Bool) → is_idle d v q k (x.slot ∷ W.met) x ≡ t
              → Leaner d v q k (x.slot ∷ W.met) (cond t W.waits (put_by (sooner v) x W.waits))
              (put_by (sooner v) x ws)
          leaner true e = put_only x e more
          leaner false e = put_both x far.row.ascends more

      -- the children bs of a record with the bound p
      pub meets_far : (p : ℕ) (os bs : List ℕ) (W : Work) (ws : List Waiting) → Distinct bs
          → ((b : ℕ) → b ∈ bs → Used v b) → ((b : ℕ) → b ∈ bs → b ∈ W.met → ⊥) → AsFar d v q k W ws
          → AsFar d v q k (meets d v q k p os bs W) (wait d v q p os bs ws)
      unfolding meets wait
      meets_far p os [] W ws once u new far = far
      meets_far p os (b ∷ bs) W ws once u new far =
          meets_far p (b ∷ os) bs _ _ once.1 (λ c i. u c (later i)) (unfold meet in still)
          (meet_far (waiting b (lower_bound d v q p os b)) W ws (u b (first refl)) (new b (first refl)) far)
        where
          still : (c : ℕ) → c ∈ bs → c ∈ b ∷ W.met → ⊥
          still c i (first e) = once.0 (rw e at i)
          still c i (later j) = new c (later i) j
