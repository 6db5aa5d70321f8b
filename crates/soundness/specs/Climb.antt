-- The route that the code takes to soundness: from each used record x up to the root by the parent links, so that each
-- record above x is looked at once; and the laws that a turn of the code uses. `Route` shows that it says what the
-- paper's words say. Assumes nothing.
use Prim.Native.Nat.{ℕ, zero, suc, ◌≤◌, ◌<◌}
use Rattle.std.specs.Prelude.{◌≡◌, Bool, true, false, ◌&&◌, not, List, leb, ltb, eqb}
use Rattle.std.proofs.Math.Path.{refl, sym, ap}
use Rattle.std.proofs.Common.{◌∙◌, arith}
use borrow.Author.Tests.{lt-ltb, le-ltb, le-leb, lt-leb, eq-eqb, ne_eqb}
use Rattle.places.specs.Choice.{implies}
use Rattle.places.specs.Test.{all_to}
use Rattle.distance.specs.Kind.{apart}
use Rattle.table.specs.Record.{Record, used, slot, no_slot}

-- ---- the route: x has the signature q and the timestamp t

module _ (R : ℕ → Record) (kind : ℕ) (q : List ℕ) (t : ℕ) where
  -- how far x is from slot b
  abbrev pub away : ℕ → ℕ
  away b = apart kind q (R b).readings

  -- if c is older than x, x is no farther from b than from c
  abbrev pub sibling_passes : ℕ → ℕ → Bool
  sibling_passes b c = implies (ltb (R c).timestamp t) (leb (away b) (away c))

  -- this holds of each child c of p
  unfoldable pub siblings_pass : ℕ → ℕ → Bool
  siblings_pass b p = all_to (R p).count (λ i. sibling_passes b (slot (R p) i))

  -- what soundness asks of x and a record b above it: the radius of b, and the siblings of b unless b is the root
  unfoldable pub passes : ℕ → Bool
  passes b =
      leb (away b) (R b).radius && implies (not (eqb (R b).parent no_slot)) (siblings_pass b (R b).parent)

  -- b passes, and so does each record above it, to the root; fuel: the levels left
  unfoldable pub climb : ℕ → ℕ → Bool
  climb zero b = true
  climb (suc f) b = implies (not (eqb b no_slot)) (passes b && climb f (R b).parent)

module _ (n : ℕ) (R : ℕ → Record) where
  -- the climb from the record in slot x, by its own kind (all are equal); it has fewer steps than there are records
  unfoldable pub climb_from : ℕ → Bool
  climb_from x = climb R (R x).kind (R x).readings (R x).timestamp n (R x).parent

  abbrev pub record_passes : ℕ → Bool
  record_passes x = implies (used (R x)) (climb_from x)

  -- every used record climbs to the root
  unfoldable pub route : Bool
  route = all_to n record_passes

-- ---- what a turn of the code uses

-- yes to what is not asked, or is so
implies_yes : (a : Bool) → implies a true ≡ true
implies_yes true = refl
implies_yes false = refl

module _ (R : ℕ → Record) (kind : ℕ) (q : List ℕ) (t : ℕ) where
  -- a record is no nearer than itself
  pub sibling_same : (b c : ℕ) → c ≡ b → sibling_passes R kind q t b c ≡ true
  sibling_same b c e =
      rw (e, le-leb (apart kind q (R b).readings) (apart kind q (R b).readings) (omega arith))
      (implies_yes (ltb (R b).timestamp t))

  pub sibling_younger : (b c : ℕ) → t ≤ (R c).timestamp → sibling_passes R kind q t b c ≡ true
  sibling_younger b c h = rw (le-ltb (R c).timestamp t h)

  pub sibling_older :
      (b c : ℕ)
      → (R c).timestamp < t
      → sibling_passes R kind q t b c ≡ leb (apart kind q (R b).readings) (apart kind q (R c).readings)
  sibling_older b c h = rw (lt-ltb (R c).timestamp t h)

  module _ (b : ℕ) where
    pub passes_far : (R b).radius < apart kind q (R b).readings → passes R kind q t b ≡ false
    unfolding passes
    passes_far h = rw (lt-leb (apart kind q (R b).readings) (R b).radius h)

    module _ (h : apart kind q (R b).readings ≤ (R b).radius) where
      -- the root has no siblings
      pub passes_root : (R b).parent ≡ no_slot → passes R kind q t b ≡ true
      unfolding passes
      passes_root e =
          rw (le-leb (apart kind q (R b).readings) (R b).radius h, eq-eqb (R b).parent no_slot e)

      pub passes_child : ((R b).parent ≡ no_slot → ⊥) → passes R kind q t b ≡ siblings_pass R kind q t b (R b).parent
      unfolding passes
      passes_child ne =
          rw (le-leb (apart kind q (R b).readings) (R b).radius h, ne_eqb (R b).parent no_slot ne)

  pub climb_end : (f b : ℕ) → f ≤ 0 → climb R kind q t f b ≡ true
  unfolding climb
  climb_end zero b h = refl
  climb_end (suc f) b h = absurd (omega arith)

  -- above the root stands nothing
  pub climb_top : (f b : ℕ) → b ≡ no_slot → climb R kind q t f b ≡ true
  unfolding climb
  climb_top zero b e = refl
  climb_top (suc f) b e = rw (eq-eqb b no_slot e)

  pub climb_stop : (f b : ℕ) → 0 < f → (b ≡ no_slot → ⊥) → passes R kind q t b ≡ false → climb R kind q t f b ≡ false
  unfolding climb
  climb_stop zero b h ne e = absurd (omega arith)
  climb_stop (suc f) b h ne e = rw (ne_eqb b no_slot ne, e)

  pub climb_up :
      (f g b : ℕ)
      → f ≡ suc g
      → (b ≡ no_slot → ⊥)
      → passes R kind q t b ≡ true
      → climb R kind q t f b ≡ climb R kind q t g (R b).parent
  unfolding climb
  climb_up f g b h ne e = ap (λ (k : ℕ). climb R kind q t k b) h ∙ rw (ne_eqb b no_slot ne, e)

module _ (n : ℕ) (R : ℕ → Record) (x : ℕ) where
  pub record_free : (R x).card ≡ 0 → record_passes n R x ≡ true
  record_free e = rw (lt-leb 1 (R x).card (omega arith))

  -- the climb of a used record, from what is read of it
  pub record_used :
      (kind : ℕ) (q : List ℕ) (t from : ℕ)
      → ((R x).card ≡ 0 → ⊥)
      → kind ≡ (R x).kind
      → q ≡ (R x).readings
      → t ≡ (R x).timestamp
      → from ≡ (R x).parent
      → climb R kind q t n from ≡ record_passes n R x
  unfolding climb_from
  record_used kind q t from ne its-kind its-readings its-time its-parent =
      (λ i. climb R (its-kind i) (its-readings i) (its-time i) n (its-parent i))
      ∙ sym (rw (le-leb 1 (R x).card (omega arith)))
