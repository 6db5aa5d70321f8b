-- Slots made free: those named are free afterwards, and every other is as it was. Assumes nothing.
use Rattle.std.specs.Prelude.{ℕ, suc, ◌≡◌, refl, List, [], ◌∷◌, length, set}
use Rattle.std.proofs.Common.{sym, ap, ◌∙◌, arith, length-set, get_or-set_same, get_or-set_other, ext_get_or}
use mathlib.Core.List.Memᴰ
use mathlib.Core.List.Memᴰ.{head as first}
use mathlib.Core.List.Memᴰ.{tail as later}
use Rattle.std.proofs.Math.Decide.{dec_le}
use Rattle.std.proofs.Math.ListN.{get_or-eq_default}
use Rattle.table.specs.Record.{Record, free}
use Rattle.table.specs.Table.{at}
use Rattle.tree.specs.Slots.{◌∈◌, ∈_decide}

-- these slots become free
unfoldable pub freed_at : List ℕ → List Record → List Record
freed_at [] rows = rows
freed_at (s ∷ ss) rows = freed_at ss (set rows s free)

pub freed_none : (rows : List Record) → freed_at [] rows ≡ rows
unfolding freed_at
freed_none rows = refl

pub set_free : (rows : List Record) (a : ℕ) → at (set rows a free) a ≡ free
set_free rows a = elim (dec_le (suc a) (length rows)) [
  | yes h ↦ get_or-set_same rows a free free h
  | no nh ↦ get_or-eq_default (set rows a free) free (omega (arith, length-set rows a free))
]

pub freed_length : (l : List ℕ) (rows : List Record) → length (freed_at l rows) ≡ length rows
unfolding freed_at
freed_length [] rows = refl
freed_length (s ∷ l) rows = freed_length l (set rows s free) ∙ length-set rows s free

-- every other slot is as it was
pub freed_out : (l : List ℕ) (rows : List Record) (a : ℕ) → (a ∈ l → ⊥) → at (freed_at l rows) a ≡ at rows a
unfolding freed_at
freed_out [] rows a m = refl
freed_out (s ∷ l) rows a m =
    freed_out l (set rows s free) a (λ i. m (later i)) ∙ get_or-set_other rows s a free free (λ e. m (first e))

pub freed_in : (l : List ℕ) (rows : List Record) (a : ℕ) → a ∈ l → at (freed_at l rows) a ≡ free
unfolding freed_at
freed_in [] rows a i = absurd (Memᴰ.not-nil i)
freed_in (s ∷ l) rows a i = elim (∈_decide a l) [
  | yes j ↦ freed_in l (set rows s free) a j
  | no m ↦ freed_out l (set rows s free) a m ∙ ap (λ (b : ℕ). at (set rows s free) b) (only m i) ∙ set_free rows s
]
  where
    only : (a ∈ l → ⊥) → a ∈ (s ∷ l) → a ≡ s
    only m (first e) = e
    only m (later j) = absurd (m j)

-- the same slots made free, in another order
pub freed_same :
    (l m : List ℕ) (rows : List Record)
    → ((a : ℕ) → a ∈ l → a ∈ m)
    → ((a : ℕ) → a ∈ m → a ∈ l)
    → freed_at l rows ≡ freed_at m rows
freed_same l m rows from to =
    ext_get_or
    free
    (freed_at l rows)
    (freed_at m rows)
    (freed_length l rows ∙ sym (freed_length m rows))
    (λ a b. elim (∈_decide a l) [
      | yes i ↦ freed_in l rows a i ∙ sym (freed_in m rows a (from a i))
      | no ni ↦ freed_out l rows a ni ∙ sym (freed_out m rows a (λ j. ni (to a j)))
    ])
