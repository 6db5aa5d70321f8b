-- What the radii raised along a walk make of each record of the row: a record visited covers the newcomer, and all else
-- is as it was. Assumes nothing.
use Prim.Native.Nat.{ℕ, suc, ◌<◌, max}
use Rattle.std.specs.Prelude.{◌≡◌, set}
use Rattle.std.proofs.Math.Path.{refl, ap}
use Rattle.std.proofs.Common.{sym, ◌∙◌, arith}
use mathlib.Core.List.Memᴰ
use mathlib.Core.List.Memᴰ.{head as first}
use mathlib.Core.List.Memᴰ.{tail as later}
use mathlib.Core.List.{List, [], ◌∷◌}
use Rattle.std.proofs.Math.Decide.{ℕ_discrete, dec_le}
use Rattle.std.proofs.Math.ListN.{length, length-set}
use Rattle.std.proofs.Math.Seq.{get_or-set_same, get_or-set_other, set_out}
use Rattle.table.specs.Record.{Record, free}
use Rattle.table.specs.Table.{at}
use Rattle.tree.specs.Slots.{◌∈◌, ∈_decide}
use Rattle.descent.specs.Descent.{raised_along}
use Rattle.newcomer.specs.Kept.{Still, still_raised}
use Rattle.newcomer.specs.Newcomer.{raised}

-- what holds of the old record, and of the new one in its place, holds of every record afterwards
set_each :
    (P : Record → Type 0) (rows : List Record) (b : ℕ) (v : Record) (a : ℕ)
    → (a ≡ b → P v)
    → P (at rows a)
    → P (at (set rows b v) a)
set_each P rows b v a new old = elim (ℕ_discrete a b) [
  | no ne ↦ let q : at (set rows b v) a ≡ at rows a = get_or-set_other rows b a v free ne in rw q old
  | yes e ↦ elim (dec_le (suc b) (length rows)) [
    | yes h ↦
        let q : at (set rows b v) a ≡ v = ap (λ (i : ℕ). at (set rows b v) i) e ∙ get_or-set_same rows b v free h in
        rw q (new e)
    | no nh ↦
        let q : at (set rows b v) a ≡ at rows a = ap (λ (l : List Record). at l a) (set_out rows b v (omega arith)) in
        rw q old
  ]
]

module _ (d : List ℕ → List ℕ → ℕ) (x : List ℕ) where
  pub along_length : (p : List ℕ) (rows : List Record) → length (raised_along d x p rows) ≡ length rows
  unfolding raised_along
  along_length [] rows = refl
  along_length (b ∷ p) rows =
      along_length p (set rows b (raised (d (at rows b).readings x) (at rows b)))
      ∙ length-set rows b (raised (d (at rows b).readings x) (at rows b))

  -- every record is as it was but for its radius
  pub along_still :
      (p : List ℕ) (rows : List Record) (r : Record) (a : ℕ)
      → Still r (at rows a)
      → Still r (at (raised_along d x p rows) a)
  unfolding raised_along
  along_still [] rows r a h = h
  along_still (b ∷ p) rows r a h =
      let v = raised (d (at rows b).readings x) (at rows b) in
      along_still p (set rows b v) r a
      (set_each (Still r) rows b v a
      (λ e. still_raised r (at rows b) (d (at rows b).readings x) (rw e at h)) h)

  -- a record off the walk is as it was
  pub along_other : (p : List ℕ) (rows : List Record) (a : ℕ) → (a ∈ p → ⊥) → at (raised_along d x p rows) a ≡ at rows a
  unfolding raised_along
  along_other [] rows a m = refl
  along_other (b ∷ p) rows a m =
      let v = raised (d (at rows b).readings x) (at rows b) in
      along_other p (set rows b v) a (λ i. m (later i)) ∙ get_or-set_other rows b a v free (λ e. m (first e))

  module _ (rows : List Record) (a b : ℕ) (h : a < length rows) where
    next : List Record
    next = set rows b (raised (d (at rows b).readings x) (at rows b))

    once : a ≡ b → (at next a).radius ≡ max (at rows a).radius (d (at rows a).readings x)
    unfolding raised next
    once e =
        let q : at next a ≡ raised (d (at rows b).readings x) (at rows b) =
        ap (λ (i : ℕ). at next i) e
        ∙ get_or-set_same rows b (raised (d (at rows b).readings x) (at rows b)) free (omega arith) in
        ap (λ (r : Record). r.radius) q
        ∙ ap (λ (i : ℕ). max (at rows i).radius (d (at rows i).readings x)) (sym e)

    -- raised twice is raised once
    again : max (at next a).radius (d (at next a).readings x) ≡ max (at rows a).radius (d (at rows a).readings x)
    unfolding raised next
    again =
        let reads : (at next a).readings ≡ (at rows a).readings =
        set_each
        (λ (r : Record). r.readings ≡ (at rows a).readings)
        rows
        b
        (raised (d (at rows b).readings x) (at rows b))
        a
        (λ e. ap (λ (i : ℕ). (at rows i).readings) (sym e))
        refl in
        let far : d (at next a).readings x ≡ d (at rows a).readings x = ap (λ (l : List ℕ). d l x) reads in
        elim (ℕ_discrete a b) [
          | yes e ↦ omega (arith, far, once e)
          | no ne ↦
              let same : (at next a).radius ≡ (at rows a).radius =
              ap
              (λ (r : Record). r.radius)
              (get_or-set_other rows b a (raised (d (at rows b).readings x) (at rows b)) free ne) in
              omega (arith, far, same)
        ]

  -- the radius of a record visited covers x afterwards
  pub along_radius :
      (p : List ℕ) (rows : List Record) (a : ℕ)
      → a ∈ p
      → a < length rows
      → (at (raised_along d x p rows) a).radius ≡ max (at rows a).radius (d (at rows a).readings x)
  unfolding raised_along next
  along_radius [] rows a i h = absurd (Memᴰ.not-nil i)
  along_radius (b ∷ p) rows a i h =
      let v = raised (d (at rows b).readings x) (at rows b) in
      let rest = along_radius p (set rows b v) a in
      let long : a < length (set rows b v) = omega (arith, length-set rows b v) in
      elim (∈_decide a p) [
        | yes j ↦ rest j long ∙ again rows a b h
        | no m ↦
            let off = ap (λ (r : Record). r.radius) (along_other p (set rows b v) a m) in
            off ∙ once rows a b h (only m i)
      ]
    where
      only : (a ∈ p → ⊥) → a ∈ (b ∷ p) → a ≡ b
      only m (first e) = e
      only m (later j) = absurd (m j)
