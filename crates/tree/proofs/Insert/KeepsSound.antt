-- An insertion keeps a sound table sound, for every arity and fuel. The new record stands below the records visited
-- alone, whose radii now cover it, and each of these was the nearest of its siblings. Assumes nothing.
use Rattle.std.specs.Prelude.{ℕ, suc, ◌≤◌, ◌<◌, ◌≡◌}
use Rattle.std.proofs.Common.{sym, ◌∙◌, arith}
use mathlib.Core.List.Memᴰ
use Rattle.std.proofs.Math.Decide.{ℕ_discrete}
use Rattle.distance.specs.Laws.{Distance}
use Rattle.tree.specs.Slots.{◌∈◌}
use Rattle.places.specs.Cases.{either}
use Rattle.tree.specs.View.{View, Used, away, Below, here, down, Formed, Sound}
use Rattle.tree.specs.View.Shape.{below_used}
use Rattle.tree.specs.Insert.{Fresh, Inserted, path, attach}
use Rattle.tree.proofs.Insert.Path.{path_from, attach_∈}
use Rattle.tree.proofs.Insert.After.{fresh_child, inserted_child, inserted_upper, inserted_below, inserted_radius}

module _ {Sig : Type 0} {d : Sig → Sig → ℕ} {v w : View Sig} {n root c s t : ℕ} {x : Sig} (arity f : ℕ) (some : 0 < f)
    (wf : Formed v n root) (new : Fresh v n s c t)
    (done : Inserted d v w c x s t (attach d v x arity f root) (path d v x arity f root)) where
  -- a visited child's parent is visited, and no sibling of the child is nearer
  visited_parent : (a b : ℕ) → b ∈ path d v x arity f root → b ∈ v.children a
      → a ∈ path d v x arity f root × ((e : ℕ) → e ∈ v.children a → away d v x b ≤ away d v x e)
  visited_parent a b ip i = either (path_from d v x arity f root b ip)
      (λ e. absurd (wf.root_top a (rw e at i)))
      (λ z.
      let e : a ≡ z.0 = sym (wf.child_parent a b i) ∙ wf.child_parent z.0 b z.2 in
      (Memᴰ.cast e z.1, λ o j. z.3 o (rw e at j)))

  -- the new record stands below the records visited alone
  new_below : {k a : ℕ} → Below w.children s (suc k) a → a ∈ path d v x arity f root
  new_below (down {a = a} {b = b} i (here e)) = either (inserted_child done a b i)
      (λ z. Memᴰ.cast z.1 (attach_∈ d v x arity f root some))
      (λ z. absurd (fresh_child new wf a b z.1 (sym e)))
  new_below (down {a = a} {b = b} i (down j q)) = either (inserted_child done a b i)
      (λ z. absurd (inserted_upper done (down j q) z.0))
      (λ z. (visited_parent a b (new_below (down j q)) z.1).0)

  -- a child that is not s was a child
  was_child : (a b : ℕ) → (b ≡ s → ⊥) → b ∈ w.children a → b ∈ v.children a
  was_child a b nb i = either (inserted_child done a b i) (λ z. absurd (nb z.0)) (λ z. z.1)

  module _ {Fit : Sig → Type 0} (laws : Distance Fit d) (ok : Sound d v) where
    covers :
        (k a y : ℕ) → Used w a → Below w.children y (suc k) a → d (w.signature a) (w.signature y) ≤ w.radius a
    covers k a y u q =
        let na = inserted_upper done q in
        elim (ℕ_discrete y s) [
          | yes e ↦
              let i : a ∈ path d v x arity f root = new_below {k = k} (rw e at q) in
              rw (e, done.signature_new, done.signature_old a na, done.radius_path a i) (omega arith)
          | no ny ↦
              let before = ok.cover k a y (rw (done.card_old a na) at u) (inserted_below done ny q) in
              rw (done.signature_old a na, done.signature_old y ny) (omega (arith, before, inserted_radius done a na))
        ]

    -- s is older than nothing
    last : (k a b e y : ℕ) → b ∈ v.children a → Below w.children y (suc k) b → e ≡ s
        → w.timestamp e < w.timestamp y → ⊥
    last k a b e y i q es h = elim (ℕ_discrete y s) [
      | yes ys ↦ let g : t < t = rw (es, ys, done.timestamp_new) at h in omega arith
      | no ny ↦
          let g : t < v.timestamp y = rw (es, done.timestamp_new, done.timestamp_old y ny) at h in
          omega (arith, new.late y (below_used wf (wf.child_used a b i) (inserted_below done ny q)))
    ]

    nears : (k a b e y : ℕ) → Used w a → b ∈ w.children a → e ∈ w.children a → Below w.children y (suc k) b
        → w.timestamp e < w.timestamp y → d (w.signature y) (w.signature b) ≤ d (w.signature y) (w.signature e)
    nears k a b e y u ib ie q h =
        let nb = inserted_upper done q in
        let jb = was_child a b nb ib in
        elim (ℕ_discrete e s) [
          | yes es ↦ absurd (last k a b e y jb q es h)
          | no ne ↦
              let je = was_child a e ne ie in
              elim (ℕ_discrete y s) [
                | yes ys ↦
                    let near = (visited_parent a b (new_below {k = k} (rw ys at q)) jb).1 e je in
                    rw (ys, done.signature_new, done.signature_old b nb, done.signature_old e ne)
                    (omega (arith, near, laws.both_ways x (v.signature b), laws.both_ways x (v.signature e)))
                | no ny ↦
                    let older = rw (done.timestamp_old e ne, done.timestamp_old y ny) at h in
                    rw (done.signature_old y ny, done.signature_old b nb, done.signature_old e ne)
                    (ok.near k a b e y (wf.parent_used a b jb) jb je (inserted_below done ny q) older)
              ]
        ]

    pub inserted_sound : Sound d w
    inserted_sound = record { cover = covers; near = nears }
