-- Removing a record with all below it keeps a sound table sound: nothing comes to stand below a record that it did not
-- stand below before. Not even the laws of the distance are used. Assumes nothing.
use Rattle.std.specs.Prelude.{ℕ, ◌<◌}
use Rattle.tree.specs.View.{View, Formed, Sound}
use Rattle.tree.specs.Remove.{Removed}
use Rattle.tree.proofs.Remove.After.{removed_child, removed_below}

pub removed_sound : {Sig : Type 0} {d : Sig → Sig → ℕ} {v w : View Sig} {n root b : ℕ} → Formed v n root → Removed v w b
    → Sound d v → Sound d w
removed_sound {d} {v} {w} wf gone ok = record {
  cover = λ k a x u p.
      let z = removed_below wf gone u p in
      rw (gone.signature a u, gone.signature x z.1, gone.radius a u)
      (ok.cover k a x (gone.was_used a u) z.0);
  near = λ k a b c x u ib ic p h.
      let yb = removed_child wf gone a b ib in
      let yc = removed_child wf gone a c ic in
      let z = removed_below wf gone yb.2 p in
      let older : v.timestamp c < v.timestamp x = rw (gone.timestamp c yc.2, gone.timestamp x z.1) at h in
      rw (gone.signature x z.1, gone.signature b yb.2, gone.signature c yc.2)
      (ok.near k a b c x (gone.was_used a u) yb.0 yc.0 z.0 older);
}
