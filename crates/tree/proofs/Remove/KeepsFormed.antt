-- Removing a record other than the root, with all below it, keeps a well-formed table well formed, with the same root:
-- a record stays exactly if its parent stays and it is not the record removed. Removing the root leaves a free table.
-- Assumes nothing.
use Rattle.std.specs.Prelude.{ℕ, suc, zero, ◌≡◌, refl, List, [], ◌∷◌}
use Rattle.std.proofs.Common.{sym, ◌∙◌}
use mathlib.Core.List.Memᴰ.{head as first}
use Rattle.tree.specs.Slots.{◌∈◌}
use Rattle.tree.specs.View.{View, Used, Free, Below, here, Rising, Formed}
use Rattle.tree.specs.View.Shape.{below_child, below_hung, below_root, rising_same}
use Rattle.tree.specs.Remove.{except, Removed}
use Rattle.tree.proofs.Remove.After.{except_to, except_rising, removed_child}

module _ {Sig : Type 0} {v w : View Sig} {n root b : ℕ} (wf : Formed v n root) (gone : Removed v w b)
    (not_root : b ≡ root → ⊥) where
  root_stays : Used w root
  root_stays = gone.stays root wf.root_used below
    where
      below : (k : ℕ) → Below v.children root k b → ⊥
      below zero (here e) = not_root (sym e)
      below (suc k) p = wf.root_top (v.parent root) (below_hung wf p)

  rises : (a : ℕ) (l : List ℕ) → w.children a ≡ l → Rising w.timestamp (w.children a)
  rises a [] e = rw e tt
  rises a (c ∷ l) e =
      let u = gone.parent_used a c (rw e (first refl)) in
      let same : (o : ℕ) → o ∈ except b (v.children a) → w.timestamp o ≡ v.timestamp o =
      λ o i. gone.timestamp o (removed_child wf gone a o (rw (gone.children a u) i)).2 in
      rw (gone.children a u) (rising_same v.timestamp w.timestamp (except b (v.children a)) same
      (except_rising v.timestamp b (v.children a) (wf.rising a)))

  pub removed_formed : Formed w n root
  removed_formed = record {
    within = λ a u. wf.within a (gone.was_used a u);
    cards = λ a c u u' h. wf.cards a c (gone.was_used a u) (gone.was_used c u')
        (sym (gone.card a u) ∙ h ∙ gone.card c u');
    timestamps = λ a c u u' h. wf.timestamps a c (gone.was_used a u) (gone.was_used c u')
        (sym (gone.timestamp a u) ∙ h ∙ gone.timestamp c u');
    root_used = root_stays;
    root_top = λ a i. wf.root_top a (removed_child wf gone a root i).0;
    hung = λ a u ne.
        let h = wf.hung a (gone.was_used a u) ne in
        let up = gone.stays (v.parent a) h.0 (λ k p. gone.removed a (suc k) (below_child p h.1) u) in
        let kept = except_to b a (v.children (v.parent a)) h.1 (λ e. gone.removed a zero (here e) u) in
        rw (gone.parent a u) (up, rw (gone.children (v.parent a) up) kept);
    older = λ a c i.
        let z = removed_child wf gone a c i in
        rw (gone.timestamp a z.1, gone.timestamp c z.2) (wf.older a c z.0);
    child_used = λ a c i. (removed_child wf gone a c i).2;
    child_parent = λ a c i. let z = removed_child wf gone a c i in gone.parent c z.2 ∙ wf.child_parent a c z.0;
    rising = λ a. rises a (w.children a) refl;
    parent_used = gone.parent_used;
  }

pub removed_root : {Sig : Type 0} {v w : View Sig} {n root : ℕ} → Formed v n root → Removed v w root → Free w
removed_root wf gone a u = let z = below_root wf a (gone.was_used a u) in gone.removed a z.0 z.1 u
