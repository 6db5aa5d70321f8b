-- A table whose only record is a root without a child is well formed and sound. Assumes nothing.
use Rattle.std.specs.Prelude.{ℕ, suc}
use Rattle.std.proofs.Common.{sym, ◌∙◌}
use mathlib.Core.List.Memᴰ
use Rattle.tree.specs.Slots.{◌∈◌}
use Rattle.tree.specs.View.{View, Below, down, Formed, Sound}
use Rattle.tree.specs.Insert.{Alone}

module _ {Sig : Type 0} {w : View Sig} {n s : ℕ} (one : Alone w n s) where
  no_child : (a b : ℕ) → b ∈ w.children a → ⊥
  no_child a b i = Memᴰ.not-nil (rw (one.childless a) at i)

  no_below : {k x : ℕ} (a : ℕ) → Below w.children x (suc k) a → ⊥
  no_below a (down {b = b} i p) = no_child a b i

  pub alone_formed : Formed w n s
  alone_formed = record {
    within = λ a u. rw (one.only a u) one.within;
    cards = λ a b u u' h. one.only a u ∙ sym (one.only b u');
    timestamps = λ a b u u' h. one.only a u ∙ sym (one.only b u');
    root_used = one.used;
    root_top = λ a. no_child a s;
    hung = λ a u ne. absurd (ne (one.only a u));
    older = λ a b i. absurd (no_child a b i);
    child_used = λ a b i. absurd (no_child a b i);
    child_parent = λ a b i. absurd (no_child a b i);
    rising = λ a. rw (one.childless a) tt;
    parent_used = λ a b i. absurd (no_child a b i);
  }

  pub alone_sound : (d : Sig → Sig → ℕ) → Sound d w
  alone_sound d = record {
    cover = λ k a x u p. absurd (no_below a p);
    near = λ k a b c x u ib ic p h. absurd (no_child a b ib);
  }
