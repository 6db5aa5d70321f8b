-- The slots that the lean work has met are those that the paper's work has compared, each once, though in another
-- order: as many, and the same held of them. So it stays when the children of a record are met. Assumes nothing.
use Rattle.std.specs.Prelude.{ℕ, ◌≡◌, ◌⊎◌, length, take}
use Rattle.std.proofs.Math.Path.{ap}
use Rattle.std.proofs.Math.Logic.{inl, inr}
use mathlib.Core.List.Memᴰ
use mathlib.Core.List.Memᴰ.{head as first}
use mathlib.Core.List.Memᴰ.{tail as later}
use mathlib.Core.List.{List, [], ◌∷◌}
use Rattle.std.proofs.Common.{arith}
use Rattle.places.specs.Cases.{either}
use Rattle.tree.specs.Slots.{◌∈◌, Distinct, distinct_length}
use Rattle.tree.specs.Sorted.Laws.{sorted_same}
use Rattle.tree.specs.View.{View, Formed, compared, distance_count}
use Rattle.tree.specs.View.Count.{compared_distinct, compared_used, distance_count_compared}
use Rattle.tree.specs.Nearest.{held, is_over}
use Rattle.tree.proofs.Nearest.Order.{nearer_orders}
use Rattle.tree.proofs.Nearest.Once.{compared_more, compared_less}
use Rattle.tree.specs.Nearest.Lean.{Work, meet, meets}

-- cs are the slots compared when those of ts were taken, in any order
pub record Met {Sig : Type 0} (v : View Sig) (root : ℕ) (cs ts : List ℕ) : Type 0 where
  pub once : Distinct cs
  pub from : (x : ℕ) → x ∈ cs → x ∈ compared v root ts
  pub to : (x : ℕ) → x ∈ compared v root ts → x ∈ cs

module _ {Sig : Type 0} (d : Sig → Sig → ℕ) {v : View Sig} (q : Sig) (k : ℕ) {n root : ℕ} (wf : Formed v n root)
    {cs ts : List ℕ} (m : Met v root cs ts) (once : Distinct ts) where
  pub met_held : held d v q k cs ≡ held d v q k (compared v root ts)
  unfolding held
  met_held = ap (take k)
      (sorted_same (nearer_orders d v q wf) cs (compared v root ts) (λ x i. compared_used wf ts x (m.from x i))
      (compared_used wf ts) m.once (compared_distinct wf ts once) m.from m.to)

  pub met_over : (x : ℕ) → is_over d v q k cs x ≡ is_over d v q k (compared v root ts) x
  unfolding is_over
  met_over x = rw met_held

module _ {Sig : Type 0} {v : View Sig} {n root : ℕ} (wf : Formed v n root) {cs ts : List ℕ} (m : Met v root cs ts) where
  pub met_count : Distinct ts → length cs ≡ distance_count v ts
  met_count once =
      let most = distinct_length cs (compared v root ts) m.once m.from in
      let least = distinct_length (compared v root ts) cs (compared_distinct wf ts once) m.to in
      omega (arith, most, least, distance_count_compared v root ts)

-- ---- the children of a record are met

module _ {Sig : Type 0} (d : Sig → Sig → ℕ) (v : View Sig) (q : Sig) (k p : ℕ) where
  -- those met before, and the children bs
  meets_from : (os bs : List ℕ) (W : Work) (x : ℕ) → x ∈ (meets d v q k p os bs W).met → x ∈ W.met ⊎ x ∈ bs
  unfolding meets
  meets_from os [] W x i = inl i
  meets_from os (b ∷ bs) W x i = either (meets_from (b ∷ os) bs _ x i) (unfold meet in newest) (λ j. inr (later j))
    where
      newest : x ∈ b ∷ W.met → x ∈ W.met ⊎ x ∈ b ∷ bs
      newest (first e) = inr (first e)
      newest (later j) = inl j

  meets_to : (os bs : List ℕ) (W : Work) (x : ℕ) → x ∈ W.met ⊎ x ∈ bs → x ∈ (meets d v q k p os bs W).met
  unfolding meets
  meets_to os [] W x (inl i) = i
  meets_to os [] W x (inr i) = absurd (Memᴰ.not-nil i)
  meets_to os (b ∷ bs) W x (inl i) = meets_to (b ∷ os) bs _ x (inl (unfold meet in later i))
  meets_to os (b ∷ bs) W x (inr (first e)) = meets_to (b ∷ os) bs _ x (inl (unfold meet in first e))
  meets_to os (b ∷ bs) W x (inr (later i)) = meets_to (b ∷ os) bs _ x (inr i)

  -- record a is taken
  pub met_next : (root a : ℕ) (W : Work) (ts : List ℕ) → Met v root W.met ts
      → Distinct (meets d v q k p [] (v.children a) W).met
      → Met v root (meets d v q k p [] (v.children a) W).met (a ∷ ts)
  met_next root a W ts m once = record {
    once = once;
    from = λ x i. compared_more v root a x ts
        (either (meets_from [] (v.children a) W x i) (λ j. inl (m.from x j)) inr);
    to = λ x i. meets_to [] (v.children a) W x
        (either (compared_less v root a x ts i) (λ j. inl (m.to x j)) inr);
  }
