-- On every well-formed table, sound or not: no slot is entered twice, no slot is compared twice, and each slot
-- compared is used; so the distance count is at most the number of used records. Assumes nothing.
use Prim.Native.Nat.{ℕ, suc, zero, ◌≤◌}
use Rattle.std.proofs.Math.Path.{refl}
use mathlib.Core.List.Sublistᴰ
use mathlib.Core.List.{List, [], ◌∷◌, flat_map}
use Rattle.tree.specs.Slots.{◌∈◌, ◌⊑◌, ⊑_∈, Distinct, distinct_part, keep_part}
use Rattle.tree.specs.View.{View, Used, Formed, used_count, compared, distance_count, under}
use Rattle.tree.specs.View.Count.{compared_distinct, distance_count_at_most}
use Rattle.tree.specs.View.Under.{under_distinct, under_used}
use Rattle.tree.specs.Search.{turn, visit}

-- what is entered stands at or below the slot visited, in the order of the whole tree
module _ {Sig : Type 0} (d : Sig → Sig → ℕ) (v : View Sig) (q : Sig) (r : ℕ) where
  turn_part : (go : ℕ → ℕ → List ℕ) (u : ℕ → List ℕ) (t : ℕ) (os bs : List ℕ) → ((b t' : ℕ) → go b t' ⊑ u b)
      → turn d v q r go t os bs ⊑ flat_map u bs
  unfolding turn flat_map
  turn_part go u t os [] f = Sublistᴰ.slnil
  turn_part go u t os (b ∷ bs) f = Sublistᴰ.append (keep_part _ (f b _)) (turn_part go u t (b ∷ os) bs f)

  pub visit_part : (f a t : ℕ) → visit d v q r f a t ⊑ under v.children f a
  unfolding visit under
  visit_part zero a t = Sublistᴰ.slnil
  visit_part (suc f) a t = keep_part _ (Sublistᴰ.cons-cons refl
      (turn_part (visit d v q r f) (under v.children f) t _ (v.children a) (visit_part f)))

module _ {Sig : Type 0} (d : Sig → Sig → ℕ) {v : View Sig} (q : Sig) (r : ℕ) {n root : ℕ} (wf : Formed v n root) where
  pub visit_distinct : (f a t : ℕ) → Distinct (visit d v q r f a t)
  visit_distinct f a t = distinct_part (visit_part d v q r f a t) (under_distinct wf f a)

  pub visit_used : (f a t x : ℕ) → Used v a → x ∈ visit d v q r f a t → Used v x
  visit_used f a t x u i = under_used wf f a x u (⊑_∈ x (visit_part d v q r f a t) i)

  -- that each of them is used is `compared_used` of View.Count
  pub visit_compared_distinct : (f t : ℕ) → Distinct (compared v root (visit d v q r f root t))
  visit_compared_distinct f t = compared_distinct wf (visit d v q r f root t) (visit_distinct f root t)

  pub visit_count : (f t : ℕ) → distance_count v (visit d v q r f root t) ≤ used_count v n
  visit_count f t = distance_count_at_most wf (visit d v q r f root t) (visit_distinct f root t)
