-- A removal takes exactly the records at or below the one removed: with them, those that stay are all that were there.
-- Assumes nothing.
use Rattle.std.specs.Prelude.{ℕ, ◌+◌, ◌≡◌, List, ◌++◌, length}
use mathlib.Core.List.Memᴰ
use Rattle.std.proofs.Common.{arith, length-append}
use Rattle.tree.specs.Slots.{◌∈◌, ∈_decide, Distinct, distinct_append, distinct_length}
use Rattle.places.specs.Cases.{either}
use Rattle.tree.specs.View.{View, Used, Formed, used_count, under}
use Rattle.tree.specs.View.Count.{used_slots, used_slots_length, used_slots_from, used_slots_to, used_slots_distinct}
use Rattle.tree.specs.View.Count.{used_at_most}
use Rattle.tree.specs.View.Under.{under_iff, under_used, under_distinct}
use Rattle.tree.specs.Remove.{Removed}

module _ {Sig : Type 0} {v w : View Sig} {n root b : ℕ}
    (wf : Formed v n root) (ub : Used v b) (gone : Removed v w b) where
  abbrev low : List ℕ
  low = under v.children (used_count v n) b

  abbrev all : List ℕ
  all = used_slots w n ++ low

  all_distinct : Distinct all
  all_distinct = distinct_append (used_slots w n) low (used_slots_distinct w n) (under_distinct wf (used_count v n) b)
      (λ a i j. let z = (under_iff wf b ub a).0 j in gone.removed a z.0 z.1 (used_slots_from w n a i).1)

  all_used : (a : ℕ) → a ∈ all → Used v a
  all_used a i = either (Memᴰ.append_cases (used_slots w n) i)
      (λ j. gone.was_used a (used_slots_from w n a j).1) (under_used wf (used_count v n) b a ub)

  used_all : (a : ℕ) → a ∈ used_slots v n → a ∈ all
  used_all a i =
      let z = used_slots_from v n a i in
      elim (∈_decide a low) [
        | yes j ↦ Memᴰ.append_right (used_slots w n) j
        | no m ↦
            let u = gone.stays a z.1 (λ k p. m ((under_iff wf b ub a).1 (k, p))) in
            Memᴰ.append_left low (used_slots_to w n a z.0 u)
      ]

  pub removed_used_count : used_count w n + length (under v.children (used_count v n) b) ≡ used_count v n
  removed_used_count = omega (
    arith,
    used_at_most wf all all_distinct all_used,
    distinct_length (used_slots v n) all (used_slots_distinct v n) used_all,
    length-append (used_slots w n) low,
    used_slots_length v n,
    used_slots_length w n,
  )
