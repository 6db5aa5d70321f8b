-- The used slots as a list: `used_count` is its length, so no more slots without repeats can all be used. Hence a walk
-- that enters no slot twice has a distance count of at most the used records. Assumes nothing.
use Prim.Native.Nat.{ℕ, suc, zero, ◌+◌, ◌≤◌, ◌<◌, min}
use Rattle.std.specs.Prelude.{Bool, ◌≡◌, ltb, length}
use Rattle.std.proofs.Math.Bool.{true, false}
use Rattle.std.proofs.Math.Path.{refl, sym}
use Rattle.std.proofs.Common.{◌∙◌}
use mathlib.Core.List.Memᴰ.{head as first}
use mathlib.Core.List.Memᴰ.{tail as later}
use mathlib.Core.List.{List, [], ◌∷◌, ◌++◌, flat_map}
use mathlib.Core.List.Memᴰ
use mathlib.Core.List.Sublistᴰ
use native.Mathlib.Omega.{arith}
use Rattle.std.proofs.Math.Decide.{ℕ_discrete}
use Rattle.std.proofs.Math.ListN.{length-append}
use borrow.Author.Tests.{ltb-true, ltb-false, lt-ltb}
use Rattle.tree.specs.Slots.{◌∈◌, ◌⊑◌, keep, keep_from, keep_to}
use Rattle.places.specs.Cases.{either}
use Rattle.tree.specs.Slots.{Distinct, distinct_length, distinct_flat_map, flat_map_from}
use Rattle.tree.specs.View.{View, Used, used_count, Formed, compared, child_counts, distance_count}
use Rattle.tree.specs.View.Shape.{children_distinct}

-- the used slots of the first n, the last first
unfoldable pub used_slots : {Sig : Type 0} → View Sig → ℕ → List ℕ
used_slots v zero = []
used_slots v (suc n) = keep (ltb 0 (v.card n)) (n ∷ []) ++ used_slots v n

-- ---- the list

keep_one : (b : Bool) (c a : ℕ) → ltb 0 c ≡ b → length (keep b (a ∷ [])) ≡ min 1 c
unfolding keep
keep_one true c a e = omega (arith, ltb-true 0 c e)
keep_one false c a e = omega (arith, ltb-false 0 c e)

module _ {Sig : Type 0} (v : View Sig) where
  pub used_slots_length : (n : ℕ) → length (used_slots v n) ≡ used_count v n
  unfolding used_slots used_count
  used_slots_length zero = refl
  used_slots_length (suc n) =
      length-append (keep (ltb 0 (v.card n)) (n ∷ [])) (used_slots v n)
      ∙ rw (keep_one (ltb 0 (v.card n)) (v.card n) n refl, used_slots_length n)

  pub used_slots_to : (n a : ℕ) → a < n → Used v a → a ∈ used_slots v n
  unfolding used_slots
  used_slots_to zero a h u = absurd (omega arith)
  used_slots_to (suc n) a h u = elim (ℕ_discrete a n) [
    | yes e ↦ Memᴰ.append_left (used_slots v n) (keep_to _ a (n ∷ []) (lt-ltb 0 (v.card n) (rw (← e) u)) (first e))
    | no ne ↦ Memᴰ.append_right (keep (ltb 0 (v.card n)) (n ∷ [])) (used_slots_to n a (omega arith) u)
  ]

  pub used_slots_from : (n a : ℕ) → a ∈ used_slots v n → (a < n) × Used v a
  unfolding used_slots
  used_slots_from zero a i = absurd (Memᴰ.not-nil i)
  used_slots_from (suc n) a i = either (Memᴰ.append_cases (keep (ltb 0 (v.card n)) (n ∷ [])) i)
      (λ j.
      let z = keep_from (ltb 0 (v.card n)) a (n ∷ []) j in
      let u : 0 < v.card n = ltb-true 0 (v.card n) z.0 in
      rw (Memᴰ.eq_of_singleton z.1) (omega arith, u))
      (λ j. let z = used_slots_from n a j in (omega (arith, z.0), z.1))

  pub used_slots_distinct : (n : ℕ) → Distinct (used_slots v n)
  unfolding used_slots
  used_slots_distinct zero = tt
  used_slots_distinct (suc n) = go (ltb 0 (v.card n)) (used_slots_distinct n)
    where
      go : (b : Bool) → Distinct (used_slots v n) → Distinct (keep b (n ∷ []) ++ used_slots v n)
      go true p = unfold keep in (λ i. omega (arith, (used_slots_from n n i).0), p)
      go false p = unfold keep in p

-- ---- used slots

module _ {Sig : Type 0} {v : View Sig} {n root : ℕ} (wf : Formed v n root) where
  -- slots without repeats, all used, are at most the used slots
  pub used_at_most : (l : List ℕ) → Distinct l → ((a : ℕ) → a ∈ l → Used v a) → length l ≤ used_count v n
  used_at_most l p f = omega (
    arith,
    used_slots_length v n,
    distinct_length l (used_slots v n) p (λ a i. used_slots_to v n a (wf.within a (f a i)) (f a i)),
  )

module _ {Sig : Type 0} (v w : View Sig) where
  pub used_count_same : (n : ℕ) → ((a : ℕ) → a < n → w.card a ≡ v.card a) → used_count w n ≡ used_count v n
  unfolding used_count
  used_count_same zero f = refl
  used_count_same (suc n) f = rw (f n (omega arith), used_count_same n (λ a h. f a (omega arith)))

  -- one free slot more in use, and the others as they were
  pub used_count_more : (n s : ℕ) → s < n → v.card s ≡ 0 → 1 ≤ w.card s
      → ((a : ℕ) → (a ≡ s → ⊥) → w.card a ≡ v.card a) → used_count w n ≡ suc (used_count v n)
  unfolding used_count
  used_count_more zero s h z u f = absurd (omega arith)
  used_count_more (suc n) s h z u f = elim (ℕ_discrete s n) [
    | yes e ↦
        let same = used_count_same n (λ a a<n. f a (λ g. omega arith)) in
        let z' : v.card n ≡ 0 = rw e at z in
        let u' : 1 ≤ w.card n = rw e at u in
        omega arith
    | no ne ↦
        let more = used_count_more n s (omega arith) z u f in
        let same = f n (λ g. ne (sym g)) in
        omega arith
  ]

-- ---- the distance count

module _ {Sig : Type 0} (v : View Sig) where
  pub child_counts_append : (l m : List ℕ) → child_counts v (l ++ m) ≡ child_counts v l + child_counts v m
  unfolding child_counts
  child_counts_append [] m = omega arith
  child_counts_append (a ∷ l) m = rw (child_counts_append l m) (omega arith)

  child_counts_length : (l : List ℕ) → child_counts v l ≡ length (flat_map v.children l)
  unfolding child_counts flat_map
  child_counts_length [] = refl
  child_counts_length (a ∷ l) = rw (length-append (v.children a) (flat_map v.children l), child_counts_length l)

  -- the distance count is the number of slots compared
  pub distance_count_compared : (root : ℕ) (l : List ℕ) → distance_count v l ≡ length (compared v root l)
  unfolding distance_count compared
  distance_count_compared root l = omega (arith, child_counts_length l)

  child_counts_part : {l m : List ℕ} → l ⊑ m → child_counts v l ≤ child_counts v m
  unfolding child_counts
  child_counts_part Sublistᴰ.slnil = omega arith
  child_counts_part (Sublistᴰ.cons s) = omega (arith, child_counts_part s)
  child_counts_part (Sublistᴰ.cons-cons e s) = rw e (omega (arith, child_counts_part s))

  pub distance_count_part : {l m : List ℕ} → l ⊑ m → distance_count v l ≤ distance_count v m
  unfolding distance_count
  distance_count_part s = omega (arith, child_counts_part s)

-- a walk that enters no slot twice compares no slot twice, each of them used
module _ {Sig : Type 0} {v : View Sig} {n root : ℕ} (wf : Formed v n root) (l : List ℕ) where
  pub compared_distinct : Distinct l → Distinct (compared v root l)
  unfolding compared
  compared_distinct p = (
    λ i. let z = flat_map_from v.children root l i in wf.root_top z.0 z.2,
    distinct_flat_map v.children l p (λ a i. children_distinct wf a)
        (λ a b x i j c e. sym (wf.child_parent a x c) ∙ wf.child_parent b x e),
  )

  pub compared_used : (x : ℕ) → x ∈ compared v root l → Used v x
  unfolding compared
  compared_used x (first e) = rw e wf.root_used
  compared_used x (later i) = let z = flat_map_from v.children x l i in wf.child_used z.0 x z.2

  -- so its distance count is at most the number of used records
  pub distance_count_at_most : Distinct l → distance_count v l ≤ used_count v n
  distance_count_at_most p =
      rw (distance_count_compared v root l) (used_at_most wf (compared v root l) (compared_distinct p) compared_used)
