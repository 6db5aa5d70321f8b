-- Gathering's steps as the code takes them: one law for each place where the loop or a branch goes on. Assumes nothing.
use Prim.Native.Nat.{ℕ, suc, ◌+◌, ◌-◌, ◌≤◌, ◌<◌}
use mathlib.Core.Path.{◌≡◌, refl, sym, ap, ◌∙◌}
use mathlib.Core.List.{List, [], ◌∷◌, ◌++◌, map, map-append, flat_map}
use native.Mathlib.Omega.{arith}
use native.Mathlib.Numerals.{add-one}
use native.Mathlib.Nat.{add-zero}
use lib.ListN.{length, length-map, set, take, drop, length-append, drop_of_length-le}
use lib.Seq.{sets, sets-eq, length-sets, take_at, drop-cons, length-take-le, get_or-take}
use Rattle.places.specs.Fill.{sets_append}
use Rattle.table.specs.Record.{Record, slot, children}
use Rattle.tree.specs.View.{under}
use Rattle.age.specs.Key.{key_of}
use Rattle.below.specs.Loop.Gather.{Gathered, slots_under, gathered}

module _ (R : ℕ → Record) where
  -- ---- the row of keys

  pub gathered_none : (keys : List ℕ) (m : ℕ) (ss : List ℕ) → ss ≡ []
      → ◌≡◌ {A = Gathered} (record { keys = keys; at = m }) (gathered R keys m ss)
  unfolding gathered
  gathered_none keys m ss e = rw (e, add-zero m)

  pub gathered_first : (keys : List ℕ) (m a : ℕ) (ss : List ℕ)
      → gathered R (set keys m (key_of R a)) (m + 1) ss ≡ gathered R keys m (a ∷ ss)
  unfolding gathered
  gathered_first keys m a ss =
      let e : m + 1 + length ss ≡ m + suc (length ss) = omega arith in rw (e, add-one m)

  pub gathered_append : (keys : List ℕ) (m : ℕ) (xs ys : List ℕ)
      → gathered R keys m (xs ++ ys) ≡ gathered R (gathered R keys m xs).keys (gathered R keys m xs).at ys
  unfolding gathered
  gathered_append keys m xs ys =
      let e : m + (length xs + length ys) ≡ m + length xs + length ys = omega arith in
      rw (
        map-append (key_of R) xs ys,
        sets_append (map (key_of R) xs) (map (key_of R) ys) keys m,
        length-map xs (key_of R),
        length-append xs ys,
        e,
      )

  pub gathered_at : (keys : List ℕ) (m : ℕ) (ss : List ℕ) → (gathered R keys m ss).at ≡ m + length ss
  unfolding gathered
  gathered_at keys m ss = refl

  -- the whole row of keys that is written
  pub gathered_whole : (keys ss row : List ℕ) (m : ℕ) → length ss ≤ length keys
      → ◌≡◌ {A = Gathered} (record { keys = row; at = m }) (gathered R keys 0 ss)
      → (m ≡ length ss) × (length row ≡ length keys) × (take m row ≡ map (key_of R) ss)
  unfolding gathered
  gathered_whole keys ss row m h e =
      let count : m ≡ length ss = omega (arith, ap (λ (g : Gathered). g.at) e) in
      let row_is : row ≡ sets keys 0 (map (key_of R) ss) = ap (λ (g : Gathered). g.keys) e in
      let split = sets-eq (map (key_of R) ss) keys 0 (omega (arith, length-map ss (key_of R))) in (
        count,
        ap length row_is ∙ length-sets keys 0 (map (key_of R) ss),
        ap (take m) (row_is ∙ split)
            ∙ take_at (map (key_of R) ss) (drop (0 + length (map (key_of R) ss)) keys) m
            (length-map ss (key_of R) ∙ sym count),
      )

  -- ---- what is left of the children's turn

  -- all at or below the children of a from the k-th on
  unfoldable pub rest_from : ℕ → ℕ → ℕ → List ℕ
  rest_from left a k = flat_map (slots_under R left) (drop k (children (R a)))

  pub under_end : (left a : ℕ) → left ≡ 0 → slots_under R left a ≡ []
  unfolding under
  under_end left a e = rw e

  pub under_first : (left a : ℕ) → (left ≡ 0 → ⊥) → slots_under R left a ≡ a ∷ rest_from (left - 1) a 0
  unfolding under rest_from
  under_first left a ne =
      let e : left ≡ suc (left - 1) = omega arith in
      ap (λ (f : ℕ). slots_under R f a) e

  pub rest_end : (left a k : ℕ) → (R a).count ≤ length (R a).slots → (R a).count ≤ k → rest_from left a k ≡ []
  unfolding rest_from flat_map
  rest_end left a k fits h =
      rw (drop_of_length-le (children (R a)) {i = k} (omega (arith, length-take-le (R a).count (R a).slots fits)))

  pub rest_more : (left a k c : ℕ) → (R a).count ≤ length (R a).slots → k < (R a).count → c ≡ slot (R a) k
      → rest_from left a k ≡ slots_under R left c ++ rest_from left a (k + 1)
  unfolding rest_from flat_map
  rest_more left a k c fits h e =
      rw (
        drop-cons (children (R a)) k 0 (omega (arith, length-take-le (R a).count (R a).slots fits)),
        add-one k,
        e,
        get_or-take (R a).count (R a).slots k 0 h,
      )
