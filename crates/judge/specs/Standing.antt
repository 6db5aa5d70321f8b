-- How often each slot stands among the child slots of all records. Let s stand f s times there. Where each child slot
-- within its count names a used record whose parent is this one, only the parent has s among its child slots, and the
-- sum of f over the slots is the sum of the child counts. So, where no record has s twice, that sum is the number of
-- used records less the roots exactly if f s is 1 for each of them. Assumes nothing.
use Rattle.std.specs.Prelude.{ℕ, zero, suc, ◌+◌, ◌≤◌, ◌<◌, ◌≡◌, refl, Bool, true, false, ◌&&◌, not, eqb}
use Rattle.std.proofs.Common.{sym, ap, ◌∙◌, arith, eqb-true}
use Rattle.std.proofs.lemmas.Bool.{false≢true}
use Rattle.places.specs.Choice.{pick}
use Rattle.places.specs.Sum.{sum_to, sum_below, sum_same, sum_tight, sum_only, sum_add, sum_swap, some_part}
use Rattle.places.specs.Count.{one, one_yes, count_sum, some_counted, spread}
use Rattle.places.specs.Decides.{Decides, eq_decided, both, not_so}
use Rattle.table.specs.Record.{Record, Used, used, free, slot, no_slot}
use Rattle.judge.specs.WellFormed.{Hung, Owned, is_root, standing}
use Rattle.judge.specs.OneDecided.{used_decided}
use Rattle.judge.specs.Counted.{used_count, root_count, child_count}

-- how often s stands in the child slots of all records
abbrev pub standings : ℕ → (ℕ → Record) → ℕ → ℕ
standings n R s = sum_to n (λ a. standing s (R a))

-- a used record that is no root
abbrev pub is_child : (ℕ → Record) → ℕ → Bool
is_child R s = used (R s) && not (eqb (R s).parent no_slot)

pub child_decided : (R : ℕ → Record) (s : ℕ) → Decides (is_child R s) (Used (R s) × ((R s).parent ≡ no_slot → ⊥))
child_decided R s = both (used_decided (R s)) (not_so (eq_decided (R s).parent no_slot))

-- a free record counts nothing: what does is used
pub used_by : (f : Record → ℕ) (r : Record) → f free ≡ 0 → (r.card ≡ 0 → r ≡ free) → 1 ≤ f r → Used r
used_by f r z h l = go r.card refl
  where
    go : (v : ℕ) → r.card ≡ v → 1 ≤ v
    go zero e = absurd (omega (arith, ap f (h e)))
    go (suc v) e = omega arith

module _ (n : ℕ) (R : ℕ → Record)
    (small : n ≤ no_slot)
    (free_if_no_card : (s : ℕ) → s < n → (R s).card ≡ 0 → R s ≡ free)
    (owned : (a : ℕ) → a < n → Used (R a) → (i : ℕ) → i < (R a).count → Owned n R a (slot (R a) i)) where
  -- a record with a child is used
  has_child_used : (a : ℕ) → a < n → 1 ≤ (R a).count → Used (R a)
  has_child_used a b = used_by (λ r. r.count) (R a) refl (free_if_no_card a b)

  owned' : (a : ℕ) → a < n → (i : ℕ) → i < (R a).count → Owned n R a (slot (R a) i)
  owned' a b i l = owned a b (has_child_used a b (omega arith)) i l

  -- where s stands in the child slots of a
  pub where_stands : (a s : ℕ) → 1 ≤ standing s (R a) → (i : ℕ) × (i < (R a).count) × (slot (R a) i ≡ s)
  where_stands a s h =
      let r = some_counted (R a).count (λ i. eqb (slot (R a) i) s) h in
      (r.0, r.1, eqb-true (slot (R a) r.0) s r.2)

  stands_owned : (a s : ℕ) → a < n → 1 ≤ standing s (R a) → Owned n R a s
  stands_owned a s b h = let r = where_stands a s h in rw r.2 at (owned' a b r.0 r.1)

  -- no record but the parent has s among its child slots
  stands_at_parent : (a s : ℕ) → a < n → (R s).parent ≡ a → standings n R s ≡ standing s (R a)
  stands_at_parent a s b e =
      sum_only n a (λ p. standing s (R p)) b (λ p l d. none p l d (standing s (R p)) refl)
    where
      none : (p : ℕ) → p < n → (p ≡ a → ⊥) → (k : ℕ) → standing s (R p) ≡ k → k ≡ 0
      none p l d zero q = refl
      none p l d (suc k) q = absurd (d (sym (stands_owned p s l (omega arith)).child_parent ∙ e))

  -- whatever stands among child slots has a used parent there
  stands_child : (s : ℕ) → 1 ≤ standings n R s → (a : ℕ) × (a < n) × Used (R a) × Owned n R a s
  stands_child s h =
      let r = some_part n (λ a. standing s (R a)) h in
      let w = where_stands r.0 s r.2 in
      (r.0, r.1, has_child_used r.0 r.1 (omega (arith, w.1)), stands_owned r.0 s r.1 r.2)

  -- all child counts together are all standings together
  standings_sum : child_count n R ≡ sum_to n (λ s. standings n R s)
  standings_sum =
      sum_below n (λ a. pick (used (R a)) (R a).count 0) (λ a. sum_to n (λ s. standing s (R a))) row
      ∙ sum_swap n n (λ a s. standing s (R a))
    where
      row : (a : ℕ) → a < n → pick (used (R a)) (R a).count 0 ≡ sum_to n (λ s. standing s (R a))
      row a b =
          all (used (R a)) refl
          ∙ sym (spread n (R a).count (λ i. slot (R a) i) (λ i l. (owned' a b i l).child_in))
        where
          all : (t : Bool) → used (R a) ≡ t → pick t (R a).count 0 ≡ (R a).count
          all true e = refl
          all false e = unused (R a).count refl
            where
              unused : (k : ℕ) → (R a).count ≡ k → 0 ≡ (R a).count
              unused zero q = sym q
              unused (suc k) q =
                  absurd (false≢true (sym e ∙ (used_decided (R a)).passes (has_child_used a b (omega arith))))

  -- ---- one for each child

  -- the used records are the roots and the children
  children_and_roots : sum_to n (λ s. one (is_child R s)) + root_count n R ≡ used_count n R
  children_and_roots =
      let parts : sum_to n (λ s. one (is_child R s) + one (is_root R s))
      ≡ sum_to n (λ s. one (is_child R s)) + sum_to n (λ s. one (is_root R s)) =
      sum_add n (λ s. one (is_child R s)) (λ s. one (is_root R s)) in
      let each : sum_to n (λ s. one (is_child R s) + one (is_root R s)) ≡ sum_to n (λ s. one (used (R s))) =
      sum_same n (λ s. one (is_child R s) + one (is_root R s)) (λ s. one (used (R s)))
      (λ s. split (used (R s)) (eqb (R s).parent no_slot)) in
      omega (arith, count_sum n (is_root R), count_sum n (λ s. used (R s)))
    where
      split : (u t : Bool) → one (u && not t) + one (u && t) ≡ one u
      split true true = refl
      split true false = refl
      split false true = refl
      split false false = refl

  owned_child : (a s : ℕ) → a < n → Owned n R a s → is_child R s ≡ true
  owned_child a s b o = (child_decided R s).passes (o.child_used, λ q. omega (arith, o.child_parent))

  -- where no record has s twice, f s is at most 1 for a child, and 0 for any other
  standings_least :
      ((a s : ℕ) → a < n → Used (R a) → standing s (R a) ≤ 1) → (s : ℕ) → standings n R s ≤ one (is_child R s)
  standings_least once s = go (standings n R s) refl
    where
      go : (k : ℕ) → standings n R s ≡ k → k ≤ one (is_child R s)
      go zero e = omega arith
      go (suc k) e =
          let r = stands_child s (omega arith) in
          omega (
            arith,
            one_yes (is_child R s) (owned_child r.0 s r.1 r.3),
            stands_at_parent r.0 s r.1 r.3.child_parent,
            once r.0 s r.1 r.2,
          )

  -- the counts agree if each child stands once
  pub counts_agree :
      ((s : ℕ) → s < n → Used (R s) → ((R s).parent ≡ no_slot → ⊥) → Hung n R s)
      → child_count n R + root_count n R ≡ used_count n R
  counts_agree hung =
      let same : sum_to n (λ s. standings n R s) ≡ sum_to n (λ s. one (is_child R s)) =
      sum_below n (λ s. standings n R s) (λ s. one (is_child R s)) each in
      omega (arith, standings_sum, children_and_roots)
    where
      each : (s : ℕ) → s < n → standings n R s ≡ one (is_child R s)
      each s b = go (is_child R s) refl
        where
          go : (t : Bool) → is_child R s ≡ t → standings n R s ≡ one t
          go true e =
              let q = (child_decided R s).shows e in
              let h = hung s b q.0 q.1 in
              stands_at_parent (R s).parent s h.parent_in refl ∙ h.stands_once
          go false e = none (standings n R s) refl
            where
              none : (k : ℕ) → standings n R s ≡ k → k ≡ 0
              none zero q = refl
              none (suc k) q =
                  let r = stands_child s (omega arith) in
                  absurd (false≢true (sym e ∙ owned_child r.0 s r.1 r.3))

  -- each child stands once if the counts agree
  pub child_stands :
      ((a s : ℕ) → a < n → Used (R a) → standing s (R a) ≤ 1)
      → child_count n R + root_count n R ≡ used_count n R
      → (s : ℕ)
      → s < n
      → is_child R s ≡ true
      → (a : ℕ) × (a < n) × Used (R a) × Owned n R a s × (standing s (R a) ≡ 1)
  child_stands once agree s b e =
      let f : standings n R s ≡ 1 =
      sum_tight n (λ k. standings n R k) (λ k. one (is_child R k)) (λ k _. standings_least once k)
      (omega (arith, standings_sum, children_and_roots)) s b
      ∙ one_yes (is_child R s) e in
      let r = stands_child s (omega arith) in
      (r.0, r.1, r.2, r.3, sym (stands_at_parent r.0 s r.1 r.3.child_parent) ∙ f)
