-- A well-formed table's view is what the tree's theorems ask for (`formed_view`), and back again (`formed_table`),
-- given what the view does not see (`Fields`). The key idea: no slot of a table is 65,535, so a record has a parent or
-- is the root; and rising timestamps let each child stand once. Assumes nothing.
use Rattle.std.specs.Prelude.{ℕ, suc, ◌+◌, ◌≤◌, ◌<◌, ◌≡◌, ◌⊎◌, length}
use Rattle.std.proofs.Common.{sym, ap, ◌∙◌, inl, inr, arith, add-one}
use mathlib.Core.List.Memᴰ
use Rattle.std.proofs.Math.Decide.{ℕ_discrete, dec_le}
use Rattle.table.specs.Record.{Record, Used, free, slot, no_slot, children}
use Rattle.refusals.specs.Limits.{most_records}
use Rattle.judge.specs.WellFormed.{WellFormed, Filled, Hung, Owned}
use Rattle.survey.specs.Survey.{used_in, root_of}
use Rattle.tree.specs.Slots.{◌∈◌}
use Rattle.places.specs.Cases.{either}
use Rattle.tree.specs.View.{Rising, Formed}
use Rattle.tree.specs.View.Shape.{children_distinct}
use Rattle.view.specs.View.{view_of}
use Rattle.view.specs.Shaped.{Shaped}
use Rattle.view.specs.Children.{
  children_length,
  children_slot,
  children_at,
  slot_child,
  standing_child,
  child_standing,
  rising_from,
  rising_at,
}
use Rattle.survey.specs.Laws.{used_in_seen}
use Rattle.view.specs.Survey.{root_of_is}

-- ---- each record is free or used

-- no record past the table's slots is used
pub used_within : {n : ℕ} {R : ℕ → Record} → Shaped n R → (a : ℕ) → Used (R a) → a < n
used_within {n} {R} shape a u = elim (dec_le (suc a) n) [
  | yes h ↦ h
  | no nh ↦
      let e : R a ≡ free = shape.past a (omega arith) in
      absurd (omega (arith, ap (λ (r : Record). r.card) e))
]

pub free_or_used :
    {n : ℕ} {R : ℕ → Record}
    → Shaped n R
    → ((s : ℕ) → s < n → (R s).card ≡ 0 → R s ≡ free)
    → (a : ℕ)
    → (R a ≡ free) ⊎ ((a < n) × Used (R a))
free_or_used {n} {R} shape frees a = elim (dec_le (suc a) n) [
  | no nh ↦ inl (shape.past a (omega arith))
  | yes h ↦ elim (ℕ_discrete (R a).card 0) [ yes z ↦ inl (frees a h z) | no nz ↦ inr (h, omega arith) ]
]

-- no record has more children than slots
pub count_fits :
    {n : ℕ} {R : ℕ → Record}
    → Shaped n R
    → ((s : ℕ) → s < n → (R s).card ≡ 0 → R s ≡ free)
    → ((s : ℕ) → s < n → Used (R s) → Filled (R s))
    → (a : ℕ)
    → (R a).count ≤ length (R a).slots
count_fits {n} {R} shape frees fills a =
    either
    (free_or_used shape frees a)
    (λ e. omega (arith, ap (λ (r : Record). r.count) e))
    (λ z. omega (arith, shape.eight a, (fills a z.0 z.1).count_to_8))

-- ---- from the table to the view

module _ {n : ℕ} {R : ℕ → Record} (small : n ≤ most_records) (shape : Shaped n R) (wf : WellFormed n R) where
  fits : (a : ℕ) → (R a).count ≤ length (R a).slots
  fits = count_fits shape wf.free_if_no_card wf.filled

  -- what has a child is used, and the child names it
  child_owned : (a b : ℕ) → b ∈ children (R a) → (a < n) × Used (R a) × Owned n R a b
  child_owned a b j =
      either
      (free_or_used shape wf.free_if_no_card a)
      (λ e. absurd (Memᴰ.not-nil (rw e at j)))
      (λ z.
      let y = children_at (R a) (fits a) b j in
      (z.0, z.1, rw y.2 at (wf.owned a y.0 z.0 z.1 y.1)))

  -- a child is not the root
  child_hung : (a b : ℕ) → b ∈ children (R a) → Hung n R b
  child_hung a b j =
      let o = child_owned a b j in
      wf.hung b o.2.child_in o.2.child_used (λ e. omega (arith, o.0, o.2.child_parent))

  rises : (a : ℕ) → Rising (λ (s : ℕ). (R s).timestamp) (children (R a))
  rises a =
      either
      (free_or_used shape wf.free_if_no_card a)
      (λ e. rw e tt)
      (λ z.
      rising_from
      (λ (s : ℕ). (R s).timestamp)
      (children (R a))
      (λ i h.
      let b : i + 1 < (R a).count = omega (arith, children_length (R a) (fits a)) in
      rw
      (children_slot (R a) (fits a) i (omega arith), ← add-one i, children_slot (R a) (fits a) (i + 1) b)
      (wf.rising a i z.0 z.1 b)))

  pub formed_view : 1 ≤ used_in n R → Formed (view_of R) n (root_of n R)
  formed_view some =
      let root = root_of_is n R wf some in
      record {
        within = used_within shape;
        cards = λ a b u w. wf.cards a b (used_within shape a u) (used_within shape b w) u w;
        timestamps = λ a b u w. wf.timestamps a b (used_within shape a u) (used_within shape b w) u w;
        root_used = root.1;
        root_top =
            λ a j.
            let o = child_owned a (root_of n R) j in
            omega (arith, o.0, o.2.child_parent, root.2);
        hung =
            λ a u ne.
            let b = used_within shape a u in
            let h = wf.hung a b u (λ e. ne (wf.one_root_lem a (root_of n R) b root.0 u root.1 e root.2)) in
            (h.parent_used, standing_child (R (R a).parent) (fits (R a).parent) a h.stands_once);
        older =
            λ a b j.
            rw (child_owned a b j).2.child_parent at (child_hung a b j).parent_older;
        child_used = λ a b j. (child_owned a b j).2.child_used;
        child_parent = λ a b j. (child_owned a b j).2.child_parent;
        rising = rises;
        parent_used = λ a b j. (child_owned a b j).1;
      }

-- ---- and back

-- what the view does not see of a well-formed table whose root this is
pub record Fields (n : ℕ) (R : ℕ → Record) (root : ℕ) : Type 0 where
  -- each record is free or has every field as the paper's table has it
  pub free_if_no_card : (s : ℕ) → s < n → (R s).card ≡ 0 → R s ≡ free
  pub filled : (s : ℕ) → s < n → Used (R s) → Filled (R s)
  -- all kinds are equal
  pub kinds : (a b : ℕ) → a < n → b < n → Used (R a) → Used (R b) → (R a).kind ≡ (R b).kind
  -- the root names no parent
  pub root_parent : (R root).parent ≡ no_slot

module _ {n : ℕ} {R : ℕ → Record} {root : ℕ} (small : n ≤ most_records) (shape : Shaped n R)
    (seen : Formed (view_of R) n root) (rest : Fields n R root) where
  holds : (a : ℕ) → (R a).count ≤ length (R a).slots
  holds = count_fits shape rest.free_if_no_card rest.filled

  -- a record without a parent is the root
  parentless : (a : ℕ) → Used (R a) → (R a).parent ≡ no_slot → a ≡ root
  parentless a u e = elim (ℕ_discrete a root) [
    | yes q ↦ q
    | no nq ↦ absurd (omega (arith, seen.within (R a).parent (seen.hung a u nq).0))
  ]

  pub formed_table : WellFormed n R
  formed_table =
      record {
        free_if_no_card = rest.free_if_no_card;
        filled = rest.filled;
        cards = λ a b _ _. seen.cards a b;
        timestamps = λ a b _ _. seen.timestamps a b;
        kinds = rest.kinds;
        a_root = λ s b u. (root, seen.within root seen.root_used, seen.root_used, rest.root_parent);
        one_root_lem = λ a b _ _ u w e f. parentless a u e ∙ sym (parentless b w f);
        hung =
            λ s b u ne.
            let h = seen.hung s u (λ e. ne (ap (λ (a : ℕ). (R a).parent) e ∙ rest.root_parent)) in
            record {
              parent_in = seen.within (R s).parent h.0;
              parent_used = h.0;
              parent_older = seen.older (R s).parent s h.1;
              stands_once =
                  let p = (R s).parent in
                  child_standing (R p) (holds p) s (children_distinct seen p) h.1;
            };
        owned =
            λ a i b u l.
            let j = slot_child (R a) (holds a) i l in
            record {
              child_in = seen.within (slot (R a) i) (seen.child_used a (slot (R a) i) j);
              child_used = seen.child_used a (slot (R a) i) j;
              child_parent = seen.child_parent a (slot (R a) i) j;
            };
        rising =
            λ a i b u l.
            rw
            (← children_slot (R a) (holds a) i (omega arith), ← children_slot (R a) (holds a) (i + 1) l, add-one i)
            (rising_at
            (λ (s : ℕ). (R s).timestamp)
            (children (R a))
            (seen.rising a)
            i
            (omega (arith, children_length (R a) (holds a))));
      }

-- ---- a free table

-- where no record is used, each is free
pub none_used : {n : ℕ} {R : ℕ → Record} → Shaped n R → WellFormed n R → used_in n R ≡ 0 → (s : ℕ) → R s ≡ free
none_used {n} {R} shape wf none s =
    either
    (free_or_used shape wf.free_if_no_card s)
    (λ e. e)
    (λ z. absurd (omega (arith, used_in_seen n R s z.0 z.1)))

-- free records make a well-formed table
pub free_formed : {n : ℕ} {R : ℕ → Record} → ((s : ℕ) → s < n → R s ≡ free) → WellFormed n R
free_formed {n} {R} frees =
    record {
      free_if_no_card = λ s b _. frees s b;
      filled = λ s b u. absurd (unused s b u);
      cards = λ a b p _ u. absurd (unused a p u);
      timestamps = λ a b p _ u. absurd (unused a p u);
      kinds = λ a b p _ u. absurd (unused a p u);
      a_root = λ s b u. absurd (unused s b u);
      one_root_lem = λ a b p _ u. absurd (unused a p u);
      hung = λ s b u. absurd (unused s b u);
      owned = λ a i b u. absurd (unused a b u);
      rising = λ a i b u. absurd (unused a b u);
    }
  where
    unused : (s : ℕ) → s < n → Used (R s) → ⊥
    unused s b u = omega (arith, ap (λ (r : Record). r.card) (frees s b))
