-- The counting form says what the paper's clauses say, in a table of at most 65,535 slots, and its test gives the
-- same answer. Kinds that agree with the last one agree with all; timestamps that rise from child to child, and from
-- the record to its first child, keep a record from having one child twice; and then the numbers say that each stands
-- once (Standing.antt). Assumes nothing.
use Prim.Native.Nat.{ℕ, zero, suc, ◌+◌, ◌≤◌, ◌<◌}
use Rattle.std.specs.Prelude.{◌≡◌}
use Rattle.std.proofs.Math.Path.{refl, sym, ap}
use Rattle.std.proofs.Common.{◌∙◌, arith}
use Rattle.std.proofs.Math.Bool.{true}
use Rattle.std.proofs.Math.Numerals.{add-one}
use Rattle.std.proofs.Math.Dec.{eqb}
use borrow.Author.Tests.{eqb-true, eq-eqb}
use Rattle.places.specs.Count.{few_counted}
use Rattle.places.specs.Decides.{
  Decides,
  eq_decided,
  lt_decided,
  both,
  not_so,
  if_so,
  chosen,
  at_each,
  reworded,
  decides_same,
}
use Rattle.distinct.specs.Distinct.{OnePlaceEach, distinct_to, distinct_reads, reads_distinct}
use Rattle.distance.specs.Kind.{known_between}
use Rattle.table.specs.Record.{Record, Used, free, slot, no_slot}
use Rattle.judge.specs.WellFormed.{Filled, Hung, Owned, WellFormed, if_any, one_root, standing, well_formed}
use Rattle.judge.specs.OneDecided.{used_decided, free_decided, filled_decided}
use Rattle.judge.specs.Decided.{Roots, formed_decided, roots_decided}
use Rattle.judge.specs.Standing.{used_by, child_decided, where_stands, counts_agree, child_stands}
use Rattle.judge.specs.Counted.{
  kind_before,
  time_before,
  all_linked,
  same_kind,
  fits,
  agree,
  counted,
  used_count,
  root_count,
  child_count,
  Linked,
  Counted,
}
use Rattle.judge.specs.Passing.{kind_from, kinds_before, rises}

-- ---- the two forms say the same

module _ (n : ℕ) (R : ℕ → Record) (small : n ≤ no_slot) where
  linked_used : Counted n R → (a i : ℕ) → Linked n R a i → Used (R (slot (R a) i))
  linked_used c a i l =
      used_by
      (λ r. r.timestamp)
      (R (slot (R a) i))
      refl
      (c.free_if_no_card (slot (R a) i) l.child_in)
      (omega (arith, l.child_younger))

  linked_owned :
      Counted n R → (a : ℕ) → a < n → Used (R a) → (i : ℕ) → i < (R a).count → Owned n R a (slot (R a) i)
  linked_owned c a b u i h =
      let l = c.linked a b u i h in
      record { child_in = l.child_in; child_used = linked_used c a i l; child_parent = l.child_parent }

  -- timestamps rise along the children, from the record's own
  times_rise :
      Counted n R
      → (a : ℕ)
      → a < n
      → Used (R a)
      → (i j : ℕ)
      → i < j
      → j ≤ (R a).count
      → time_before R a i < time_before R a j
  unfolding time_before
  times_rise c a b u = rises (time_before R a) (R a).count (λ i h. (c.linked a b u i h).child_younger)

  -- so no record stands twice among the children of one
  stands_at_most_once : Counted n R → (a s : ℕ) → a < n → Used (R a) → standing s (R a) ≤ 1
  unfolding time_before
  stands_at_most_once c a s b u =
      few_counted
      (R a).count
      (λ i. eqb (slot (R a) i) s)
      (λ i j bi bj ei ej.
      let same : slot (R a) i ≡ slot (R a) j = eqb-true _ _ ei ∙ sym (eqb-true _ _ ej) in
      let time : (R (slot (R a) i)).timestamp ≡ (R (slot (R a) j)).timestamp = ap (λ (k : ℕ). (R k).timestamp) same in
      let below : ¬ (i < j) = λ l. omega (arith, times_rise c a b u (suc i) (suc j) (omega arith) bj) in
      let above : ¬ (j < i) = λ l. omega (arith, times_rise c a b u (suc j) (suc i) (omega arith) bi) in
      omega arith)

  counted_hung : Counted n R → (s : ℕ) → s < n → Used (R s) → ((R s).parent ≡ no_slot → ⊥) → Hung n R s
  unfolding time_before
  counted_hung c s b u f =
      let r =
      child_stands n R small c.free_if_no_card (linked_owned c) (stands_at_most_once c) c.each_a_child s b
      ((child_decided R s).passes (u, f)) in
      let e : (R s).parent ≡ r.0 = r.3.child_parent in
      let w = where_stands n R small c.free_if_no_card (linked_owned c) r.0 s (omega (arith, r.4)) in
      let older : (R r.0).timestamp < (R (slot (R r.0) w.0)).timestamp =
      times_rise c r.0 r.1 r.2 0 (suc w.0) (omega arith) w.1 in
      record {
        parent_in = rw e r.1;
        parent_used = rw e r.2;
        parent_older = omega (arith, older, time e, time w.2);
        stands_once = rw e r.4;
      }
    where
      time : {a b : ℕ} → a ≡ b → (R a).timestamp ≡ (R b).timestamp
      time = ap (λ (k : ℕ). (R k).timestamp)

  -- the counting form gives each clause of the paper
  pub counted_formed : Counted n R → WellFormed n R
  unfolding time_before one_root
  counted_formed c =
      let root : Roots n R =
      (roots_decided n R).shows (eq-eqb (root_count n R) (if_any (used_count n R)) c.one_root_lem) in
      let kind : (a : ℕ) → a < n → Used (R a) → kind_before R n ≡ (R a).kind =
      kinds_before R n (λ a b u. (known_between (R a).kind (c.filled a b u).kind_known).0) c.same_kind_lem in
      record {
        free_if_no_card = c.free_if_no_card;
        filled = c.filled;
        cards = λ a b ba bb ua ub e. c.cards a b ba bb ua e;
        timestamps = λ a b ba bb ua ub e. c.timestamps a b ba bb (c.filled a ba ua).timestamp_from_1 e;
        kinds = λ a b ba bb ua ub. sym (kind a ba ua) ∙ kind b bb ub;
        a_root = root.0;
        one_root_lem = root.1;
        hung = counted_hung c;
        owned = λ a i b u l. linked_owned c a b u i l;
        rising = λ a i b u l. rw add-one (c.linked a b u (suc i) (rw add-one at l)).child_younger;
      }

  formed_linked : WellFormed n R → (a : ℕ) → a < n → Used (R a) → (i : ℕ) → i < (R a).count → Linked n R a i
  unfolding time_before
  formed_linked w a b u i l =
      let o = w.owned a i b u l in
      record { child_in = o.child_in; child_parent = o.child_parent; child_younger = younger i l o }
    where
      younger :
          (i : ℕ) → i < (R a).count → Owned n R a (slot (R a) i) → time_before R a i < (R (slot (R a) i)).timestamp
      younger zero l o =
          let h = w.hung (slot (R a) 0) o.child_in o.child_used (λ q. omega (arith, o.child_parent)) in
          rw o.child_parent at h.parent_older
      younger (suc i) l o = rw add-one at (w.rising a i b u (rw add-one l))

  -- the paper's clauses give the counting form
  pub formed_counted : WellFormed n R → Counted n R
  unfolding one_root
  formed_counted w =
      let root : one_root n R ≡ true = (roots_decided n R).passes (w.a_root, w.one_root_lem) in
      record {
        free_if_no_card = w.free_if_no_card;
        filled = w.filled;
        same_kind_lem =
            λ s b u f.
            let k = kind_from R s f in k.3 ∙ w.kinds k.0 s (omega (arith, k.1)) b k.2 u;
        linked = formed_linked w;
        one_root_lem = eqb-true _ _ root;
        each_a_child =
            counts_agree n R small w.free_if_no_card (λ a b u i l. w.owned a i b u l) w.hung;
        cards = λ a b ba bb ua e. w.cards a b ba bb ua (rw (← e) ua) e;
        timestamps = λ a b ba bb h e. w.timestamps a b ba bb (timed a ba h) (timed b bb (rw (← e) h)) e;
      }
    where
      timed : (a : ℕ) → a < n → 1 ≤ (R a).timestamp → Used (R a)
      timed a b = used_by (λ r. r.timestamp) (R a) refl (w.free_if_no_card a b)

-- ---- the test decides it

module _ (n : ℕ) (R : ℕ → Record) where
  distinct_decided : (f : ℕ → ℕ) → Decides (distinct_to n f) (OnePlaceEach n f)
  distinct_decided f = record { shows = distinct_reads n f; passes = reads_distinct n f }

  linked_decided : (a : ℕ) → Decides (all_linked n R a) ((i : ℕ) → i < (R a).count → Linked n R a i)
  unfolding all_linked
  linked_decided a =
      at_each
      (R a).count
      (λ i.
      reworded
      (λ h. record { child_in = h.0; child_parent = h.1.0; child_younger = h.1.1 })
      (λ l. (l.child_in, (l.child_parent, l.child_younger)))
      (both
      (lt_decided (slot (R a) i) n)
      (both
      (eq_decided (R (slot (R a) i)).parent a)
      (lt_decided (time_before R a i) (R (slot (R a) i)).timestamp))))

  kind_decided : (s : ℕ) → Decides (same_kind R s) ((kind_before R s ≡ 0 → ⊥) → kind_before R s ≡ (R s).kind)
  unfolding same_kind
  kind_decided s = if_so (not_so (eq_decided (kind_before R s) 0)) (eq_decided (kind_before R s) (R s).kind)

  fits_decided :
      (s : ℕ)
      → Decides
      (fits n R s)
      ((Used (R s)
      → ((kind_before R s ≡ 0 → ⊥) → kind_before R s ≡ (R s).kind)
      × (Filled (R s) × ((i : ℕ) → i < (R s).count → Linked n R s i)))
      × ((R s).card ≡ 0 → R s ≡ free))
  unfolding fits
  fits_decided s =
      reworded
      (λ h. (h.0, λ z. h.1 (λ u. omega arith)))
      (λ h. (h.0, λ u. h.1 (omega arith)))
      (chosen
      (used_decided (R s))
      (both (kind_decided s) (both (filled_decided (R s)) (linked_decided s)))
      (free_decided (R s)))

  counted_decided : Decides (counted n R) (Counted n R)
  unfolding counted agree
  counted_decided =
      reworded
      (λ h.
      record {
        free_if_no_card = λ s b. (h.0.0 s b).1;
        filled = λ s b u. ((h.0.0 s b).0 u).1.0;
        same_kind_lem = λ s b u. ((h.0.0 s b).0 u).0;
        linked = λ s b u. ((h.0.0 s b).0 u).1.1;
        one_root_lem = h.0.1.0;
        each_a_child = h.0.1.1;
        cards = h.1.0;
        timestamps = h.1.1;
      })
      (λ c. (
        (
          λ s b. (λ u. (c.same_kind_lem s b u, (c.filled s b u, c.linked s b u)), c.free_if_no_card s b),
          (c.one_root_lem, c.each_a_child),
        ),
        (c.cards, c.timestamps),
      ))
      (both
      (both
      (at_each n fits_decided)
      (both
      (eq_decided (root_count n R) (if_any (used_count n R)))
      (eq_decided (child_count n R + root_count n R) (used_count n R))))
      (both (distinct_decided (λ s. (R s).card)) (distinct_decided (λ s. (R s).timestamp))))

  -- the quicker test gives the same answer
  pub counted_same : n ≤ no_slot → counted n R ≡ well_formed n R
  counted_same small =
      decides_same
      (reworded (counted_formed n R small) (formed_counted n R small) counted_decided)
      (formed_decided n R)
