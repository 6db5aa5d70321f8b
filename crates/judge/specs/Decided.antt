-- The test of WellFormed.antt says yes exactly where the statements hold. Assumes nothing.
use Prim.Native.Nat.{ℕ, zero, suc, ◌+◌, ◌≤◌, ◌<◌}
use Rattle.std.specs.Prelude.{◌≡◌, refl, Bool, true, false, eqb}
use Rattle.std.proofs.Math.Path.{sym}
use Rattle.std.proofs.Common.{ap, ◌∙◌, arith}
use borrow.Author.Tests.{eqb-true, eq-eqb, ne_eqb}
use Rattle.places.specs.Choice.{pick}
use Rattle.places.specs.Test.{count_to}
use Rattle.places.specs.Count.{none_counted, some_counted, one_counted, counted_one, seen_counted}
use Rattle.places.specs.Decides.{Decides, lt_decided, eq_decided, both, if_so, not_so, chosen, at_each, reworded}
use Rattle.table.specs.Record.{Record, Used, used, free, slot, no_slot}
use Rattle.judge.specs.WellFormed.{
  Filled,
  Hung,
  Owned,
  WellFormed,
  if_any,
  each_used,
  all_formed,
  distinct,
  one_kind,
  is_root,
  one_root,
  all_hung,
  all_owned,
  all_rising,
  well_formed,
  standing,
}
use Rattle.judge.specs.OneDecided.{filled_decided, free_decided, used_decided}

-- ---- each clause

-- "if any record is used, exactly one is a root", its two halves
abbrev pub Roots : ℕ → (ℕ → Record) → Type 0
Roots n R =
    ((s : ℕ) → s < n → Used (R s) → (a : ℕ) × (a < n) × Used (R a) × ((R a).parent ≡ no_slot))
    × ((a b : ℕ)
    → a < n
    → b < n
    → Used (R a)
    → Used (R b)
    → (R a).parent ≡ no_slot
    → (R b).parent ≡ no_slot
    → a ≡ b)

pub if_some : (k : ℕ) → 1 ≤ k → if_any k ≡ 1
if_some k h = ap (λ (t : Bool). pick t 0 1) (ne_eqb k 0 (λ e. omega arith))

pub if_at_most : (k : ℕ) → if_any k ≤ 1
if_at_most k = go (eqb k 0)
  where
    go : (t : Bool) → pick {A = ℕ} t 0 1 ≤ 1
    go true = omega arith
    go false = omega arith

module _ (n : ℕ) (R : ℕ → Record) where
  each_used_lem :
      {p : ℕ → Bool} {P : ℕ → Type 0}
      → ((s : ℕ) → Decides (p s) (P s))
      → Decides (each_used n R p) ((s : ℕ) → s < n → Used (R s) → P s)
  each_used_lem d = at_each n (λ s. if_so (used_decided (R s)) (d s))

  formed_decided_each :
      Decides
      (all_formed n R)
      ((s : ℕ) → s < n → (Used (R s) → Filled (R s)) × ((R s).card ≡ 0 → R s ≡ free))
  unfolding all_formed
  formed_decided_each =
      at_each
      n
      (λ s.
      reworded
      (λ h. (h.0, λ z. h.1 (λ u. omega arith)))
      (λ h. (h.0, λ u. h.1 (omega arith)))
      (chosen (used_decided (R s)) (filled_decided (R s)) (free_decided (R s))))

  pub distinct_decided :
      (f : Record → ℕ)
      → Decides
      (distinct n R f)
      ((a b : ℕ) → a < n → b < n → Used (R a) → Used (R b) → f (R a) ≡ f (R b) → a ≡ b)
  unfolding distinct
  distinct_decided f =
      reworded
      (λ h a b ba bb ua ub e.
      let after : ¬ (b < a) = λ l. h a ba ua b l ub e in
      let before : ¬ (a < b) = λ l. h b bb ub a l ua (sym e) in
      omega arith)
      (λ h a ba ua b l ub e. let same : a ≡ b = h a b ba (omega arith) ua ub e in omega arith)
      (each_used_lem
      (λ a. at_each a (λ b. if_so (used_decided (R b)) (not_so (eq_decided (f (R a)) (f (R b)))))))

  kinds_decided :
      Decides
      (one_kind n R)
      ((a : ℕ) → a < n → Used (R a) → (b : ℕ) → b < n → Used (R b) → (R a).kind ≡ (R b).kind)
  unfolding one_kind
  kinds_decided = each_used_lem (λ a. each_used_lem (λ b. eq_decided (R a).kind (R b).kind))

  pub root_decided : (s : ℕ) → Decides (is_root R s) (Used (R s) × ((R s).parent ≡ no_slot))
  root_decided s = both (used_decided (R s)) (eq_decided (R s).parent no_slot)

  roots_shown : one_root n R ≡ true → Roots n R
  unfolding one_root
  roots_shown e =
      let roots : count_to n (is_root R) ≡ if_any (count_to n (λ s. used (R s))) = eqb-true _ _ e in (
        λ s b u.
            let any = seen_counted n (λ a. used (R a)) s b ((used_decided (R s)).passes u) in
            let r = some_counted n (is_root R) (omega (arith, roots, if_some (count_to n (λ a. used (R a))) any)) in
            let q = (root_decided r.0).shows r.2 in
            (r.0, r.1, q.0, q.1),
        λ a b ba bb ua ub ea eb.
            sym
            (counted_one
            n
            (is_root R)
            (omega (arith, roots, if_at_most (count_to n (λ s. used (R s)))))
            a
            b
            ba
            bb
            ((root_decided a).passes (ua, ea))
            ((root_decided b).passes (ub, eb))),
      )

  roots_passed : Roots n R → one_root n R ≡ true
  unfolding one_root
  roots_passed h = eq-eqb _ _ (go (count_to n (λ s. used (R s))) refl)
    where
      go : (k : ℕ) → count_to n (λ s. used (R s)) ≡ k → count_to n (is_root R) ≡ if_any k
      go zero e =
          none_counted
          n
          (is_root R)
          (λ k b y.
          let u : Used (R k) = ((root_decided k).shows y).0 in
          let any : 1 ≤ count_to n (λ s. used (R s)) =
          seen_counted n (λ s. used (R s)) k b ((used_decided (R k)).passes u) in
          omega arith)
      go (suc k) e =
          let s = some_counted n (λ a. used (R a)) (omega arith) in
          let r = h.0 s.0 s.1 ((used_decided (R s.0)).shows s.2) in
          one_counted
          n
          r.0
          (is_root R)
          r.1
          ((root_decided r.0).passes (r.2, r.3))
          (λ a b y.
          let q = (root_decided a).shows y in h.1 a r.0 b r.1 q.0 r.2 q.1 r.3)
          ∙ sym (if_some (suc k) (omega arith))

  pub roots_decided : Decides (one_root n R) (Roots n R)
  roots_decided = record { shows = roots_shown; passes = roots_passed }

  hung_decided :
      Decides (all_hung n R) ((s : ℕ) → s < n → Used (R s) → ((R s).parent ≡ no_slot → ⊥) → Hung n R s)
  unfolding all_hung
  hung_decided =
      each_used_lem
      (λ s.
      if_so
      (not_so (eq_decided (R s).parent no_slot))
      (reworded
      (λ h.
      record { parent_in = h.0.0; parent_used = h.0.1; parent_older = h.1.0; stands_once = h.1.1 })
      (λ h. ((h.parent_in, h.parent_used), (h.parent_older, h.stands_once)))
      (both
      (both (lt_decided (R s).parent n) (used_decided (R (R s).parent)))
      (both
      (lt_decided (R (R s).parent).timestamp (R s).timestamp)
      (eq_decided (standing s (R (R s).parent)) 1)))))

  owned_decided :
      Decides
      (all_owned n R)
      ((a : ℕ) → a < n → Used (R a) → (i : ℕ) → i < (R a).count → Owned n R a (slot (R a) i))
  unfolding all_owned
  owned_decided =
      each_used_lem
      (λ a.
      at_each
      (R a).count
      (λ i.
      reworded
      (λ h. record { child_in = h.0; child_used = h.1.0; child_parent = h.1.1 })
      (λ h. (h.child_in, (h.child_used, h.child_parent)))
      (both
      (lt_decided (slot (R a) i) n)
      (both (used_decided (R (slot (R a) i))) (eq_decided (R (slot (R a) i)).parent a)))))

  rising_decided :
      Decides
      (all_rising n R)
      ((a : ℕ)
      → a < n
      → Used (R a)
      → (i : ℕ)
      → i < (R a).count
      → i + 1 < (R a).count
      → (R (slot (R a) i)).timestamp < (R (slot (R a) (i + 1))).timestamp)
  unfolding all_rising
  rising_decided =
      each_used_lem
      (λ a.
      at_each
      (R a).count
      (λ i.
      if_so
      (lt_decided (i + 1) (R a).count)
      (lt_decided (R (slot (R a) i)).timestamp (R (slot (R a) (i + 1))).timestamp)))

  -- ---- all together

  pub formed_decided : Decides (well_formed n R) (WellFormed n R)
  unfolding well_formed
  formed_decided =
      reworded
      (λ h.
      record {
        free_if_no_card = λ s b. (h.0.0.0 s b).1;
        filled = λ s b. (h.0.0.0 s b).0;
        cards = h.0.0.1.0;
        timestamps = h.0.0.1.1;
        kinds = λ a b ba bb ua ub. h.0.1.0 a ba ua b bb ub;
        a_root = h.0.1.1.0;
        one_root_lem = h.0.1.1.1;
        hung = h.1.0;
        owned = λ a i b u l. h.1.1.0 a b u i l;
        rising = λ a i b u l. h.1.1.1 a b u i (omega arith) l;
      })
      (λ w. (
        (
          (λ s b. (w.filled s b, w.free_if_no_card s b), (w.cards, w.timestamps)),
          (λ a ba ua b bb ub. w.kinds a b ba bb ua ub, (w.a_root, w.one_root_lem)),
        ),
        (w.hung, (λ a b u i l. w.owned a i b u l, λ a b u i _ l. w.rising a i b u l)),
      ))
      (both
      (both
      (both
      formed_decided_each
      (both (distinct_decided (λ r. r.card)) (distinct_decided (λ r. r.timestamp))))
      (both kinds_decided roots_decided))
      (both hung_decided (both owned_decided rising_decided)))
