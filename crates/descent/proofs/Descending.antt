-- The descent's loop: what holds at each turn of the walk (`Walking`), and what a turn comes to in the bytes: its end
-- at a record with no child (`walk_leaf`), or by the nearest child its end (`walk_ends`) or the next record
-- (`walk_on`). The key idea: a raised radius changes neither children nor signatures, so what is left of the walk is
-- the definition's at the present slot, with the radii raised so far. Assumes nothing.
use Prim.Native.Nat.{ℕ, suc, ◌+◌, ◌*◌, ◌-◌, ◌≤◌}
use Rattle.std.specs.Prelude.{Option, Some, None, is_some, unwrap_or}
use mathlib.Core.Bool.{Bool, true, false, ◌&&◌, ◌||◌, false≢true}
use mathlib.Core.Path.{◌≡◌, refl, sym, ap, ap₂, ◌∙◌, subst}
use mathlib.Core.List.{List, [], ◌∷◌}
use native.Mathlib.Omega.{arith}
use native.Mathlib.Decide.{ℕ_discrete}
use lib.Dec.{ltb, eqb}
use lib.ListN.{length, set, take}
use borrow.Author.Tests.{eqb-false}
use Rattle.places.specs.Choice.{pick}
use Rattle.refusals.specs.Limits.{most_children}
use Rattle.distance.specs.Kind.{apart}
use Rattle.table.specs.Record.{Record, record_of, children}
use Rattle.table.specs.Table.{records_of, at}
use Rattle.table.specs.Same.{slots_length}
use Rattle.table.specs.Records.{records_at}
use Rattle.writing.specs.Laws.{Became}
use Rattle.tree.specs.Slots.{◌∈◌}
use Rattle.tree.specs.View.{View}
use Rattle.tree.specs.View.{away as away'}
use Rattle.tree.specs.Insert.{nearest}
use Rattle.tree.proofs.Insert.Path.{nearest_∈}
use Rattle.view.specs.View.{view_of}
use Rattle.view.specs.Children.{children_length, children_at}
use Rattle.newcomer.specs.Newcomer.{raised}
use Rattle.newcomer.specs.Kept.{Still, still_self, still_raised}
use Rattle.descent.specs.declared.Near.{Near}
use Rattle.descent.specs.Descent.{Descended, descent, descended}
use Rattle.table.specs.Stands.{Stands, Walkable, stands_same, walkable_same}
use Rattle.descent.specs.Loop.Nearest.{scanned, scanned_none, nearest_of, scanned_nearest}
use Rattle.descent.specs.Loop.DescentTurn.{lifted, descended_leaf, descended_turn}

-- ---- what holds at each turn

-- the walk of x from the root has come to slot a, at the distance `away`
pub record Walking (l₀ : List ℕ) (kind : ℕ) (x : List ℕ) (arity root depth : ℕ) (l : List ℕ) (a away left count : ℕ)
    : Type 0 where
  pub walkable : Walkable l
  pub same_length : length l ≡ length l₀
  pub here : Stands l a
  pub some : 1 ≤ left
  pub less : left ≤ depth
  pub small : count + most_children * left ≤ 1 + most_children * depth
  pub away_is : away ≡ apart kind (record_of l a).readings x
  pub rest :
      descended (apart kind) x arity (records_of l) left a count
      ≡ descended (apart kind) x arity (records_of l₀) depth root 1

-- ---- a turn of the walk

or_false : (p q : Bool) → p || q ≡ false → (p ≡ false) × (q ≡ false)
or_false true q e = absurd (false≢true (sym e))
or_false false q e = (refl, e)

module _ {l₀ x l : List ℕ} {kind arity root depth a away left count : ℕ}
    (w : Walking l₀ kind x arity root depth l a away left count)
    {m : List ℕ} (b : Became l a (raised away (record_of l a)) m) where
  abbrev d : List ℕ → List ℕ → ℕ
  d = apart kind

  abbrev rows : List Record
  rows = records_of l

  -- no record has changed but for a radius
  still : (s : ℕ) → Still (record_of l s) (record_of m s)
  still s = elim (ℕ_discrete s a) [
    | yes e ↦
        let q : record_of m s ≡ raised away (record_of l s) =
        ap (record_of m) e ∙ b.here ∙ ap (λ (i : ℕ). raised away (record_of l i)) (sym e) in
        rw q (still_raised (record_of l s) (record_of l s) away (still_self (record_of l s)))
    | no ne ↦ rw (b.elsewhere s ne) (still_self (record_of l s))
  ]

  pub raised_walkable : Walkable m
  raised_walkable = walkable_same b.same_length (λ s. (still s).count) (λ s. (still s).slots) w.walkable

  pub still_here : Stands m a
  still_here = stands_same l m b.same_length a w.here

  rows_lifted : records_of m ≡ lifted d x arity rows a
  rows_lifted =
      let here = records_at l w.walkable.whole a in
      b.records
      ∙ ap₂
      (λ (k : ℕ) (r : Record). set rows a (raised k r))
      (w.away_is ∙ ap (λ (r : Record). d r.readings x) (sym here))
      (sym here)

  row_readings : (c : ℕ) → (record_of m c).readings ≡ (at rows c).readings
  row_readings c =
      (still c).kept.readings ∙ ap (λ (r : Record). r.readings) (sym (records_at l w.walkable.whole c))

  row_children : children (record_of m a) ≡ children (at rows a)
  row_children =
      ap₂ take (still a).count (still a).slots
      ∙ ap children (sym (records_at l w.walkable.whole a))

  far_same : (λ c. apart kind (record_of m c).readings x) ≡ away' d (view_of (at rows)) x
  far_same i c = apart kind (row_readings c i) x

  pub few : (record_of m a).count ≤ most_children
  few = raised_walkable.few a still_here

  -- the nearest child is found, if there is one
  module _ {n : ℕ} {o : Option Near} (count_is : n ≡ (record_of m a).count)
      (scan : o ≡ scanned (λ c. apart kind (record_of m c).readings x) None (children (record_of m a))) where
    children_n : n ≡ length (children (at rows a))
    children_n =
        count_is
        ∙ sym (children_length (record_of m a) (omega (arith, few, slots_length m a)))
        ∙ ap length row_children

    abbrev view : View (List ℕ)
    view = view_of (at rows)

    scan_of : (cs : List ℕ) → children (at rows a) ≡ cs → o ≡ scanned (away' d view x) None cs
    scan_of cs h = scan ∙ ap₂ (λ (g : ℕ → ℕ) (is : List ℕ). scanned g None is) far_same (row_children ∙ h)

    -- where the walk ends
    abbrev ended : Descended
    ended = descent (records_of m) a (count + n)

    abbrev ends : Type 0
    ends = descent (records_of m) a (count + n) ≡ descended d x arity (records_of l₀) depth root 1

    level : left ≡ suc (left - 1)
    level = omega (arith, w.some)

    from_here :
        descended d x arity rows (suc (left - 1)) a count ≡ descended d x arity (records_of l₀) depth root 1
    from_here = ap (λ (i : ℕ). descended d x arity rows i a count) (sym level) ∙ w.rest

    -- a record with no child
    pub walk_leaf : o ≡ None → ends
    walk_leaf none = go (children (at rows a)) refl
      where
        go : (cs : List ℕ) → children (at rows a) ≡ cs → ends
        go [] h =
            ap (λ (rs : List Record). descent rs a (count + n)) rows_lifted
            ∙ sym (descended_leaf d x arity rows a count n children_n (left - 1) h)
            ∙ from_here
        go (c ∷ cs) h =
            absurd (false≢true (ap is_some (sym none ∙ scan_of (c ∷ cs) h ∙ scanned_nearest d view x c cs)))

    -- one with children, of which q is the nearest
    module _ {q : Near} (some : o ≡ Some q) where
      abbrev test : Bool
      test = eqb (left - 1) 0 || (ltb away q.away && ltb n arity)

      abbrev onward : Descended
      onward = descended d x arity (records_of m) (left - 1) q.slot (count + n)

      -- what is known of q
      record Found : Type 0 where
        first : ℕ
        others : List ℕ
        children_are : children (at rows a) ≡ first ∷ others
        q_is : q ≡ nearest_of d view x first others

      found : Found
      found = go (children (at rows a)) refl
        where
          go : (cs : List ℕ) → children (at rows a) ≡ cs → Found
          go [] h = absurd (false≢true (ap is_some (sym (scanned_none (away' d view x)) ∙ sym (scan_of [] h) ∙ some)))
          go (c ∷ cs) h =
              record {
                first = c;
                others = cs;
                children_are = h;
                q_is =
                    ap (λ (p : Option Near). unwrap_or p q)
                    (sym some ∙ scan_of (c ∷ cs) h ∙ scanned_nearest d view x c cs);
              }

      turn : descended d x arity (records_of l₀) depth root 1 ≡ pick test ended onward
      turn =
          let f = found in
          let here = records_at l w.walkable.whole a in
          let at_a : away ≡ d (at rows a).readings x = w.away_is ∙ ap (λ (r : Record). d r.readings x) (sym here) in
          sym from_here
          ∙ descended_turn d x arity rows a count n children_n f.first f.others f.children_are q.slot q.away f.q_is
          (left - 1)
          ∙ ap₂
          (λ (i : ℕ) (rs : List Record).
          pick
          (eqb (left - 1) 0 || (ltb i q.away && ltb n arity))
          (descent rs a (count + n))
          (descended d x arity rs (left - 1) q.slot (count + n)))
          (sym at_a)
          (sym rows_lifted)

      pub walk_ends : eqb (left - 1) 0 || (ltb away q.away && ltb n arity) ≡ true → ends
      walk_ends y = sym (turn ∙ ap (λ (t : Bool). pick t ended onward) y)

      -- the nearest child stands, as each child does
      next_child : q.slot ∈ children (record_of m a)
      next_child =
          let f = found in
          let child = subst (λ (is : List ℕ). nearest d view x f.first f.others ∈ is)
          (sym (row_children ∙ f.children_are)) (nearest_∈ d view x f.first f.others) in
          subst (λ (i : ℕ). i ∈ children (record_of m a)) (sym (ap (λ (p : Near). p.slot) f.q_is)) child

      next_stands : Stands m q.slot
      next_stands =
          let z = children_at (record_of m a) (omega (arith, few, slots_length m a)) q.slot next_child in
          rw (← z.2) (raised_walkable.stand a z.0 still_here z.1)

      next_away : q.away ≡ apart kind (record_of m q.slot).readings x
      next_away =
          let f = found in
          ap (λ (p : Near). p.away) f.q_is
          ∙ ap (λ (i : ℕ). away' d view x i) (sym (ap (λ (p : Near). p.slot) f.q_is))
          ∙ ap (λ (r : List ℕ). d r x) (sym (row_readings q.slot))

      pub walk_on :
          eqb (left - 1) 0 || (ltb away q.away && ltb n arity) ≡ false
          → Walking l₀ kind x arity root depth m q.slot q.away (left - 1) (count + n)
      walk_on y =
          let y1 = or_false (eqb (left - 1) 0) (ltb away q.away && ltb n arity) y in
          let more : left - 1 ≡ 0 → ⊥ = eqb-false (left - 1) 0 y1.0 in
          record {
            walkable = raised_walkable;
            same_length = b.same_length ∙ w.same_length;
            here = next_stands;
            some = omega arith;
            less = omega (arith, w.less);
            small = omega (arith, w.small, w.some, few, count_is);
            away_is = next_away;
            rest = sym (turn ∙ ap (λ (t : Bool). pick t ended onward) y);
          }
