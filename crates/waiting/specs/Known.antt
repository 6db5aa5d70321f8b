-- Each key that waits tells a slot of the table, and a bound that is a distance: so it is where the work begins, and
-- what is compared keeps it so. Assumes nothing.
use Rattle.std.specs.Prelude.{ℕ, suc, ◌≤◌, ◌<◌, min, ◌≡◌, Bool, cond, ◌||◌, eqb, length, get_or}
use Rattle.std.proofs.Common.{sym, subst, arith, length-take, get_or-take}
use Rattle.std.proofs.Math.Bool.{true, false}
use mathlib.Core.List.Memᴰ
use mathlib.Core.List.Memᴰ.{head as first}
use mathlib.Core.List.Memᴰ.{tail as later}
use mathlib.Core.List.{List, [], ◌∷◌}
use Rattle.order.specs.Order.{put_among}
use Rattle.order.specs.InOrder.{times_of_member, member_of_times, put_among_times}
use Rattle.distance.specs.Signature.{Fit}
use Rattle.distance.specs.Laws.{farthest}
use Rattle.distance.specs.Kind.{apart_distance}
use Rattle.refusals.specs.Limits.{most_records}
use Rattle.table.specs.Record.{record_of, children}
use Rattle.table.specs.Table.{records_in}
use Rattle.table.specs.Stands.{Stands, Walkable, in_stands}
use Rattle.table.specs.Fitting.{Fitting}
use Rattle.steps.specs.Step.{away_from}
use Rattle.waiting.specs.Key.{first_in, slot_in}
use Rattle.waiting.specs.Front.{State, state, exceeds, holds, held_key, wait_key, waits_with, lower_from}
use Rattle.waiting.specs.Front.{meet_one, meet_all, meet_children, start_at}
use Rattle.waiting.specs.Rows.{Known}
use Rattle.waiting.specs.Laws.{lower_fits}

-- ---- keys one by one

module _ (l : List ℕ) where
  abbrev pub Tells : ℕ → Type 0
  Tells x = Stands l (slot_in x) × (first_in x ≤ farthest)

  known_none : Known l []
  known_none x i = absurd (Memᴰ.not-nil i)

  known_more : (x : ℕ) (ws : List ℕ) → Tells x → Known l ws → Known l (x ∷ ws)
  known_more x ws t h y (first e) = rw e t
  known_more x ws t h y (later i) = h y i

  known_put : (x : ℕ) (ws : List ℕ) → Tells x → Known l ws → Known l (put_among x ws)
  known_put x ws t h y i =
      known_more x ws t h y (member_of_times y (x ∷ ws) (rw (← put_among_times y x ws) (times_of_member i)))

-- ---- the table l, whose records fit, and the query q

module _
    (l : List ℕ)
    (fits : (s : ℕ) → Fitting (record_of l s))
    (small : records_in l ≤ most_records)
    (kind : ℕ) (q : List ℕ)
    (fit : Fit q)
    (k : ℕ) where
  key_tells : (s lower : ℕ) → Stands l s → lower ≤ farthest → Tells l (wait_key (record_of l) s lower)
  key_tells s lower h b =
      let one = in_stands l s h in
      let time = (fits s).timestamp in
      let same : slot_in (wait_key (record_of l) s lower) ≡ s = omega (arith, one, small) in
      (subst (Stands l) (sym same) h, omega (arith, one, small, time, b))

  -- one record more is compared
  one_known :
      (s away lower : ℕ) (S : State)
      → Stands l s
      → lower ≤ farthest
      → Known l S.waits
      → Known l (meet_one (record_of l) k s away lower S).waits
  unfolding meet_one waits_with
  one_known s away lower S h b kn =
      by (eqb (record_of l s).count 0 || exceeds k (holds k (held_key (record_of l) s away) S.held) lower)
    where
      by : (t : Bool) → Known l (cond t S.waits (put_among (wait_key (record_of l) s lower) S.waits))
      by true = kn
      by false = known_put l (wait_key (record_of l) s lower) S.waits (key_tells s lower h b) kn

  -- its lower bound is no larger than a distance
  bound_known :
      (s p near : ℕ) → p ≤ farthest → lower_from (record_of l s) p near (away_from (record_of l) kind q s) ≤ farthest
  bound_known s p near h =
      lower_fits (record_of l s) p near (away_from (record_of l) kind q s) h
      ((apart_distance kind).at_most (record_of l s).readings q (fits s).readings fit)

  all_known :
      (p near : ℕ) (bs : List ℕ) (S : State)
      → p ≤ farthest
      → ((i : ℕ) → i < length bs → Stands l (get_or bs i 0))
      → Known l S.waits
      → Known l (meet_all (record_of l) kind q k p near bs S).waits
  unfolding meet_all
  all_known p near [] S h stand kn = kn
  all_known p near (b ∷ bs) S h stand kn =
      let away = away_from (record_of l) kind q b in
      let lower = lower_from (record_of l b) p near away in
      all_known p (min near away) bs (meet_one (record_of l) k b away lower S) h
      (λ i c. stand (suc i) (omega arith))
      (one_known b away lower S (stand 0 (omega arith)) (bound_known b p near h) kn)

  -- all children of a record are
  pub children_known :
      (s p : ℕ) (S : State)
      → Walkable l
      → Stands l s
      → p ≤ farthest
      → Known l S.waits
      → Known l (meet_children (record_of l) kind q k s p S).waits
  children_known s p S w h b kn =
      let r = record_of l s in
      let within : (i : ℕ) → i < length (children r) → i < r.count =
      λ i c. omega (arith, c, length-take r.count r.slots) in
      all_known p farthest (children r) S b
      (λ i c. rw (get_or-take r.count r.slots i 0 (within i c)) (w.stand s i h (within i c)))
      kn

  -- the root is compared, and that is the beginning
  pub start_known : (root : ℕ) → Stands l root → Known l (start_at (record_of l) kind q k root).waits
  start_known root h =
      let away = away_from (record_of l) kind q root in
      one_known root away (lower_from (record_of l root) 0 farthest away) (state [] [] 0) h
      (bound_known root 0 farthest (omega arith))
      (known_none l)
