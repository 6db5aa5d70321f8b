-- The work as the code's loops meet it: a child is compared, a record is taken, or the work is over; what is counted
-- by then, and which key of the row is taken next. Assumes nothing.
use Prim.Native.Nat.{ℕ, zero, suc, ◌+◌, ◌-◌, ◌≤◌, ◌<◌, min}
use Rattle.std.specs.Prelude.{◌≡◌, Bool, cond, length, get_or, take, drop}
use Rattle.std.proofs.Math.Path.{refl}
use Rattle.std.proofs.Common.{sym, ap, ◌∙◌, add-one, length-take, drop_of_length-le, get_or-take, length-take-le}
use Rattle.std.proofs.Common.{drop-cons}
use Rattle.std.proofs.Math.Bool.{true, false}
use mathlib.Core.List.{List, [], ◌∷◌}
use native.Mathlib.Omega.{arith}
use Rattle.order.specs.Among.{falling, falling_last}
use Rattle.distance.specs.Laws.{farthest}
use Rattle.refusals.specs.Limits.{most_records}
use Rattle.table.specs.Record.{Record, slot, children}
use Rattle.steps.specs.Step.{away_from}
use Rattle.waiting.specs.declared.Front.{Front}
use Rattle.waiting.specs.Key.{first_in, slot_in}
use Rattle.waiting.specs.Front.{State, state, exceeds, lower_from}
use Rattle.waiting.specs.Front.{meet_one, meet_all, meet_children, take_next, finish}
use Rattle.waiting.specs.Rows.{front_of}

-- ---- a row from place j up to n

part_first :
    (l : List ℕ) (n j : ℕ) → n ≤ length l → j < n → drop j (take n l) ≡ get_or l j 0 ∷ drop (j + 1) (take n l)
part_first l n j h b =
    drop-cons (take n l) j 0 (omega (arith, length-take-le n l h))
    ∙ ap (λ (x : ℕ). x ∷ drop (suc j) (take n l)) (get_or-take n l j 0 b)
    ∙ ap (λ (i : ℕ). get_or l j 0 ∷ drop i (take n l)) (sym (add-one j))

part_none : (l : List ℕ) (n j : ℕ) → n ≤ j → drop j (take n l) ≡ []
part_none l n j h = drop_of_length-le (take n l) {i = j} (omega (arith, length-take n l))

-- a record that is compared is counted
pub one_counted :
    (R : ℕ → Record) (k s away lower : ℕ) (S T : State) → T ≡ meet_one R k s away lower S → T.count ≡ S.count + 1
unfolding meet_one
one_counted R k s away lower S T e = rw e

module _ (R : ℕ → Record) (kind : ℕ) (q : List ℕ) (k : ℕ) where
  -- ---- the children of one record, from child j on

  abbrev pub meet_from : ℕ → ℕ → ℕ → ℕ → State → State
  meet_from s p near j S = meet_all R kind q k p near (drop j (children (R s))) S

  -- child j is compared, which leaves T, with the smallest distance x
  pub meet_turn :
      (s p near j b away x : ℕ) (S T : State)
      → (R s).count ≤ length (R s).slots
      → j < (R s).count
      → b ≡ slot (R s) j
      → away ≡ away_from R kind q b
      → x ≡ min near away
      → T ≡ meet_one R k b away (lower_from (R b) p near away) S
      → meet_from s p x (j + 1) T ≡ meet_from s p near j S
  unfolding meet_all
  meet_turn s p near j b away x S T few h eb ea ex et =
      rw (et, ex, ea, eb, part_first (R s).slots (R s).count j few h)

  -- there is none left
  pub meet_end : (s p near j : ℕ) (S : State) → (R s).count ≤ j → meet_from s p near j S ≡ S
  unfolding meet_all
  meet_end s p near j S h = rw (part_none (R s).slots (R s).count j h)

  -- each is counted
  all_counted : (p near : ℕ) (bs : List ℕ) (S : State) → (meet_all R kind q k p near bs S).count ≡ S.count + length bs
  unfolding meet_all
  all_counted p near [] S = omega arith
  all_counted p near (b ∷ bs) S =
      let away = away_from R kind q b in
      let lower = lower_from (R b) p near away in
      omega (
        arith,
        all_counted p (min near away) bs (meet_one R k b away lower S),
        one_counted R k b away lower S _ refl,
      )

  -- ---- the first that waits

  pub finish_end : (left : ℕ) (S : State) → left ≡ 0 → finish R kind q k left S ≡ S
  unfolding finish
  finish_end left S e = rw e

  -- the work with x taken, the others that wait being ws
  abbrev pub taken : ℕ → List ℕ → State → State
  taken x ws S = meet_children R kind q k (slot_in x) (first_in x) (state ws S.held S.count)

  -- none waits
  pub finish_none : (left : ℕ) (S : State) → S.waits ≡ [] → finish R kind q k left S ≡ S
  unfolding finish take_next
  finish_none zero S e = refl
  finish_none (suc left) S e = rw e

  module _ (x : ℕ) (ws : List ℕ) (S : State) (waits : S.waits ≡ x ∷ ws) where
    -- its bound exceeds the k-th distance
    pub finish_over : (left : ℕ) → exceeds k S.held (first_in x) ≡ true → finish R kind q k left S ≡ S
    unfolding finish take_next
    finish_over zero e = refl
    finish_over (suc left) e = rw (waits, e)

    -- it is taken
    pub finish_taken :
        (left : ℕ)
        → 0 < left
        → exceeds k S.held (first_in x) ≡ false
        → finish R kind q k left S ≡ finish R kind q k (left - 1) (taken x ws S)
    unfolding finish take_next
    finish_taken zero h e = absurd (omega arith)
    finish_taken (suc left) h e = let n : suc left - 1 ≡ left = omega arith in rw (waits, e, n)

  -- what is counted stays counted
  next_counts :
      (go : State → State) (ws : List ℕ) (S : State)
      → ((T : State) → T.count ≤ (go T).count)
      → S.count ≤ (take_next R kind q k go ws S).count
  unfolding take_next
  next_counts go [] S h = omega arith
  next_counts go (x ∷ ws) S h = by (exceeds k S.held (first_in x))
    where
      by : (over : Bool) → S.count ≤ (cond over S (go (taken x ws S))).count
      by true = omega arith
      by false =
          omega (
            arith,
            h (taken x ws S),
            all_counted (first_in x) farthest (children (R (slot_in x))) (state ws S.held S.count),
          )

  pub finish_counts : (left : ℕ) (S : State) → S.count ≤ (finish R kind q k left S).count
  unfolding finish
  finish_counts zero S = omega arith
  finish_counts (suc left) S = next_counts (finish R kind q k left) S.waits S (finish_counts left)

  -- so the children of the one taken are within what is counted at the end
  pub taken_counted :
      (left x : ℕ) (ws : List ℕ) (S : State)
      → (R (slot_in x)).count ≤ length (R (slot_in x)).slots
      → S.waits ≡ x ∷ ws
      → 0 < left
      → exceeds k S.held (first_in x) ≡ false
      → S.count + (R (slot_in x)).count ≤ (finish R kind q k left S).count
  taken_counted left x ws S few waits some under =
      omega (
        arith,
        ap (λ (z : State). z.count) (finish_taken x ws S waits left some under),
        finish_counts (left - 1) (taken x ws S),
        all_counted (first_in x) farthest (children (R (slot_in x))) (state ws S.held S.count),
        length-take-le (R (slot_in x)).count (R (slot_in x)).slots few,
      )

-- ---- the row

-- the first that waits is the last in its row, which has a place for each record
pub first_waits :
    (f : Front)
    → length f.waits ≡ most_records
    → 0 < f.waiting
    → (front_of f).waits ≡ get_or f.waits (f.waiting - 1) 0 ∷ falling (f.waiting - 1) f.waits
first_waits f room some =
    let next : f.waiting ≡ suc (f.waiting - 1) = omega arith in
    ap (λ (n : ℕ). falling n f.waits) next
    ∙ falling_last f.waits (f.waiting - 1) (omega (arith, room, f.counted, f.within))
