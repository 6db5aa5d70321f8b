-- What is left of the work where it is over, and where a record was taken. Assumes nothing.
use Rattle.std.specs.Prelude.{ℕ, ◌+◌, ◌-◌, ◌≤◌, ◌<◌, ◌≡◌, refl, true, List, [], ◌∷◌, length}
use Rattle.std.proofs.Common.{ap, ◌∙◌, arith}
use mathlib.Core.List.Memᴰ.{head as first, tail as later}
use Rattle.table.specs.Record.{Record}
use Rattle.waiting.specs.Key.{first_in, slot_in}
use Rattle.waiting.specs.Front.{State, state, meet_children, finish}
use Rattle.waiting.specs.Rows.{Known}
use Rattle.waiting.specs.Going.{finish_none, finish_over, finish_taken, taken_counted}
use Rattle.waiting.specs.Known.{Tells}
use Rattle.taking.specs.Next.{is_over, Over, Taken}

-- ---- the keys that wait

known_of : (l : List ℕ) (ws vs : List ℕ) → ws ≡ vs → Known l ws → Known l vs
known_of l ws vs e kn = rw e at kn

module _ (l : List ℕ) {k x : ℕ} {S T : State} (t : Taken k x S T) (kn : Known l S.waits) where
  -- the key taken tells a slot and a bound
  pub key_tells : Tells l x
  key_tells = known_of l S.waits (x ∷ T.waits) t.first kn x (first refl)

  -- and so do those that are left
  pub rest_known : Known l T.waits
  rest_known = λ z i. known_of l S.waits (x ∷ T.waits) t.first kn z (later i)

-- ---- the work

module _ (R : ℕ → Record) (kind : ℕ) (q : List ℕ) (k left : ℕ) where
  ends_at : (ws : List ℕ) (S : State) → S.waits ≡ ws → is_over k S.held ws ≡ true → finish R kind q k left S ≡ S
  ends_at [] S e over = finish_none R kind q k left S e
  ends_at (x ∷ ws) S e over = finish_over R kind q k x ws S e left over

  -- there is nothing left
  pub over_ends : (S : State) → Over k S → finish R kind q k left S ≡ S
  over_ends S over = ends_at S.waits S refl over

  module _ {x : ℕ} {S T : State} (t : Taken k x S T) (some : 0 < left) where
    left_is : state T.waits S.held S.count ≡ T
    left_is = rw (← t.held, ← t.count)

    -- what is left begins with the children of the one taken
    pub taken_goes :
        finish R kind q k left S
        ≡ finish R kind q k (left - 1) (meet_children R kind q k (slot_in x) (first_in x) T)
    taken_goes =
        finish_taken R kind q k x T.waits S t.first left some t.near
        ∙ ap (λ (U : State). finish R kind q k (left - 1) (meet_children R kind q k (slot_in x) (first_in x) U)) left_is

    -- and these are within what is counted at the end
    pub children_counted :
        (R (slot_in x)).count ≤ length (R (slot_in x)).slots
        → T.count + (R (slot_in x)).count ≤ (finish R kind q k left S).count
    children_counted few =
        omega (arith, t.count, taken_counted R kind q k left x T.waits S few t.first some t.near)
