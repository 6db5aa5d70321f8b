-- On every well-formed table, sound or loose: the records compared are at every time those taken and those that wait,
-- no record among them twice; so none is taken twice, none compared twice, and the distance count is at most the number
-- of used records. Assumes nothing.
use Rattle.std.specs.Prelude.{ℕ, ◌≤◌, true, ◌≡◌, refl, ◌⊎◌}
use Rattle.std.proofs.Common.{sym, ◌∙◌, arith}
use Rattle.std.proofs.Math.Logic.{inl, inr}
use mathlib.Core.List.Memᴰ
use mathlib.Core.List.{List, [], ◌∷◌, flat_map}
use mathlib.Core.List.Memᴰ.{head as first}
use mathlib.Core.List.Memᴰ.{tail as later}
use mathlib.Core.List.{Memᴰ}
use Rattle.places.specs.Cases.{either}
use Rattle.tree.specs.Slots.{◌∈◌, Distinct, flat_map_from, image_from, image_to}
use Rattle.tree.specs.View.{View, Used, Formed, used_count, compared, distance_count}
use Rattle.tree.specs.View.Shape.{children_distinct}
use Rattle.tree.specs.View.Count.{compared_distinct, compared_used, distance_count_at_most}
use Rattle.tree.specs.Nearest.{Waiting, lower_bound, wait, is_over, at_first, Takes, none_waits, over, takes}
use Rattle.tree.proofs.Nearest.Wait.{InRow, row_rest, next_bound, slot_of, slots, wait_keeps, wait_adds, wait_row}
use Rattle.tree.proofs.Nearest.Wait.{children_from, children_slots_from}

-- ---- the records compared

module _ {Sig : Type 0} (v : View Sig) (root : ℕ) where
  -- with one more taken, its children are compared besides
  pub compared_more : (a x : ℕ) (ts : List ℕ) → x ∈ compared v root ts ⊎ x ∈ v.children a
      → x ∈ compared v root (a ∷ ts)
  unfolding compared flat_map
  compared_more a x ts (inl (first e)) = first e
  compared_more a x ts (inl (later i)) = later (Memᴰ.append_right (v.children a) i)
  compared_more a x ts (inr i) = later (Memᴰ.append_left (flat_map v.children ts) i)

  pub compared_less : (a x : ℕ) (ts : List ℕ) → x ∈ compared v root (a ∷ ts)
      → x ∈ compared v root ts ⊎ x ∈ v.children a
  unfolding compared flat_map
  compared_less a x ts (first e) = inl (first e)
  compared_less a x ts (later i) = either (Memᴰ.append_cases (v.children a) i) inr (λ j. inl (later j))

  -- ---- on the way: ws wait, and ts were taken

  pub record Going (ws : List Waiting) (ts : List ℕ) : Type 0 where
    pub row : InRow v ws
    pub taken_once : Distinct ts
    pub apart : (a : ℕ) → a ∈ ts → a ∈ slots ws → ⊥
    -- what was taken or waits was compared, and what was compared was taken or waits
    pub taken_met : (a : ℕ) → a ∈ ts → a ∈ compared v root ts
    pub waits_met : (a : ℕ) → a ∈ slots ws → a ∈ compared v root ts
    pub met : (a : ℕ) → a ∈ compared v root ts → a ∈ ts ⊎ a ∈ slots ws

module _ {Sig : Type 0} (d : Sig → Sig → ℕ) {v : View Sig} (q : Sig) {n root : ℕ} (wf : Formed v n root) where
  pub going_first : (k : ℕ) → Going v root (at_first d v q k root) []
  unfolding compared flat_map
  going_first k = record {
    row = record {
      once = (Memᴰ.not-nil, tt);
      used = λ w i. alone w i;
      ascends = (λ x i. absurd (Memᴰ.not-nil i), tt);
    };
    taken_once = tt;
    apart = λ a i. absurd (Memᴰ.not-nil i);
    taken_met = λ a i. absurd (Memᴰ.not-nil i);
    waits_met = λ a i. i;
    met = λ a i. inr i;
  }
    where
      alone : (w : Waiting) → Memᴰ w (at_first d v q k root) → Used v w.slot
      alone w (first e) = rw e wf.root_used
      alone w (later i) = absurd (Memᴰ.not-nil i)

  -- the first of the row is taken
  module _ {w : Waiting} {ws : List Waiting} {ts : List ℕ} (g : Going v root (w ∷ ws) ts) where
    pub next_used : Used v w.slot
    next_used = g.row.used w (first refl)

    pub next_new : w.slot ∈ ts → ⊥
    next_new i = g.apart w.slot i (first refl)

    -- its children were not compared before
    pub child_new : (b : ℕ) → b ∈ v.children w.slot → b ∈ compared v root ts → ⊥
    unfolding compared
    child_new b i (first e) = wf.root_top w.slot (Memᴰ.cast (sym e) i)
    child_new b i (later j) =
        let z = flat_map_from v.children b ts j in
        next_new (Memᴰ.cast (sym (wf.child_parent w.slot b i) ∙ wf.child_parent z.0 b z.2) z.1)

    pub going_on : Going v root (wait d v q w.lower [] (v.children w.slot) ws) (w.slot ∷ ts)
    going_on = record {
      row = wait_row d v q w.lower wf [] (v.children w.slot) ws (children_distinct wf w.slot)
          (λ b i. wf.child_used w.slot b i) (λ b i j. child_new b i (g.waits_met b (later j)))
          (row_rest v g.row);
      taken_once = (next_new, g.taken_once);
      apart = λ a i j. either (from a j) (still a i) (fresh a i);
      taken_met = λ a i. compared_more v root w.slot a ts (inl (met_before a i));
      waits_met = λ a i. compared_more v root w.slot a ts
          (either (from a i) (λ j. inl (g.waits_met a (later j))) inr);
      met = λ a i. either (compared_less v root w.slot a ts i)
          (λ j. either (g.met a j) (λ k. inl (later k)) (waited a))
          (λ j. inr (wait_adds d v q w.lower [] (v.children w.slot) ws a j));
    }
      where
        from : (a : ℕ) → a ∈ slots (wait d v q w.lower [] (v.children w.slot) ws)
            → a ∈ slots ws ⊎ a ∈ v.children w.slot
        from a i = children_slots_from d q w.lower wf w.slot ws a i

        met_before : (a : ℕ) → a ∈ (w.slot ∷ ts) → a ∈ compared v root ts
        met_before a (first e) = g.waits_met a (first e)
        met_before a (later i) = g.taken_met a i

        still : (a : ℕ) → a ∈ (w.slot ∷ ts) → a ∈ slots ws → ⊥
        still a (first e) j = g.row.once.0 (Memᴰ.cast (sym e) j)
        still a (later i) j = g.apart a i (later j)

        fresh : (a : ℕ) → a ∈ (w.slot ∷ ts) → a ∈ v.children w.slot → ⊥
        fresh a i j = child_new a j (met_before a i)

        waited : (a : ℕ) → a ∈ slots (w ∷ ws)
            → a ∈ (w.slot ∷ ts) ⊎ a ∈ slots (wait d v q w.lower [] (v.children w.slot) ws)
        waited a (first e) = inl (first e)
        waited a (later i) =
            let z = image_from slot_of a ws i in
            let j = wait_keeps d v q w.lower [] (v.children w.slot) ws z.0 z.1 in
            inr (Memᴰ.cast z.2 (image_to slot_of z.0 _ j))

    -- bounds never fall from one taken to the next, since a child's bound counts its parent's
    pub bounds_rise : (x : Waiting) → Memᴰ x (wait d v q w.lower [] (v.children w.slot) ws)
        → w.lower ≤ x.lower
    unfolding lower_bound
    bounds_rise x i = either (children_from d q w.lower wf w.slot ws x i)
        (next_bound v g.row x) (λ c. rw c.bound (omega arith))

-- ---- the end

module _ {Sig : Type 0} (d : Sig → Sig → ℕ) (v : View Sig) (q : Sig) (k root : ℕ) where
  -- "Work ends when none waits, or when k are held and the least bound exceeds the k-th distance"
  abbrev pub Ended : List Waiting → List ℕ → Type 0
  Ended [] us = Unit {0}
  Ended (w ∷ ws) us = is_over d v q k (compared v root us) w.lower ≡ true

  -- what holds on the way, from one taken to the next, holds at the end
  pub takes_end : (I : List Waiting → List ℕ → Type 0)
      → ((w : Waiting) (ws : List Waiting) (ts : List ℕ) → I (w ∷ ws) ts
      → I (wait d v q w.lower [] (v.children w.slot) ws) (w.slot ∷ ts))
      → {ws : List Waiting} {ts us : List ℕ} → I ws ts → Takes d v q k root ws ts us
      → (es : List Waiting) × I es us × Ended es us
  takes_end I step i none_waits = ([], i, tt)
  takes_end I step i (over {w = w} {ws = ws} e) = (w ∷ ws, i, e)
  takes_end I step i (takes {w = w} {ws = ws} {ts = ts} e t) = takes_end I step (step w ws ts i) t

module _ {Sig : Type 0} (d : Sig → Sig → ℕ) {v : View Sig} (q : Sig) (k : ℕ) {n root : ℕ} (wf : Formed v n root)
    {us : List ℕ} (t : Takes d v q k root (at_first d v q k root) [] us) where
  pub takes_going : (es : List Waiting) × Going v root es us × Ended d v q k root es us
  takes_going = takes_end d v q k root (Going v root) (λ w ws ts g. going_on d q wf g) (going_first d q wf k) t

  pub takes_distinct : Distinct us
  takes_distinct = takes_going.1.taken_once

  pub takes_used : (a : ℕ) → a ∈ us → Used v a
  takes_used a i = compared_used wf us a (takes_going.1.taken_met a i)

  pub takes_compared_distinct : Distinct (compared v root us)
  takes_compared_distinct = compared_distinct wf us takes_distinct

  pub takes_count : distance_count v us ≤ used_count v n
  takes_count = distance_count_at_most wf us takes_distinct
