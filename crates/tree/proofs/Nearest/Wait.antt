-- Those that wait, as a row: no record twice, each used, the sooner taken before the later. The children of a taken
-- record join the row, each with a bound that counts older siblings alone, and nothing leaves it. Assumes nothing.
use Rattle.std.specs.Prelude.{ℕ, ◌≤◌, ◌<◌, ◌≡◌, refl, ◌⊎◌}
use Rattle.std.proofs.Common.{sym}
use Rattle.std.proofs.Math.Logic.{inl, inr}
use mathlib.Core.List.Memᴰ
use mathlib.Core.List.{List, [], ◌∷◌, map}
use mathlib.Core.List.Memᴰ.{head as first}
use mathlib.Core.List.Memᴰ.{tail as later}
use mathlib.Core.List.{Memᴰ}
use Rattle.places.specs.Cases.{either}
use Rattle.tree.specs.Slots.{◌∈◌, Distinct, image_from, image_to}
use Rattle.tree.specs.Sorted.{put_by}
use Rattle.tree.specs.Sorted.Laws.{Ascends, put_by_from, put_by_to, put_by_distinct, put_by_ascends}
use Rattle.tree.specs.View.{View, Used, Rising, Formed}
use Rattle.tree.specs.Nearest.{Waiting, waiting, sooner, lower_bound, wait}
use Rattle.tree.proofs.Nearest.Order.{Ahead, ahead_first, sooner_reads, sooner_orders}

abbrev pub slot_of : Waiting → ℕ
slot_of w = w.slot

abbrev pub slots : List Waiting → List ℕ
slots ws = map slot_of ws

pub record InRow {Sig : Type 0} (v : View Sig) (ws : List Waiting) : Type 0 where
  pub once : Distinct (slots ws)
  pub used : (w : Waiting) → Memᴰ w ws → Used v w.slot
  pub ascends : Ascends (sooner v) ws

-- ---- one more waits

module _ {Sig : Type 0} (v : View Sig) where
  pub put_from : (x : Waiting) (a : ℕ) (ws : List Waiting) → a ∈ slots (put_by (sooner v) x ws)
      → a ∈ (x.slot ∷ slots ws)
  put_from x a ws i =
      let z = image_from slot_of a (put_by (sooner v) x ws) i in
      Memᴰ.cast z.2 (image_to slot_of z.0 (x ∷ ws) (put_by_from (sooner v) x z.0 ws z.1))

  pub put_row : {n root : ℕ} → Formed v n root → (x : Waiting) (ws : List Waiting) → Used v x.slot
      → (x.slot ∈ slots ws → ⊥) → InRow v ws → InRow v (put_by (sooner v) x ws)
  put_row wf x ws u new row = record {
    once = put_by_distinct (sooner v) slot_of x ws new row.once;
    used = λ w i. each w (put_by_from (sooner v) x w ws i);
    ascends = put_by_ascends (sooner_orders v wf) x ws u row.used (λ i. new (image_to slot_of x ws i)) row.ascends;
  }
    where
      each : (w : Waiting) → Memᴰ w (x ∷ ws) → Used v w.slot
      each w (first e) = rw e u
      each w (later i) = row.used w i

  -- "the one with the least lower bound is taken next, the older among equals": it is the first of the row
  pub next_is_least : {w : Waiting} {ws : List Waiting} → InRow v (w ∷ ws) → (x : Waiting) → Memᴰ x ws
      → Ahead w.lower (v.timestamp w.slot) x.lower (v.timestamp x.slot)
  next_is_least {w} row x i = sooner_reads v w x (row.ascends.0 x i)

  pub next_bound : {w : Waiting} {ws : List Waiting} → InRow v (w ∷ ws) → (x : Waiting) → Memᴰ x ws
      → w.lower ≤ x.lower
  next_bound row x i = ahead_first _ _ _ _ (next_is_least row x i)

  -- with the first taken, the others still stand in a row
  pub row_rest : {w : Waiting} {ws : List Waiting} → InRow v (w ∷ ws) → InRow v ws
  row_rest r = record { once = r.once.1; used = λ x i. r.used x (later i); ascends = r.ascends.1 }

-- ---- children wait

module _ {Sig : Type 0} (d : Sig → Sig → ℕ) (v : View Sig) (q : Sig) (p : ℕ) where
  -- a child as it waits, of a record with the bound p and these children
  pub record AsChild (children : List ℕ) (x : Waiting) : Type 0 where
    pub siblings : List ℕ
    pub child : x.slot ∈ children
    pub older : (o : ℕ) → o ∈ siblings → o ∈ children × (v.timestamp o < v.timestamp x.slot)
    pub bound : x.lower ≡ lower_bound d v q p siblings x.slot

  -- nothing leaves the row
  pub wait_keeps : (os bs : List ℕ) (ws : List Waiting) (x : Waiting) → Memᴰ x ws
      → Memᴰ x (wait d v q p os bs ws)
  unfolding wait
  wait_keeps os [] ws x i = i
  wait_keeps os (b ∷ bs) ws x i = wait_keeps (b ∷ os) bs _ x (put_by_to (sooner v) _ x ws (later i))

  pub wait_adds : (os bs : List ℕ) (ws : List Waiting) (a : ℕ) → a ∈ bs → a ∈ slots (wait d v q p os bs ws)
  unfolding wait
  wait_adds os [] ws a x' = elim x' [ ]
  wait_adds os (b ∷ bs) ws a (first e) =
      let i = put_by_to (sooner v) (waiting b _) (waiting b _) ws (first refl) in
      Memᴰ.cast e (image_to slot_of (waiting b _) _ (wait_keeps (b ∷ os) bs _ _ i))
  wait_adds os (b ∷ bs) ws a (later i) = wait_adds (b ∷ os) bs _ a i

  -- what waits then waited before, or is one of the children, the older ones of which came before it
  pub wait_from : (children os bs : List ℕ) (ws : List Waiting) → Rising v.timestamp bs
      → ((b : ℕ) → b ∈ bs → b ∈ children)
      → ((o b : ℕ) → o ∈ os → b ∈ bs → o ∈ children × (v.timestamp o < v.timestamp b))
      → (x : Waiting) → Memᴰ x (wait d v q p os bs ws) → Memᴰ x ws ⊎ AsChild children x
  unfolding wait
  wait_from children os [] ws ris f g x i = inl i
  wait_from children os (b ∷ bs) ws ris f g x i =
      either (wait_from children (b ∷ os) bs _ ris.1 (λ c j. f c (later j)) before x i)
      (λ j. last (put_by_from (sooner v) _ x ws j)) inr
    where
      before : (o c : ℕ) → o ∈ (b ∷ os) → c ∈ bs → o ∈ children × (v.timestamp o < v.timestamp c)
      before o c (first e) j = rw e (f b (first refl), ris.0 c j)
      before o c (later k) j = g o c k (later j)

      last : Memᴰ x (waiting b (lower_bound d v q p os b) ∷ ws) → Memᴰ x ws ⊎ AsChild children x
      last (first e) = inr (rw e (record {
        siblings = os;
        child = f b (first refl);
        older = λ o k. g o b k (first refl);
        bound = refl;
      }))
      last (later j) = inl j

  pub wait_row : {n root : ℕ} → Formed v n root → (os bs : List ℕ) (ws : List Waiting) → Distinct bs
      → ((b : ℕ) → b ∈ bs → Used v b) → ((b : ℕ) → b ∈ bs → b ∈ slots ws → ⊥) → InRow v ws
      → InRow v (wait d v q p os bs ws)
  unfolding wait
  wait_row wf os [] ws once u new row = row
  wait_row wf os (b ∷ bs) ws once u new row =
      wait_row wf (b ∷ os) bs _ once.1 (λ c i. u c (later i)) (λ c i j. still c i (put_from v (waiting b _) c ws j))
      (put_row v wf (waiting b _) ws (u b (first refl)) (new b (first refl)) row)
    where
      still : (c : ℕ) → c ∈ bs → c ∈ (b ∷ slots ws) → ⊥
      still c i (first e) = once.0 (Memᴰ.cast (sym e) i)
      still c i (later j) = new c (later i) j

-- the children of record a join the row, from the first on
module _ {Sig : Type 0} (d : Sig → Sig → ℕ) {v : View Sig} (q : Sig) (p : ℕ) {n root : ℕ} (wf : Formed v n root)
    (a : ℕ) (ws : List Waiting) where
  pub children_from : (x : Waiting) → Memᴰ x (wait d v q p [] (v.children a) ws)
      → Memᴰ x ws ⊎ AsChild d v q p (v.children a) x
  children_from x i = wait_from d v q p (v.children a) [] (v.children a) ws (wf.rising a) (λ b j. j)
      (λ o b j. absurd (Memᴰ.not-nil j)) x i

  pub children_slots_from : (b : ℕ) → b ∈ slots (wait d v q p [] (v.children a) ws)
      → b ∈ slots ws ⊎ b ∈ v.children a
  children_slots_from b i =
      let z = image_from slot_of b _ i in
      either (children_from z.0 z.1)
      (λ j. inl (Memᴰ.cast z.2 (image_to slot_of z.0 ws j)))
      (λ c. inr (Memᴰ.cast z.2 c.child))
