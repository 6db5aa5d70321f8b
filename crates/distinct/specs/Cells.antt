-- Loop: The cells after the first n keys were seated: each of these keys is found again, and nothing else stands
-- there. So a key that takes an empty cell is new, and one that is met was there before. This holds whatever cells a
-- key looks at: place k d is the one that key k looks at after d others. Assumes nothing.
use Prim.Native.Nat.{ℕ, zero, suc, ◌+◌, ◌≤◌, ◌<◌}
use Rattle.std.specs.Prelude.{◌≡◌, Bool, List, length, set, replicate}
use Rattle.std.proofs.Math.Path.{refl}
use Rattle.std.proofs.Common.{sym, ap, ◌∙◌, arith, eq-or-lt_of_le, below_more, length-set, get_or-set_same}
use Rattle.std.proofs.Common.{get_or-set_other}
use Rattle.std.proofs.Math.Bool.{true, false}
use Rattle.std.proofs.Math.Logic.{⊎_elim}
use borrow.Author.Tests.{eqb-true, eqb-false}
use Rattle.std.proofs.Math.Dec.{eqb}
use Rattle.std.proofs.Math.ListN.{get_or}
use Rattle.std.proofs.lemmas.List.{length-replicate, set-get_or}
use Rattle.places.specs.Choice.{pick}
use Rattle.places.specs.Fill.{zeros_at}
use Rattle.distinct.specs.Distinct.{distinct_to, distinct_none, distinct_more, distinct_twice}
use Rattle.distinct.specs.Seat.{Seated, probes, seat_from}
use Rattle.distinct.specs.declared.Seat.{Seat}
use Rattle.distinct.specs.declared.Seat.TheVariants.{Fresh, Seen, Crowded}

-- ---- one key

-- the key stands in one of its first n cells, and no cell before it is empty
pub record Found (n : ℕ) (place : ℕ → ℕ) (cells : List ℕ) (key : ℕ) : Type 0 where
  pub far : ℕ
  pub near : far < n
  pub here : get_or cells (place far) 0 ≡ key
  pub full : (e : ℕ) → e < far → 1 ≤ get_or cells (place e) 0

-- from its cell d on, within n cells, the key takes the first that is empty; those before it hold other keys
pub record Takes (n d : ℕ) (place : ℕ → ℕ) (cells : List ℕ) (key : ℕ) (after : List ℕ) : Type 0 where
  pub far : ℕ
  pub near : far < d + n
  pub empty : get_or cells (place far) 0 ≡ 0
  pub full : (e : ℕ) → d ≤ e → e < far → 1 ≤ get_or cells (place e) 0
  pub others : (e : ℕ) → d ≤ e → e < far → get_or cells (place e) 0 ≡ key → ⊥
  pub after_is : after ≡ set cells (place far) key

-- what each answer to seating says of the cells
unfoldable pub Says : ℕ → ℕ → (ℕ → ℕ) → List ℕ → ℕ → Seat → List ℕ → Type 0
Says n d place cells key Fresh after = Takes n d place cells key after
Says n d place cells key Seen after = (e : ℕ) × (1 ≤ get_or cells (place e) 0) × (get_or cells (place e) 0 ≡ key)
Says n d place cells key Crowded after = Unit

module _ (place : ℕ → ℕ) (cells : List ℕ) (key : ℕ) where
  -- a cell d that holds another key changes nothing
  says_before :
      (n d : ℕ) (s : Seat) (after : List ℕ)
      → 1 ≤ get_or cells (place d) 0
      → (get_or cells (place d) 0 ≡ key → ⊥)
      → Says n (d + 1) place cells key s after
      → Says (suc n) d place cells key s after
  unfolding Says
  says_before n d Fresh after f o t =
      record {
        far = t.far;
        near = omega (arith, t.near);
        empty = t.empty;
        full = λ e p q. by_place e p (λ (c : ℕ). 1 ≤ c) f (λ l. t.full e l q);
        others = λ e p q. by_place e p (λ (c : ℕ). c ≡ key → ⊥) o (λ l. t.others e l q);
        after_is = t.after_is;
      }
    where
      by_place :
          (e : ℕ)
          → d ≤ e
          → (P : ℕ → Type 0)
          → P (get_or cells (place d) 0)
          → (d + 1 ≤ e → P (get_or cells (place e) 0))
          → P (get_or cells (place e) 0)
      by_place e p P here on = ⊎_elim (λ q. rw (← q) here) (λ l. on (omega arith)) (eq-or-lt_of_le p)
  says_before n d Seen after f o t = t
  says_before n d Crowded after f o t = tt

  -- one turn, by whether the cell is empty and whether it holds the key
  turn : ℕ → Bool → Bool → Seated → Seated
  turn d s t rest =
      pick
      s
      (record { seat = Fresh; cells = set cells (place d) key })
      (pick t (record { seat = Seen; cells = cells }) rest)

  says_turn :
      (n d : ℕ) (s t : Bool) (rest : Seated)
      → eqb (get_or cells (place d) 0) 0 ≡ s
      → eqb (get_or cells (place d) 0) key ≡ t
      → Says n (d + 1) place cells key rest.seat rest.cells
      → Says (suc n) d place cells key (turn d s t rest).seat (turn d s t rest).cells
  unfolding Says turn
  says_turn n d true t rest p q r =
      record {
        far = d;
        near = omega arith;
        empty = eqb-true _ 0 p;
        full = λ e a b. absurd (omega arith);
        others = λ e a b. absurd (omega arith);
        after_is = refl;
      }
  says_turn n d false true rest p q r = (d, omega (arith, eqb-false (get_or cells (place d) 0) 0 p), eqb-true _ key q)
  says_turn n d false false rest p q r =
      let o : 1 ≤ get_or cells (place d) 0 = omega (arith, eqb-false (get_or cells (place d) 0) 0 p) in
      says_before n d rest.seat rest.cells o (eqb-false _ key q) r

  pub says :
      (n d : ℕ) → Says n d place cells key (seat_from n place d cells key).seat (seat_from n place d cells key).cells
  unfolding seat_from Says turn
  says zero d = tt
  says (suc n) d =
      says_turn
      n
      d
      (eqb (get_or cells (place d) 0) 0)
      (eqb (get_or cells (place d) 0) key)
      (seat_from n place (d + 1) cells key)
      refl
      refl
      (says n (d + 1))

-- ---- a key that takes an empty cell

module _
    {n : ℕ} {place : ℕ → ℕ} {cells : List ℕ} {key : ℕ} {after : List ℕ}
    (t : Takes n 0 place cells key after)
  where
    -- it was not to be found before
    takes_new : 1 ≤ key → Found n place cells key → ⊥
    takes_new h w =
        let below : w.far < t.far → ⊥ = λ l. t.others w.far (omega arith) l w.here in
        let above : t.far < w.far → ⊥ = λ l. omega (arith, w.full t.far l, t.empty) in
        let same : w.far ≡ t.far = omega arith in
        let e : key ≡ 0 = sym w.here ∙ ap (λ (d : ℕ). get_or cells (place d) 0) same ∙ t.empty in
        omega arith

    -- every other cell stays as it was
    takes_other : (x : ℕ) → (x ≡ place t.far → ⊥) → get_or after x 0 ≡ get_or cells x 0
    takes_other x h = rw t.after_is (get_or-set_other cells (place t.far) x key 0 h)

    takes_full : (x : ℕ) → 1 ≤ get_or cells x 0 → get_or after x 0 ≡ get_or cells x 0
    takes_full x h =
        takes_other x
        (λ q.
        let e : get_or cells x 0 ≡ 0 = ap (λ (y : ℕ). get_or cells y 0) q ∙ t.empty in
        omega arith)

    -- it is to be found afterwards
    takes_here : place t.far < length cells → get_or after (place t.far) 0 ≡ key
    takes_here room = rw t.after_is (get_or-set_same cells (place t.far) key 0 room)

    takes_found : place t.far < length cells → Found n place after key
    takes_found room =
        record {
          far = t.far;
          near = omega (arith, t.near);
          here = takes_here room;
          full = λ e l. rw (takes_full (place e) (t.full e (omega arith) l)) (t.full e (omega arith) l);
        }

    -- and so is every key that was to be found before
    takes_keeps : (m : ℕ) (other : ℕ → ℕ) (k : ℕ) → 1 ≤ k → Found m other cells k → Found m other after k
    takes_keeps m other k h w =
        record {
          far = w.far;
          near = w.near;
          here = takes_full (other w.far) (rw w.here h) ∙ w.here;
          full = λ e l. rw (takes_full (other e) (w.full e l)) (w.full e l);
        }

-- ---- the first n keys, of which key i is f i

pub record CellsHold (place : ℕ → ℕ → ℕ) (f : ℕ → ℕ) (n : ℕ) (cells : List ℕ) : Type 0 where
  -- they are distinct
  pub apart : distinct_to n f ≡ true
  -- a cell that is not empty holds one of them
  pub one_of : (x : ℕ) → 1 ≤ get_or cells x 0 → (j : ℕ) × (j < n) × (f j ≡ get_or cells x 0)
  -- each is found again, 0 aside
  pub found : (j : ℕ) → j < n → 1 ≤ f j → Found probes (place (f j)) cells (f j)
  -- a key looks at cells that are there
  pub room : (key d : ℕ) → place key d < length cells

-- before the first key all m cells are empty
pub holds_none :
    (place : ℕ → ℕ → ℕ) (f : ℕ → ℕ) (m : ℕ)
    → ((key d : ℕ) → place key d < m)
    → CellsHold place f 0 (replicate m 0)
holds_none place f m room =
    record {
      apart = distinct_none f;
      one_of = λ x h. absurd (omega (arith, zeros_at m x));
      found = λ j h. absurd (omega arith);
      room = λ key d. rw length-replicate (room key d);
    }

module _ {place : ℕ → ℕ → ℕ} {f : ℕ → ℕ} {n : ℕ} {cells : List ℕ} (H : CellsHold place f n cells) where
  -- a key of 0 leaves the cells as they were
  holds_zero :
      {after : List ℕ} → Takes probes 0 (place (f n)) cells (f n) after → f n ≡ 0 → CellsHold place f (n + 1) after
  holds_zero {after} t z = rw same kept
    where
      same : after ≡ cells
      same =
          let x = place (f n) t.far in
          t.after_is ∙ ap (λ (v : ℕ). set cells x v) (z ∙ sym t.empty) ∙ set-get_or cells x 0

      kept : CellsHold place f (n + 1) cells
      kept =
          record {
            apart = distinct_more n f H.apart (λ b l h e. omega arith);
            one_of = λ x h. let w = H.one_of x h in (w.0, omega (arith, w.1), w.2);
            found = below_more _ n H.found (λ h. absurd (omega arith));
            room = H.room;
          }

  -- any other that takes a cell is new, and is held from then on
  holds_more :
      {after : List ℕ} → Takes probes 0 (place (f n)) cells (f n) after → 1 ≤ f n → CellsHold place f (n + 1) after
  holds_more {after} t h =
      record {
        apart = distinct_more n f H.apart (λ b l _ e. new b l e);
        one_of = λ x o. one_of x o (eqb x (place (f n) t.far)) refl;
        found =
            below_more
            (λ (j : ℕ). 1 ≤ f j → Found probes (place (f j)) after (f j))
            n
            (λ j l o. takes_keeps t _ _ _ o (H.found j l o))
            (λ o. takes_found t (H.room _ _));
        room = λ key d. rw (t.after_is, length-set) (H.room key d);
      }
    where
      new : (b : ℕ) → b < n → f n ≡ f b → ⊥
      new b l e =
          let o : 1 ≤ f b = rw e at h in
          let w : Found probes (place (f n)) cells (f n) = rw e (H.found b l o) in
          takes_new t h w

      one_of :
          (x : ℕ)
          → 1 ≤ get_or after x 0
          → (s : Bool)
          → eqb x (place (f n) t.far) ≡ s
          → (j : ℕ) × (j < n + 1) × (f j ≡ get_or after x 0)
      one_of x o true q =
          (n, omega arith, sym (ap (λ (y : ℕ). get_or after y 0) (eqb-true x _ q) ∙ takes_here t (H.room _ _)))
      one_of x o false q =
          let e = takes_other t x (eqb-false x _ q) in
          let v = H.one_of x (rw (← e) o) in
          (v.0, omega (arith, v.1), v.2 ∙ sym e)

  module _ {s : Seated} (e : s ≡ seat_from probes (place (f n)) 0 cells (f n)) where
    says_so : Says probes 0 (place (f n)) cells (f n) s.seat s.cells
    says_so = rw e (says (place (f n)) cells (f n) probes 0)

    -- a key that takes an empty cell is 0 or new
    pub holds_fresh : s.seat ≡ Fresh → CellsHold place f (n + 1) s.cells
    unfolding Says
    holds_fresh q = by (rw q at says_so) (eqb (f n) 0) refl
      where
        by :
            Takes probes 0 (place (f n)) cells (f n) s.cells
            → (b : Bool) → eqb (f n) 0 ≡ b → CellsHold place f (n + 1) s.cells
        by t true z = holds_zero t (eqb-true (f n) 0 z)
        by t false z = holds_more t (omega (arith, eqb-false (f n) 0 z))

    -- a key that is met was there before
    pub holds_seen : (m : ℕ) → n < m → s.seat ≡ Seen → distinct_to m f ≡ false
    unfolding Says
    holds_seen m l q = by (rw q at says_so)
      where
        by :
            (d : ℕ) × (1 ≤ get_or cells (place (f n) d) 0) × (get_or cells (place (f n) d) 0 ≡ f n)
            → distinct_to m f ≡ false
        by w =
            let v = H.one_of _ w.1 in
            distinct_twice m f n v.0 l v.1 (rw w.2 at w.1) (sym (v.2 ∙ w.2))
