-- What the steps do to the rows, over plain lists: the first k held, the lower bound, and who waits. Assumes nothing.
use Rattle.std.specs.Prelude.{ℕ, suc, ◌+◌, ◌-◌, ◌/◌, ◌≤◌, ◌<◌, min, max, ◌≡◌, Bool, ◌||◌, List, [], ◌∷◌, ◌++◌, ltb, eqb}
use Rattle.std.specs.Prelude.{length, get_or, take, drop}
use Rattle.std.proofs.Math.Path.{refl}
use Rattle.std.proofs.Common.{sym, ap, ap₂, ◌∙◌, arith, le-leb, ne_eqb, take-append-drop, take-suc, take-take, take_all}
use Rattle.std.proofs.Common.{take_at, get_or-take, length-take-le}
use Rattle.std.proofs.Math.Bool.{true, false, cond}
use Rattle.std.proofs.lemmas.Bool.{lt-leb}
use Rattle.order.specs.Order.{put_among, Rising}
use Rattle.order.specs.InOrder.{put_among_length, put_among_rising}
use Rattle.order.specs.Among.{
  rising_front,
  rising_more,
  put_among_before,
  put_among_behind,
  slipped,
  slipped_front,
}
use Rattle.distance.specs.Laws.{farthest}
use Rattle.table.specs.Record.{Record}
use Rattle.waiting.specs.Key.{first_span}
use Rattle.waiting.specs.Front.{
  State,
  state,
  holds,
  exceeds,
  lower_from,
  held_key,
  wait_key,
  waits_with,
  meet_one,
}

-- ---- the first of keys in order

pub rising_take : (l : List ℕ) (i n : ℕ) → i ≤ n → Rising (take n l) → Rising (take i l)
rising_take l i n h r =
    rw (← take-take i n l h)
    (rising_front (take i (take n l)) (drop i (take n l)) (rw (take-append-drop i (take n l)) r))

holds_rising : (k x : ℕ) (l : List ℕ) → Rising l → Rising (holds k x l)
holds_rising k x l r =
    rising_front
    (holds k x l)
    (drop k (put_among x l))
    (rw (take-append-drop k (put_among x l)) (put_among_rising x l r))

-- so the first n of the row m are in order, if they are those held with one more
pub held_rise : (m : List ℕ) (n k x : ℕ) (l : List ℕ) → take n m ≡ holds k x l → Rising l → Rising (take n m)
held_rise m n k x l e r = rw e (holds_rising k x l r)

-- ---- one more is held: n of the row hs are, and m is the row afterwards

module _ (hs : List ℕ) (n k x : ℕ) (few : n ≤ k) (fits : k ≤ length hs) where
  -- while there are fewer than k, one more
  pub hold_more :
      (m : List ℕ)
      → n < k
      → m ≡ slipped hs n x
      → (take (n + 1) m ≡ holds k x (take n hs)) × (n + 1 ≡ min k (n + 1))
  hold_more m h e =
      let all = put_among x (take n hs) in
      let long : length all ≡ suc n = put_among_length x (take n hs) ∙ ap suc (length-take-le n hs (omega arith)) in (
        slipped_front hs m n x (omega arith) e ∙ sym (take_all k all (omega arith)),
        omega arith,
      )

  -- from then on i is the place of the last
  module _ (i : ℕ) (last : k ≡ suc i) (full : k ≤ n) where
    front : take n hs ≡ take i hs ++ get_or hs i 0 ∷ []
    front = let same : n ≡ suc i = omega arith in rw same (take-suc hs i 0 (omega arith))

    -- before it, and it is held no more
    pub hold_before :
        (m : List ℕ)
        → x < get_or hs i 0
        → m ≡ slipped hs i x
        → (take n m ≡ holds k x (take n hs)) × (n ≡ min k (n + 1))
    hold_before m lt e =
        let those = put_among x (take i hs) in
        let long : length those ≡ k =
        put_among_length x (take i hs) ∙ ap suc (length-take-le i hs (omega arith)) ∙ sym last in
        let same : n ≡ i + 1 = omega arith in
        let kept : take n m ≡ those = rw same (slipped_front hs m i x (omega arith) e) in
        let all : put_among x (take n hs) ≡ those ++ get_or hs i 0 ∷ [] =
        rw front (put_among_before x (take i hs) (get_or hs i 0) (omega arith)) in
        (kept ∙ sym (rw all (take_at those (get_or hs i 0 ∷ []) k long)), omega arith)

    -- not before it, so all is as it was
    pub hold_behind :
        Rising (take n hs)
        → get_or hs i 0 ≤ x
        → (take n hs ≡ holds k x (take n hs)) × (n ≡ min k (n + 1))
    hold_behind r le =
        let more : Rising (take n hs ++ x ∷ []) =
        rw front (rising_more (take i hs) (get_or hs i 0) x (rw front at r) le) in
        let long : length (take n hs) ≡ k = length-take-le n hs (omega arith) ∙ omega arith in
        (sym (rw (put_among_behind x (take n hs) more) (take_at (take n hs) (x ∷ []) k long)), omega arith)

-- ---- whether a bound exceeds the k-th distance: n of the row hs are held

module _ (hs : List ℕ) (n k bound : ℕ) (few : n ≤ k) (fits : k ≤ length hs) where
  pub exceeds_few : n < k → false ≡ exceeds k (take n hs) bound
  exceeds_few h =
      let long : length (take n hs) ≡ n = length-take-le n hs (omega arith) in
      rw (lt-leb k (length (take n hs)) (omega arith))

  pub exceeds_full : 1 ≤ k → k ≤ n → ltb (get_or hs (k - 1) 0 / first_span) bound ≡ exceeds k (take n hs) bound
  exceeds_full one h =
      let long : length (take n hs) ≡ n = length-take-le n hs (omega arith) in
      rw (le-leb k (length (take n hs)) (omega arith), get_or-take n hs (k - 1) 0 (omega arith))

-- ---- the lower bound, as it is worked out, and that it is a distance

pub lower_reads :
    (r : Record) (p near away radius x y : ℕ) {z v : ℕ}
    → radius ≡ r.radius
    → x ≡ away - radius
    → y ≡ away - near
    → z ≡ max x ((y + 1) / 2)
    → v ≡ max p z
    → v ≡ lower_from r p near away
lower_reads r p near away radius x y e f g h i =
    i ∙ ap (max p) (h ∙ ap₂ (λ (a b : ℕ). max a ((b + 1) / 2)) (f ∙ ap (λ (a : ℕ). away - a) e) g)

pub lower_fits :
    (r : Record) (p near away : ℕ) → p ≤ farthest → away ≤ farthest → lower_from r p near away ≤ farthest
lower_fits r p near away h q =
    let half : (away - near + 1) / 2 ≤ farthest = omega arith in
    let inner : max (away - r.radius) ((away - near + 1) / 2) ≤ farthest = omega arith in
    omega arith

-- ---- who waits

module _ (R : ℕ → Record) (k s lower : ℕ) (held ws : List ℕ) where
  -- not one without children
  pub waits_childless : (R s).count ≡ 0 → ws ≡ waits_with R k s lower held ws
  unfolding waits_with
  waits_childless e = rw e

  -- nor one too far
  pub waits_far : exceeds k held lower ≡ true → ws ≡ waits_with R k s lower held ws
  unfolding waits_with
  waits_far e = by (eqb (R s).count 0) (exceeds k held lower) e
    where
      by : (a b : Bool) → b ≡ true → ws ≡ cond (a || b) ws (put_among (wait_key R s lower) ws)
      by true b e = refl
      by false b e = rw e

  pub waits_more :
      ((R s).count ≡ 0 → ⊥)
      → exceeds k held lower ≡ false
      → put_among (wait_key R s lower) ws ≡ waits_with R k s lower held ws
  unfolding waits_with
  waits_more h e = rw (ne_eqb (R s).count 0 h, e)

-- ---- both steps are `meet_one`

pub met :
    (R : ℕ → Record) (k s away lower : ℕ) (S : State) (ws held : List ℕ)
    → held ≡ holds k (held_key R s away) S.held
    → ws ≡ waits_with R k s lower held S.waits
    → state ws held (S.count + 1) ≡ meet_one R k s away lower S
unfolding meet_one
met R k s away lower S ws held e f =
    ap₂
    (λ (w h : List ℕ). state w h (S.count + 1))
    (f ∙ ap (λ (h : List ℕ). waits_with R k s lower h S.waits) e)
    e
