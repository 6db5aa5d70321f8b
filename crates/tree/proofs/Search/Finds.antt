-- On every well-formed and sound table a search lists exactly the cards of the used records within the radius, each
-- once. The key: x within r of the query, below child b, with sibling c older than x, is no farther from b than from
-- c; so by the triangle b is at most 2r farther from the query than c, and neither step 3's test nor its bound cuts x
-- off. Of the distance only the laws are used. Assumes nothing.
use Prim.Native.Nat.{ℕ, suc, zero, ◌+◌, ◌*◌, ◌≤◌, ◌<◌}
use Rattle.std.specs.Prelude.{Bool, true, false, ◌≡◌, ◌↔◌, leb, ltb}
use Rattle.std.proofs.Math.Bool.{and-true}
use Rattle.std.proofs.Math.Path.{refl, sym, ap}
use Rattle.std.proofs.Common.{◌∙◌, arith}
use mathlib.Core.List.Memᴰ
use mathlib.Core.List.Memᴰ.{head as first}
use mathlib.Core.List.Memᴰ.{tail as later}
use mathlib.Core.List.{List, [], ◌∷◌, ◌++◌, append_assoc}
use Rattle.std.proofs.Math.Decide.{dec_le}
use borrow.Author.Tests.{ltb-true, leb-true, lt-ltb, le-leb}
use Rattle.distance.specs.Laws.{Distance}
use Rattle.places.specs.Choice.{and_both}
use Rattle.tree.specs.Slots.{◌∈◌, Distinct, keep, keep_from, keep_to}
use Rattle.places.specs.Cases.{either}
use Rattle.tree.specs.View.{View, Used, Late, away, Below, here, down, Rising, Formed, Sound, used_count}
use Rattle.tree.specs.View.Shape.{below_younger, below_root, siblings_timestamp}
use Rattle.tree.specs.View.Under.{used_shallow}
use Rattle.tree.specs.Search.{least, enters, is_visited, bound, turn, visit, listed}
use Rattle.tree.proofs.Search.Once.{visit_distinct, visit_used}

least_above : (b : Bool) (x m n : ℕ) → (b ≡ true → x < m) → x < n → x < least b m n
unfolding least
least_above true x m n f h = omega (arith, f refl)
least_above false x m n f h = h

-- a fact turned round
turned : (a b c e : ℕ) → (c < e → a < b) → b ≤ a → e ≤ c
turned a b c e f h = elim (dec_le e c) [ yes p ↦ p | no m ↦ absurd (let g : a < b = f (omega arith) in omega arith) ]

keep_distinct : (b : Bool) (c : ℕ) (l : List ℕ) → (c ∈ l → ⊥) → Distinct l → Distinct (keep b (c ∷ []) ++ l)
unfolding keep
keep_distinct true c l f p = (f, p)
keep_distinct false c l f p = p

module _ {Sig : Type 0} (d : Sig → Sig → ℕ) (v : View Sig) (q : Sig) (r : ℕ) where
  -- ---- the children's turn reaches x if no sibling older than x is nearer than the child above x by more than 2r

  bound_above : (t b x : ℕ) (cs : List ℕ) → x < t
      → ((c : ℕ) → c ∈ cs → away d v q c + 2 * r < away d v q b → x < v.timestamp c) → x < bound d v q r t b cs
  unfolding bound
  bound_above t b x [] h f = h
  bound_above t b x (c ∷ cs) h f = least_above _ x (v.timestamp c) _
      (λ e. f c (first refl) (omega (arith, ltb-true))) (bound_above t b x cs h (λ c' i. f c' (later i)))

  is_visited_all : (os : List ℕ) (b : ℕ) → ((o : ℕ) → o ∈ os → away d v q b ≤ away d v q o + 2 * r)
      → is_visited d v q r os b ≡ true
  unfolding is_visited
  is_visited_all [] b f = refl
  is_visited_all (o ∷ os) b f =
      rw (is_visited_all os b (λ o' i. f o' (later i)), and-true) (omega (arith, le-leb, f o (first refl)))

  turn_reaches : (go : ℕ → ℕ → List ℕ) (t x b : ℕ) (os bs : List ℕ) → Rising v.timestamp bs → b ∈ bs
      → ((o : ℕ) → o ∈ os → away d v q b ≤ away d v q o + 2 * r)
      → ((c : ℕ) → c ∈ bs → away d v q c + 2 * r < away d v q b → v.timestamp x < v.timestamp c)
      → v.timestamp x < t → v.timestamp b ≤ v.timestamp x
      → ((t' : ℕ) → v.timestamp x < t' → x ∈ go b t') → x ∈ turn d v q r go t os bs
  unfolding turn
  turn_reaches go t x b os [] ris x8 g f xt bx h = elim x8 [ ]
  turn_reaches go t x b os (c ∷ bs) ris (first e) g f xt bx h = rw (← e) (Memᴰ.append_left _
      (keep_to _ x _ (is_visited_all _ b g) (h _ (bound_above t b (v.timestamp x) bs xt (λ c' i. f c' (later i))))))
  turn_reaches go t x b os (c ∷ bs) ris (later i) g f xt bx h = Memᴰ.append_right (keep _ _)
      (turn_reaches go t x b (c ∷ os) bs ris.1 i older (λ c' j. f c' (later j)) xt bx h)
    where
      older : (o : ℕ) → o ∈ (c ∷ os) → away d v q b ≤ away d v q o + 2 * r
      older o (first e) = rw e (turned _ _ _ _ (f c (first refl)) (omega (arith, ris.0 b i, bx)))
      older o (later j) = g o j

  -- ---- a record within r is entered

  module _ {Fit : Sig → Type 0} (laws : Distance Fit d) {n root : ℕ} (wf : Formed v n root) (ok : Sound d v) where
    -- a sibling nearer than the child above x by more than 2r is younger than x
    nearer_younger : {k x a b c : ℕ} → b ∈ v.children a → c ∈ v.children a → Below v.children x k b
        → away d v q x ≤ r → away d v q c + 2 * r < away d v q b → v.timestamp x < v.timestamp c
    nearer_younger {b} ib ic (here e) xr h = absurd (let g : away d v q b ≤ r = rw e at xr in omega arith)
    nearer_younger {x} {a} {b} {c} ib ic (down {k = j} i p) xr h =
        elim (dec_le (v.timestamp x) (v.timestamp c)) [ yes le ↦ differs le | no m ↦ absurd (far (omega arith)) ]
      where
        differs : v.timestamp x ≤ v.timestamp c → v.timestamp x < v.timestamp c
        differs le = elim (dec_le (v.timestamp c) (v.timestamp x)) [
          | yes ge ↦ absurd (siblings_timestamp wf ib ic (down i p) (omega arith))
          | no m ↦ omega arith
        ]

        far : v.timestamp c < v.timestamp x → ⊥
        far lt = omega (
          arith,
          ok.near j a b c x (wf.parent_used a b ib) ib ic (down i p) lt,
          laws.over_third (v.signature b) (v.signature x) q,
          laws.over_third (v.signature x) q (v.signature c),
          laws.both_ways (v.signature b) (v.signature x),
          laws.both_ways (v.signature c) q,
        )

    covers : {k a x : ℕ} → Used v a → Below v.children x k a → d (v.signature a) (v.signature x) ≤ v.radius a
    covers {a} u (here e) = rw e (omega (arith, laws.to_self (v.signature a)))
    covers {a} {x} u (down {k = j} i p) = ok.cover j a x u (down i p)

    above_entered : {k a t x : ℕ} → Used v a → Below v.children x k a → away d v q x ≤ r → v.timestamp x < t
        → enters d v q r a t ≡ true
    unfolding enters
    above_entered {a} {t} {x} u p xr xt = and_both (ltb (v.timestamp a) t) _
        (omega (arith, lt-ltb, below_younger wf p))
        (omega (arith, le-leb, covers u p, laws.over_third (v.signature a) (v.signature x) q))

    pub visit_finds : (f k a t x : ℕ) → Used v a → Below v.children x k a → k < f → away d v q x ≤ r
        → v.timestamp x < t → x ∈ visit d v q r f a t
    unfolding visit
    visit_finds zero k a t x u p kf xr xt = absurd (omega arith)
    visit_finds (suc f) k a t x u (here e) kf xr xt = keep_to _ x _ (above_entered u (here e) xr xt) (first e)
    visit_finds (suc f) k a t x u (down {k = j} {b = b} i p) kf xr xt =
        keep_to _ x _ (above_entered u (down i p) xr xt) (later
        (turn_reaches (visit d v q r f) t x b _ (v.children a) (wf.rising a) i
        (λ o m. absurd (Memᴰ.not-nil m)) (λ c ic. nearer_younger i ic p xr) xt (omega (arith, below_younger wf p))
        (λ t' xt'. visit_finds f j b t' x (wf.child_used a b i) p (omega arith) xr xt')))

  -- ---- what is listed of the slots entered

  pub listed_append : (l m : List ℕ) → listed d v q r (l ++ m) ≡ listed d v q r l ++ listed d v q r m
  unfolding listed
  listed_append [] m = refl
  listed_append (a ∷ l) m =
      let own = keep (leb (away d v q a) r) (v.card a ∷ []) in
      ap (own ++◌) (listed_append l m) ∙ sym (append_assoc own (listed d v q r l) (listed d v q r m))

  pub listed_to : (a : ℕ) (l : List ℕ) → a ∈ l → away d v q a ≤ r → v.card a ∈ listed d v q r l
  unfolding listed
  listed_to a [] x'' h = elim x'' [ ]
  listed_to a (b ∷ l) (first e) h = Memᴰ.append_left (listed d v q r l)
      (keep_to _ (v.card a) (v.card b ∷ []) (le-leb (away d v q b) r (rw (← e) h)) (first (ap v.card e)))
  listed_to a (b ∷ l) (later i) h =
      Memᴰ.append_right (keep (leb (away d v q b) r) (v.card b ∷ [])) (listed_to a l i h)

  pub listed_from : (c : ℕ) (l : List ℕ) → c ∈ listed d v q r l → (a : ℕ) × a ∈ l × (v.card a ≡ c) × (away d v q a ≤ r)
  unfolding listed
  listed_from c [] i = absurd (Memᴰ.not-nil i)
  listed_from c (b ∷ l) i = either (Memᴰ.append_cases (keep (leb (away d v q b) r) (v.card b ∷ [])) i)
      (λ j.
      let z = keep_from (leb (away d v q b) r) c (v.card b ∷ []) j in
      (b, first refl, sym (Memᴰ.eq_of_singleton z.1), leb-true _ _ z.0))
      (λ j. let z = listed_from c l j in (z.0, later z.1, z.2, z.3))

  pub listed_distinct : (l : List ℕ) → ((a b : ℕ) → a ∈ l → b ∈ l → v.card a ≡ v.card b → a ≡ b) → Distinct l
      → Distinct (listed d v q r l)
  unfolding listed
  listed_distinct [] f p = tt
  listed_distinct (a ∷ l) f p = keep_distinct _ (v.card a) (listed d v q r l)
      (λ i.
      let z = listed_from (v.card a) l i in
      p.0 (Memᴰ.cast (f a z.0 (first refl) (later z.1) (sym z.2)) z.1))
      (listed_distinct l (λ x y i j. f x y (later i) (later j)) p.1)

  -- ---- the theorem

  module _ {n root : ℕ} (wf : Formed v n root) (f t : ℕ) where
    -- each card is listed once, sound or not
    pub listed_once : Distinct (listed d v q r (visit d v q r f root t))
    listed_once = listed_distinct (visit d v q r f root t)
        (λ a b i j. wf.cards a b
        (visit_used d q r wf f root t a wf.root_used i) (visit_used d q r wf f root t b wf.root_used j))
        (visit_distinct d q r wf f root t)

    -- a card listed is a used record's within r, sound or not
    pub listed_within : (c : ℕ) → c ∈ listed d v q r (visit d v q r f root t)
        → (a : ℕ) × Used v a × (v.card a ≡ c) × (away d v q a ≤ r)
    listed_within c i =
        let z = listed_from c (visit d v q r f root t) i in
        (z.0, visit_used d q r wf f root t z.0 wf.root_used z.1, z.2, z.3)

    -- with fuel for the used records and no bound on time, exactly these cards are listed
    module _ {Fit : Sig → Type 0} (laws : Distance Fit d) (ok : Sound d v)
        (enough : used_count v n ≤ f) (late : Late v t) where
      pub listed_all : (a : ℕ) → Used v a → away d v q a ≤ r → v.card a ∈ listed d v q r (visit d v q r f root t)
      listed_all a u h =
          let z = below_root wf a u in
          let deep = used_shallow wf f root wf.root_used enough z.0 a z.1 in
          listed_to a (visit d v q r f root t)
          (visit_finds laws wf ok f z.0 root t a wf.root_used z.1 deep h (late a u)) h

      pub listed_iff : (c : ℕ) → c ∈ listed d v q r (visit d v q r f root t)
          ↔ ((a : ℕ) × Used v a × (v.card a ≡ c) × (away d v q a ≤ r))
      listed_iff c = (listed_within c, λ z. Memᴰ.cast (sym z.2) (listed_all z.0 z.1 z.3))
