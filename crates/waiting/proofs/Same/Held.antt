-- Keys compare as the records do: by distance and card, or by lower bound and timestamp. So the keys held are those of
-- the cards held, and say the same of when the work is over. Assumes nothing.
use Prim.Native.Nat.{ℕ, ◌-◌, ◌≤◌}
use Rattle.std.specs.Prelude.{◌≡◌, Bool, true, false, ◌&&◌, eqb, ltb, length, get_or, take}
use Rattle.std.proofs.Math.Path.{refl, ap}
use Rattle.std.proofs.Common.{ap₂, ◌∙◌, arith, le-leb, eqb-true}
use mathlib.Core.List.Memᴰ.{head as first}
use mathlib.Core.List.Memᴰ.{tail as later}
use mathlib.Core.List.{List, ◌∷◌, map}
use Rattle.std.proofs.lemmas.List.{length-map}
use Rattle.std.proofs.Math.ListN.{length-take}
use Rattle.std.proofs.lemmas.Bool.{lt-leb, eqb-false}
use Rattle.places.specs.Image.{take_map, map_map}
use Rattle.distance.specs.Kind.{apart}
use Rattle.table.specs.Record.{Record, Used}
use Rattle.tree.specs.Sorted.{put_by, sort_by}
use Rattle.tree.specs.Sorted.Front.{take_member}
use Rattle.tree.specs.Sorted.Laws.{sort_by_from, take_put}
use Rattle.tree.specs.Nearest.{Waiting, sooner, nearer, held, is_over}
use Rattle.view.specs.View.{view_of}
use Rattle.steps.specs.Step.{away_from}
use Rattle.waiting.specs.Key.{first_in, second_in}
use Rattle.waiting.specs.Key.Laws.{key_first, key_second, key_below}
use Rattle.waiting.specs.Front.{holds, exceeds}
use Rattle.waiting.specs.Same.{Given, used_slot, AllUsed, key_held, key_waiting, held_of}
use Rattle.waiting.specs.Same.Image.{put_map, read_map}

module _ {n : ℕ} {R : ℕ → Record} {root : ℕ} {q : List ℕ} (given : Given n R root q) (kind k : ℕ) where
  abbrev key_at : ℕ → ℕ
  key_at s = key_held R kind q k s

  abbrev before : ℕ → ℕ → Bool
  before a b = nearer (apart kind) (view_of R) q a b

  -- ---- two keys

  -- equal distances and equal cards are one slot's
  held_below : (a b : ℕ) → Used (R a) → Used (R b) → ltb (key_at a) (key_at b) ≡ before a b
  unfolding nearer
  held_below a b u w =
      key_below (away_from R kind q a) (R a).card a (away_from R kind q b) (R b).card b
      (used_slot given a u) (used_slot given b w) (given.fields a).card (given.fields b).card
      (λ _ e. given.seen.cards a b u w e)

  -- equal bounds and equal timestamps, too
  pub waiting_below : (x y : Waiting) → Used (R x.slot) → Used (R y.slot)
      → ltb (key_waiting R kind q k x) (key_waiting R kind q k y) ≡ sooner (view_of R) x y
  unfolding sooner
  waiting_below x y u w =
      let a = x.slot in
      let b = y.slot in
      key_below x.lower (R a).timestamp a y.lower (R b).timestamp b
      (used_slot given a u) (used_slot given b w) (given.fields a).timestamp (given.fields b).timestamp
      (λ _ e. given.seen.timestamps a b u w e)

  -- a key tells the distance and the card of its record
  held_first : (s : ℕ) → Used (R s) → first_in (key_at s) ≡ away_from R kind q s
  held_first s u = key_first (away_from R kind q s) (R s).card s (used_slot given s u) (given.fields s).card

  held_second : (s : ℕ) → Used (R s) → second_in (key_at s) ≡ (R s).card
  held_second s u = key_second (away_from R kind q s) (R s).card s (used_slot given s u) (given.fields s).card

  -- ---- those held

  held_used : (cs : List ℕ) → AllUsed R cs → AllUsed R (held_of R kind q k cs)
  unfolding held
  held_used cs all s i = all s (sort_by_from before s cs (take_member k s (sort_by before cs) i))

  held_few : (cs : List ℕ) → length (held_of R kind q k cs) ≤ k
  unfolding held
  held_few cs = omega (arith, length-take k (sort_by before cs))

  -- one more was compared
  pub holds_is : (s : ℕ) (cs : List ℕ) → AllUsed R (s ∷ cs)
      → holds k (key_at s) (map key_at (held_of R kind q k cs)) ≡ map key_at (held_of R kind q k (s ∷ cs))
  unfolding held sort_by
  holds_is s cs all =
      let hs : List ℕ = held_of R kind q k cs in
      let used = held_used cs (λ a i. all a (later i)) in
      ap (take k) (put_map key_at before s hs (λ a i. held_below a s (used a i) (all s (first refl))))
      ∙ take_map key_at k (put_by before s hs)
      ∙ ap (map key_at) (take_put before k s (sort_by before cs))

  -- the k-th distance
  pub exceeds_is : 1 ≤ k → (cs : List ℕ) (bound : ℕ) → AllUsed R cs
      → exceeds k (map key_at (held_of R kind q k cs)) bound ≡ is_over (apart kind) (view_of R) q k cs bound
  unfolding is_over
  exceeds_is one cs bound all = go (eqb (length hs) k) refl
    where
      hs : List ℕ
      hs = held_of R kind q k cs

      far : length hs ≡ k → first_in (get_or (map key_at hs) (k - 1) 0) ≡ away_from R kind q (get_or hs (k - 1) 0)
      far e =
          read_map key_at first_in (away_from R kind q) hs (k - 1) 0
          (λ s i. held_first s (held_used cs all s i))
          (omega arith)

      go : (t : Bool) → eqb (length hs) k ≡ t
          → exceeds k (map key_at hs) bound ≡ t && ltb (away_from R kind q (get_or hs (k - 1) 0)) bound
      go true e =
          let full = eqb-true (length hs) k e in
          rw (length-map hs key_at, le-leb k (length hs) (omega arith), far full)
      go false e =
          let less = eqb-false (length hs) k e in
          rw (length-map hs key_at, lt-leb k (length hs) (omega (arith, held_few cs)))

  -- what is made of the keys held, each by its card and its distance, is made of the cards held
  pub held_told : {A : Type 0} (make : ℕ → ℕ → A) (cs : List ℕ) → AllUsed R cs
      → map (λ (x : ℕ). make (second_in x) (first_in x)) (map key_at (held_of R kind q k cs))
      ≡ map (λ (s : ℕ). make (R s).card (away_from R kind q s)) (held_of R kind q k cs)
  held_told make cs all =
      map_map key_at _ _ (held_of R kind q k cs)
      (λ s i. let u = held_used cs all s i in ap₂ make (held_second s u) (held_first s u))
