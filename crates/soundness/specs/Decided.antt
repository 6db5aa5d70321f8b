-- In a well-formed table `is_sound` says yes exactly where the table is sound (`sound_decided`), a free one included.
-- The key idea: the list `below` holds exactly what stands one or more levels below a slot. Assumes nothing.
use Rattle.std.specs.Prelude.{ℕ, suc, ◌≤◌, ◌<◌, ◌≡◌, refl, Bool, true, false, ◌⊎◌}
use Rattle.std.proofs.Common.{ap, ◌∙◌, inl, inr, arith, leb-true}
use mathlib.Core.List.Memᴰ.{head as first}
use mathlib.Core.List.Memᴰ.{tail as later}
use mathlib.Core.List.{List, [], ◌∷◌, flat_map}
use Rattle.std.proofs.Math.Decide.{ℕ_discrete}
use Rattle.places.specs.Choice.{implies, and_left, and_right, and_both}
use Rattle.places.specs.Test.{at_all}
use Rattle.places.specs.Decides.{Decides, le_decided, lt_decided, both, if_so, at_each, reworded}
use Rattle.distance.specs.Kind.{apart}
use Rattle.table.specs.Record.{Record, Used, used, children}
use Rattle.refusals.specs.Limits.{most_records}
use Rattle.judge.specs.WellFormed.{WellFormed}
use Rattle.survey.specs.Survey.{used_in, root_of, kind_of}
use Rattle.tree.specs.Slots.{◌∈◌, flat_map_from, flat_map_to}
use Rattle.places.specs.Cases.{either}
use Rattle.tree.specs.View.{used_count, Below, down, Formed, Sound, under}
use Rattle.tree.specs.View.Under.{under_is, under_from, under_to, used_shallow}
use Rattle.view.specs.View.{view_of}
use Rattle.view.specs.Shaped.{Shaped}
use Rattle.survey.specs.Laws.{used_in_none}
use Rattle.view.specs.Survey.{used_in_used_count}
use Rattle.view.specs.Formed.{formed_view}
use Rattle.view.specs.Sound.{SoundTable, sound_free}
use Rattle.soundness.specs.Soundness.{all_in, below, between, all_covered, all_near, is_sound}

-- ---- tests, and tests over a list

-- yes, if it is yes where it is asked
pub answered : (t b : Bool) → (t ≡ true → b ≡ true) → implies t b ≡ true
answered true b h = h refl
answered false b h = refl

all_in_lem : (l : List ℕ) (p : ℕ → Bool) → all_in l p ≡ true → (x : ℕ) → x ∈ l → p x ≡ true
unfolding all_in
all_in_lem [] p h x x4 = elim x4 [ ]
all_in_lem (a ∷ l) p h x (first e) = ap p e ∙ and_left (p a) (all_in l p) h
all_in_lem (a ∷ l) p h x (later i) = all_in_lem l p (and_right (p a) (all_in l p) h) x i

in_all : (l : List ℕ) (p : ℕ → Bool) → ((x : ℕ) → x ∈ l → p x ≡ true) → all_in l p ≡ true
unfolding all_in
in_all [] p h = refl
in_all (a ∷ l) p h = and_both (p a) (all_in l p) (h a (first refl)) (in_all l p (λ x i. h x (later i)))

-- one test at each slot of a list
pub each_in :
    (l : List ℕ) {p : ℕ → Bool} {P : ℕ → Type 0}
    → ((x : ℕ) → Decides (p x) (P x))
    → Decides (all_in l p) ((x : ℕ) → x ∈ l → P x)
each_in l {p} {P} d =
    record {
      shows = λ e x i. (d x).shows (all_in_lem l p e x i);
      passes = λ h. in_all l p (λ x i. (d x).passes (h x i));
    }

-- ---- a well-formed table with a used record

module _ (n : ℕ) (R : ℕ → Record) {root : ℕ} (wf : Formed (view_of R) n root) where
  abbrev kids : ℕ → List ℕ
  kids s = children (R s)

  -- the list of the slots below a
  below_is : (a : ℕ) → Used (R a) → below n R a ≡ flat_map (under kids (used_in n R)) (kids a)
  below_is a u = rw (← used_in_used_count n R, under_is wf a u)

  pub below_from : (a x : ℕ) → Used (R a) → x ∈ below n R a → (k : ℕ) × Below kids x (suc k) a
  below_from a x u i =
      let i' : x ∈ flat_map (under kids (used_in n R)) (kids a) = rw (← below_is a u) i in
      let z = flat_map_from (under kids (used_in n R)) x (kids a) i' in
      let w = under_from kids (used_in n R) z.0 x z.2 in
      (w.0, down z.1 w.2)

  pub below_to : (k a x : ℕ) → Used (R a) → Below kids x (suc k) a → x ∈ below n R a
  below_to k a x u (down {b = b} i p) =
      let levels : used_count (view_of R) n ≤ used_in n R = omega (arith, used_in_used_count n R) in
      let deep = used_shallow wf (used_in n R) b (wf.child_used a b i) levels k x p in
      rw (below_is a u)
      (flat_map_to (under kids (used_in n R)) x b (kids a) i (under_to kids (used_in n R) k b x deep p))

  covered_decided :
      Decides
      (all_covered n R)
      ((a : ℕ) → a < n → Used (R a) → (x : ℕ) → x ∈ below n R a → between n R a x ≤ (R a).radius)
  unfolding all_covered
  covered_decided =
      at_each n
      (λ a.
      if_so (le_decided 1 (R a).card) (each_in (below n R a) (λ x. le_decided (between n R a x) (R a).radius)))

  near_decided :
      Decides
      (all_near n R)
      ((a : ℕ)
      → a < n
      → Used (R a)
      → (b : ℕ)
      → b ∈ kids a
      → (c : ℕ)
      → c ∈ kids a
      → (x : ℕ)
      → x ∈ below n R b
      → (R c).timestamp < (R x).timestamp
      → between n R x b ≤ between n R x c)
  unfolding all_near
  near_decided =
      at_each n
      (λ a.
      if_so (le_decided 1 (R a).card)
      (each_in (kids a) (λ b. each_in (kids a) (λ c. each_in (below n R b)
      (λ x. if_so (lt_decided (R c).timestamp (R x).timestamp) (le_decided (between n R x b) (between n R x c)))))))

  pub used_decided : Decides (is_sound n R) (Sound (apart (kind_of n R)) (view_of R))
  unfolding is_sound
  used_decided =
      reworded
      (λ h.
      record {
        cover = λ k a x u p. h.0 a (wf.within a u) u x (below_to k a x u p);
        near =
            λ k a b c x u i j p t. h.1 a (wf.within a u) u b i c j x (below_to k b x (wf.child_used a b i) p) t;
      })
      (λ s. (
        λ a h u x i. let z = below_from a x u i in s.cover z.0 a x u z.1,
        λ a h u b i c j x m t.
            let z = below_from b x (wf.child_used a b i) m in s.near z.0 a b c x u i j z.1 t,
      ))
      (both covered_decided near_decided)

-- ---- a free table

-- "A free table is sound"
pub free_sound : (n : ℕ) (R : ℕ → Record) → used_in n R ≡ 0 → is_sound n R ≡ true
unfolding is_sound all_covered all_near
free_sound n R none = and_both _ _ (at_all n _ (λ s h. asked s h _)) (at_all n _ (λ s h. asked s h _))
  where
    asked : (s : ℕ) → s < n → (b : Bool) → implies (used (R s)) b ≡ true
    asked s h b =
        answered (used (R s)) b (λ e. absurd (omega (arith, leb-true 1 (R s).card e, used_in_none n R none s h)))

-- ---- every well-formed table

module _ {n : ℕ} {R : ℕ → Record} (small : n ≤ most_records) (shape : Shaped n R) (wf : WellFormed n R) where
  -- it is free, or the tree's theorems speak of it
  pub free_or_formed : (used_in n R ≡ 0) ⊎ Formed (view_of R) n (root_of n R)
  free_or_formed = elim (ℕ_discrete (used_in n R) 0) [
    | yes none ↦ inl none
    | no some ↦ inr (formed_view small shape wf (omega arith))
  ]

  -- the test says yes exactly where the table is sound
  pub sound_decided : Decides (is_sound n R) (SoundTable n R)
  sound_decided =
      either
      free_or_formed
      (λ none. record { shows = λ _. sound_free shape wf none; passes = λ _. free_sound n R none })
      (λ seen. reworded (λ s. record { well_formed = wf; sound = s }) (λ s. s.sound) (used_decided n R seen))
