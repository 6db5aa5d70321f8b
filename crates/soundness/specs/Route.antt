-- In a well-formed table the route says what the paper's words say (`route_is`). The key idea: the records that x meets
-- when it climbs are exactly those below which it stands, so soundness may be asked from below. Assumes nothing.
use Prim.Native.Nat.{ℕ, zero, suc, ◌≤◌, ◌<◌}
use Rattle.std.specs.Prelude.{◌≡◌, refl, Bool, true, List}
use Rattle.std.proofs.Common.{sym, ◌∙◌, arith}
use Rattle.std.proofs.Math.Decide.{ℕ_discrete}
use borrow.Author.Tests.{leb-true, le-leb}
use Rattle.places.specs.Choice.{implies}
use Rattle.places.specs.Test.{all_at, at_all, count_most}
use Rattle.places.specs.Decides.{Decides, le_decided, lt_decided, eq_decided, both, if_so, not_so, at_each}
use Rattle.places.specs.Decides.{reworded, decides_same}
use Rattle.distance.specs.Kind.{apart, apart_distance}
use Rattle.table.specs.Record.{Record, Used, used, slot, no_slot, children}
use Rattle.refusals.specs.Limits.{most_records}
use Rattle.judge.specs.WellFormed.{WellFormed, each_used}
use Rattle.survey.specs.Survey.{used_in, kind_of}
use Rattle.tree.specs.Slots.{◌∈◌}
use Rattle.places.specs.Cases.{either}
use Rattle.tree.specs.View.{used_count, Below, here, down, Formed, Sound}
use Rattle.tree.specs.View.Shape.{below_child, below_parent, below_hung, below_used}
use Rattle.tree.specs.View.Under.{used_shallow}
use Rattle.view.specs.View.{view_of}
use Rattle.view.specs.Shaped.{Shaped}
use Rattle.survey.specs.Laws.{used_in_none}
use Rattle.view.specs.Survey.{used_in_used_count, kind_of_is}
use Rattle.view.specs.Children.{children_at, slot_child, standing_child}
use Rattle.view.specs.Formed.{count_fits}
use Rattle.soundness.specs.Soundness.{is_sound}
use Rattle.soundness.specs.Decided.{answered, used_decided, free_sound, free_or_formed}
use Rattle.soundness.specs.Climb.{siblings_pass, passes, climb, climb_top, climb_from, route}

-- ---- a test at each used record

asked : (t b : Bool) → t ≡ true → implies t b ≡ true → b ≡ true
asked t b e h = rw e at h

-- tests that decide where a record is used
each_used_lem :
    (n : ℕ) (R : ℕ → Record) {p : ℕ → Bool} {P : ℕ → Type 0}
    → ((s : ℕ) → s < n → Used (R s) → Decides (p s) (P s))
    → Decides (each_used n R p) ((s : ℕ) → s < n → Used (R s) → P s)
each_used_lem n R {p} {P} d =
    record {
      shows = λ e s b u. (d s b u).shows (asked (used (R s)) (p s) (le-leb 1 (R s).card u) (all_at n _ e s b));
      passes =
          λ h.
          at_all n _
          (λ s b.
          answered (used (R s)) (p s) (λ e. let u = leb-true 1 (R s).card e in (d s b u).passes (h s b u)));
    }

-- ---- what the route decides

-- what is asked of x, of signature q and timestamp t, and a record b above it
pub record Passes (R : ℕ → Record) (kind : ℕ) (q : List ℕ) (t b : ℕ) : Type 0 where
  pub covered : apart kind q (R b).readings ≤ (R b).radius
  pub nearest :
      ((R b).parent ≡ no_slot → ⊥)
      → (c : ℕ)
      → c ∈ children (R (R b).parent)
      → (R c).timestamp < t
      → apart kind q (R b).readings ≤ apart kind q (R c).readings

module _ {n : ℕ} {R : ℕ → Record} (small : n ≤ most_records) (shape : Shaped n R) (wf : WellFormed n R) where
  module _ (kind : ℕ) (q : List ℕ) (t : ℕ) where
    siblings_decided :
        (b p : ℕ)
        → Decides
        (siblings_pass R kind q t b p)
        ((c : ℕ)
        → c ∈ children (R p)
        → (R c).timestamp < t
        → apart kind q (R b).readings ≤ apart kind q (R c).readings)
    unfolding siblings_pass
    siblings_decided b p =
        let fits = count_fits shape wf.free_if_no_card wf.filled p in
        reworded
        (λ h c j. let z = children_at (R p) fits c j in rw (← z.2) (h z.0 z.1))
        (λ h i l. h (slot (R p) i) (slot_child (R p) fits i l))
        (at_each (R p).count (λ i. if_so (lt_decided (R (slot (R p) i)).timestamp t)
        (le_decided (apart kind q (R b).readings) (apart kind q (R (slot (R p) i)).readings))))

    passes_decided : (b : ℕ) → Decides (passes R kind q t b) (Passes R kind q t b)
    unfolding passes
    passes_decided b =
        reworded
        (λ h. record { covered = h.0; nearest = h.1 })
        (λ h. (h.covered, h.nearest))
        (both (le_decided (apart kind q (R b).readings) (R b).radius)
        (if_so (not_so (eq_decided (R b).parent no_slot)) (siblings_decided b (R b).parent)))

  module _ {root : ℕ} (seen : Formed (view_of R) n root) where
    abbrev kids : ℕ → List ℕ
    kids s = children (R s)

    -- a record that names a parent is its child
    hangs : (y : ℕ) → Used (R y) → ((R y).parent ≡ no_slot → ⊥) → y ∈ kids (R y).parent
    hangs y u ne =
        standing_child
        (R (R y).parent)
        (count_fits shape wf.free_if_no_card wf.filled (R y).parent)
        y
        (wf.hung y (seen.within y u) u ne).stands_once

    module _ (kind : ℕ) (q : List ℕ) (t : ℕ) where
      -- every record above y passes
      abbrev AbovePass : ℕ → Type 0
      AbovePass y = (k a : ℕ) → Below kids y (suc k) a → Passes R kind q t a

      -- nothing is asked of a record that names no parent, since it stands below none
      top_decided : (f y : ℕ) → (R y).parent ≡ no_slot → Decides (climb R kind q t f (R y).parent) (AbovePass y)
      top_decided f y e =
          record {
            shows =
                λ _ k a p.
                let i : y ∈ kids (R y).parent = below_hung seen p in
                absurd (omega (arith, seen.within (R y).parent (seen.parent_used (R y).parent y i)));
            passes = λ _. climb_top R kind q t f (R y).parent e;
          }

      -- one step up: to the parent, and from there on
      step_decided :
          (f y : ℕ)
          → Used (R y)
          → ((R y).parent ≡ no_slot → ⊥)
          → Decides (climb R kind q t f (R (R y).parent).parent) (AbovePass (R y).parent)
          → Decides (climb R kind q t (suc f) (R y).parent) (AbovePass y)
      unfolding climb
      step_decided f y u ne above =
          reworded
          (λ h k a p. up (h ne).0 (h ne).1 k a (below_parent seen p))
          (λ h _. (
            h 0 (R y).parent (down (hangs y u ne) (here refl)),
            λ k a p. h (suc k) a (below_child p (hangs y u ne)),
          ))
          (if_so (not_so (eq_decided (R y).parent no_slot)) (both (passes_decided kind q t (R y).parent) above))
        where
          up :
              Passes R kind q t (R y).parent
              → AbovePass (R y).parent
              → (k a : ℕ)
              → Below kids (R y).parent k a
              → Passes R kind q t a
          up here-passes above-passes zero a (here e) = rw (← e) here-passes
          up here-passes above-passes (suc k) a p = above-passes k a p

      -- with levels enough, the climb from y asks it of every record above y
      climb_decided :
          (f y : ℕ)
          → Used (R y)
          → ((k a : ℕ) → Below kids y (suc k) a → k < f)
          → Decides (climb R kind q t f (R y).parent) (AbovePass y)
      climb_decided zero y u enough = elim (ℕ_discrete (R y).parent no_slot) [
        | yes e ↦ top_decided zero y e
        | no ne ↦ absurd (omega (arith, enough 0 (R y).parent (down (hangs y u ne) (here refl))))
      ]
      climb_decided (suc f) y u enough = elim (ℕ_discrete (R y).parent no_slot) [
        | yes e ↦ top_decided (suc f) y e
        | no ne ↦
            step_decided f y u ne
            (climb_decided f (R y).parent (wf.hung y (seen.within y u) u ne).parent_used
            (λ k a p. omega (arith, enough (suc k) a (below_child p (hangs y u ne)))))
      ]

    -- ---- every used record

    -- what the route asks of the whole table
    abbrev AllPass : Type 0
    AllPass = (x : ℕ) → x < n → Used (R x) → AbovePass (kind_of n R) (R x).readings (R x).timestamp x

    above_used : {k x a : ℕ} → Below kids x (suc k) a → Used (R a)
    above_used (down {a = a} {b = b} i p) = seen.parent_used a b i

    -- a climb has fewer steps than there are records
    steps : (k x a : ℕ) → Below kids x (suc k) a → k < n
    unfolding used_in
    steps k x a p =
        let levels : used_count (view_of R) n ≤ n =
        omega (arith, used_in_used_count n R, count_most n (λ s. used (R s))) in
        omega (arith, used_shallow seen n a (above_used p) levels (suc k) x p)

    to_sound : AllPass → Sound (apart (kind_of n R)) (view_of R)
    to_sound h =
        record {
          cover =
              λ k a x u p.
              let ux : Used (R x) = below_used seen u p in
              rw ((apart_distance (kind_of n R)).both_ways (R a).readings (R x).readings)
              (h x (seen.within x ux) ux k a p).covered;
          near =
              λ k a b c x u i j p l.
              let ux : Used (R x) = below_used seen (seen.child_used a b i) p in
              let e : (R b).parent ≡ a = seen.child_parent a b i in
              (h x (seen.within x ux) ux k b p).nearest (λ z. omega (arith, seen.within a u)) c (rw e j) l;
        }

    from_sound : Sound (apart (kind_of n R)) (view_of R) → AllPass
    from_sound s x b u k a p =
        record {
          covered =
              rw ((apart_distance (kind_of n R)).both_ways (R x).readings (R a).readings)
              (s.cover k a x (above_used p) p);
          nearest =
              λ ne c j l.
              let i = hangs a (above_used p) ne in
              s.near k (R a).parent a c x (seen.parent_used (R a).parent a i) i j p l;
        }

    route_decided : Decides (route n R) AllPass
    unfolding route climb_from
    route_decided =
        each_used_lem n R
        (λ x b u.
        rw (← kind_of_is n R wf x b u)
        (climb_decided (kind_of n R) (R x).readings (R x).timestamp n x u (λ k a p. steps k x a p)))

  -- the route says what the paper's words say
  pub route_is : route n R ≡ is_sound n R
  route_is =
      either
      (free_or_formed small shape wf)
      (λ none. free_passes none ∙ sym (free_sound n R none))
      (λ seen. decides_same (reworded (to_sound seen) (from_sound seen) (route_decided seen)) (used_decided n R seen))
    where
      free_passes : used_in n R ≡ 0 → route n R ≡ true
      free_passes none =
          unfold route in
          at_all n _
          (λ s b.
          answered (used (R s)) (climb_from n R s)
          (λ e. absurd (omega (arith, used_in_none n R none s b, leb-true 1 (R s).card e))))
