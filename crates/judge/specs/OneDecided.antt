-- The tests of one record say yes exactly where it is free, and where its fields are as they should be. Assumes
-- nothing.
use Rattle.std.specs.Prelude.{ℕ, ◌<◌, ◌≡◌, List, get_or, length, replicate}
use Rattle.std.proofs.Common.{sym, ap, ◌∙◌, ext_get_or}
use Rattle.std.proofs.lemmas.List.{length-replicate, get_or-replicate}
use Rattle.refusals.specs.Limits.{most_children}
use Rattle.places.specs.Decides.{Decides, true_decided, le_decided, eq_decided, both, if_so, at_each, reworded}
use Rattle.distance.specs.Kind.{known_kind}
use Rattle.table.specs.Record.{Record, Used, used, free, slot, no_slot}
use Rattle.judge.specs.WellFormed.{Filled, zeros, is_free, is_filled, past_count}

pub used_decided : (r : Record) → Decides (used r) (Used r)
used_decided r = le_decided 1 r.card

zeros_decided : (n : ℕ) (l : List ℕ) → Decides (zeros n l) (l ≡ replicate n 0)
zeros_decided n l =
    reworded
    (λ h. ext_get_or 0 l (replicate n 0) (h.0 ∙ sym (length-replicate n 0)) (λ i b. at h i (rw h.0 at b)))
    (λ e. (ap length e ∙ length-replicate n 0, λ i b. ap (λ (m : List ℕ). get_or m i 0) e ∙ get_or-replicate n i 0 0 b))
    (both (eq_decided (length l) n) (at_each n (λ i. eq_decided (get_or l i 0) 0)))
  where
    at :
        (length l ≡ n) × ((i : ℕ) → i < n → get_or l i 0 ≡ 0)
        → (i : ℕ)
        → i < n
        → get_or l i 0 ≡ get_or (replicate n 0) i 0
    at h i b = h.1 i b ∙ sym (get_or-replicate n i 0 0 b)

pub free_decided : (r : Record) → Decides (is_free r) (r ≡ free)
unfolding is_free
free_decided r =
    reworded
    (λ h i.
    record {
      card = h.0.0.0.0 i;
      timestamp = h.0.0.0.1 i;
      radius = h.0.0.1.0 i;
      parent = h.0.0.1.1 i;
      count = h.0.1.0 i;
      kind = h.0.1.1 i;
      slots = h.1.0 i;
      readings = h.1.1 i;
    })
    (λ e. (
      (
        (
          (ap (λ (x : Record). x.card) e, ap (λ (x : Record). x.timestamp) e),
          (ap (λ (x : Record). x.radius) e, ap (λ (x : Record). x.parent) e),
        ),
        (ap (λ (x : Record). x.count) e, ap (λ (x : Record). x.kind) e),
      ),
      (ap (λ (x : Record). x.slots) e, ap (λ (x : Record). x.readings) e),
    ))
    (both
    (both
    (both
    (both (eq_decided r.card 0) (eq_decided r.timestamp 0))
    (both (eq_decided r.radius 0) (eq_decided r.parent 0)))
    (both (eq_decided r.count 0) (eq_decided r.kind 0)))
    (both (zeros_decided most_children r.slots) (zeros_decided 16 r.readings)))

pub filled_decided : (r : Record) → Decides (is_filled r) (Filled r)
unfolding is_filled past_count
filled_decided r =
    reworded
    (λ h.
    record {
      card_from_1 = h.0.0.0;
      timestamp_from_1 = h.0.0.1;
      count_to_8 = h.0.1;
      kind_known = h.1.0;
      past_count = λ i p b. h.1.1 i b p;
    })
    (λ f. (
      ((f.card_from_1, f.timestamp_from_1), f.count_to_8),
      (f.kind_known, λ i b p. f.past_count i p b),
    ))
    (both
    (both (both (le_decided 1 r.card) (le_decided 1 r.timestamp)) (le_decided r.count most_children))
    (both
    (true_decided (known_kind r.kind))
    (at_each most_children (λ i. if_so (le_decided r.count i) (eq_decided (slot r i) no_slot)))))
