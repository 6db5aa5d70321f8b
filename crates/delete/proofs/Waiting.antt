-- The slots that wait to go back are those that stood below the deleted card, each once, oldest first
-- (`waiting_rising`), and by keys they are the same (`waiting_keys`): the deleted card's own key comes first, since it
-- is the oldest (`keys_first`). Assumes nothing.
use Rattle.std.specs.Prelude.{ℕ, zero, suc, ◌+◌, ◌≤◌, ◌<◌, ◌≡◌, ◌↔◌, List, ◌∷◌, map, length, drop}
use Rattle.std.proofs.Math.Path.{sym}
use Rattle.std.proofs.Common.{ap, ◌∙◌, arith}
use Rattle.order.specs.Order.{in_order}
use Rattle.table.specs.Record.{Record, children}
use Rattle.table.specs.Table.{at}
use Rattle.tree.specs.Slots.{◌∈◌, Distinct, image_from}
use Rattle.tree.specs.View.{Below, here, Rising}
use Rattle.tree.specs.View.Shape.{below_younger}
use Rattle.view.specs.Formed.{used_within}
use Rattle.removal.specs.Removal.{leaving}
use Rattle.removal.specs.Leaving.{
  Held,
  held_seen,
  leaving_iff,
  leaving_first,
  leaving_used,
  below_iff,
  below_distinct,
}
use Rattle.age.specs.Age.{Ages, oldest_first_rising}
use Rattle.age.specs.Key.{slot_span, age_key, slot_in, by_age, in_order_first}
use Rattle.age.specs.Key.{by_age_iff, by_age_distinct, by_age_length, by_age_oldest}
use Rattle.delete.specs.Delete.{waiting}
use Rattle.delete.specs.Waiting.{leaving_keys}

module _ {rows : List Record} {v : ℕ} (held : Held rows v) where
  abbrev low : List ℕ
  low = drop 1 (leaving rows v)

  pub leaving_within : (s : ℕ) → s ∈ leaving rows v → s < length rows
  leaving_within s i = used_within held.shaped s (leaving_used held s i)

  -- slots fit a key
  leaving_span : (s : ℕ) → s ∈ leaving rows v → s < slot_span
  leaving_span s i = omega (arith, leaving_within s i, held.small)

  low_span : (s : ℕ) → s ∈ low → s < slot_span
  low_span s i = leaving_span s ((below_iff held s).0 i).0

  -- ---- the slots that wait

  -- no two of them have one timestamp
  low_ages : Ages (λ s. (at rows s).timestamp) low
  low_ages a b i j =
      let of : (s : ℕ) → s ∈ low → s ∈ leaving rows v = λ s k. ((below_iff held s).0 k).0 in
      held.well_formed.timestamps a b (leaving_within a (of a i)) (leaving_within b (of b j))
      (leaving_used held a (of a i)) (leaving_used held b (of b j))

  -- the code's way, by keys, is the paper's
  waiting_keys : waiting rows v ≡ by_age rows low
  unfolding waiting
  waiting_keys = sym (by_age_oldest rows low low_span (below_distinct held) low_ages)

  -- "oldest first by their old timestamps"
  pub waiting_rising : Rising (λ s. (at rows s).timestamp) (waiting rows v)
  unfolding waiting
  waiting_rising = oldest_first_rising (λ s. (at rows s).timestamp) low (below_distinct held) low_ages

  pub waiting_low : (s : ℕ) → s ∈ waiting rows v ↔ s ∈ drop 1 (leaving rows v)
  waiting_low s = rw waiting_keys (by_age_iff rows low low_span s)

  -- they are those that leave with v
  pub waiting_iff : (s : ℕ) → s ∈ waiting rows v ↔ (s ∈ leaving rows v × (s ≡ v → ⊥))
  waiting_iff s = (λ i. (below_iff held s).0 ((waiting_low s).0 i), λ z. (waiting_low s).1 ((below_iff held s).1 z))

  -- they are "every record below it"
  pub waiting_below : (s : ℕ) → s ∈ waiting rows v ↔ ((k : ℕ) × Below (λ a. children (at rows a)) s (suc k) v)
  waiting_below s = (
    λ i. let z = (waiting_iff s).0 i in let w = (leaving_iff held s).0 z.0 in strictly w.0 w.1 z.1,
    λ w.
        (waiting_iff s).1 (
          (leaving_iff held s).1 (suc w.0, w.1),
          λ e. omega (arith, below_younger (held_seen held) w.1, ap (λ (a : ℕ). (at rows a).timestamp) e),
        ),
  )
    where
      strictly : (k : ℕ) → Below (λ a. children (at rows a)) s k v → (s ≡ v → ⊥)
          → (j : ℕ) × Below (λ a. children (at rows a)) s (suc j) v
      strictly zero (here e) ne = absurd (ne e)
      strictly (suc k) p ne = (k, p)

  pub waiting_distinct : Distinct (waiting rows v)
  waiting_distinct = rw waiting_keys (by_age_distinct rows low low_span (below_distinct held))

  -- m: "the number of records that stood below it"
  pub leaving_length : length (leaving rows v) ≡ suc (length (waiting rows v))
  leaving_length =
      ap length (leaving_first held) ∙ ap suc (sym (ap length waiting_keys ∙ by_age_length rows low))

  -- ---- the keys of all that leave

  -- the slots in them are those that leave
  pub keys_slots : (s : ℕ) → s ∈ map slot_in (leaving_keys rows v) ↔ s ∈ leaving rows v
  keys_slots s = by_age_iff rows (leaving rows v) leaving_span s

  -- v is the oldest of those that leave
  oldest : (s : ℕ) → s ∈ low → age_key rows v ≤ age_key rows s
  oldest s i =
      let z = (leaving_iff held s).0 ((below_iff held s).0 i).0 in
      elder s z.0 z.1 ((below_iff held s).0 i).1 (below_younger (held_seen held) z.1)
    where
      elder : (s k : ℕ) → Below (λ a. children (at rows a)) s k v → (s ≡ v → ⊥)
          → (at rows v).timestamp + k ≤ (at rows s).timestamp
          → age_key rows v ≤ age_key rows s
      elder s zero (here e) ne h = absurd (ne e)
      elder s (suc k) p ne h = omega (arith, h, used_within held.shaped v held.used, held.small)

  -- the deleted card's key comes first, and then those of the slots that wait
  keys_first : leaving_keys rows v ≡ age_key rows v ∷ in_order (map (age_key rows) low)
  keys_first =
      ap (λ (l : List ℕ). in_order (map (age_key rows) l)) (leaving_first held)
      ∙ in_order_first (age_key rows v) (map (age_key rows) low)
      (λ y i. let z = image_from (age_key rows) y low i in rw z.2 (oldest z.0 z.1))

  pub keys_waiting : map slot_in (drop 1 (leaving_keys rows v)) ≡ waiting rows v
  keys_waiting = ap (λ (l : List ℕ). map slot_in (drop 1 l)) keys_first ∙ sym waiting_keys
