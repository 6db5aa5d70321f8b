-- The outcome of a nearest call by its two cases, and its pairs as the code has them, as laws for what stands above.
-- Assumes nothing.
use Rattle.std.specs.Prelude.{ℕ, zero, suc, ◌≤◌, ◌≡◌, refl, length, take}
use Rattle.std.proofs.Common.{sym, ap, ◌∙◌, arith, length-take-le, eq-eqb, ne_eqb}
use mathlib.Core.List.{List, [], ◌∷◌, map}
use Rattle.std.proofs.lemmas.List.Edits.{sets}
use Rattle.distance.specs.Signature.{readings_at}
use Rattle.distance.specs.Kind.{apart}
use Rattle.refusals.specs.declared.Refusal.{Refusal}
use Rattle.refusals.specs.Refusal.{done}
use Rattle.refusals.specs.Told.{number_of, number_some}
use Rattle.pairs.specs.declared.Pair.{Pair}
use Rattle.table.specs.Record.{Record, Used, record_of}
use Rattle.table.specs.Table.{records_in}
use Rattle.survey.specs.Survey.{used_in, root_of}
use Rattle.tree.specs.Slots.{◌∈◌}
use Rattle.tree.specs.Sorted.{sort_by}
use Rattle.tree.specs.View.{Formed, distance_count, compared}
use Rattle.tree.specs.View.Count.{compared_used}
use Rattle.tree.specs.Nearest.{held, taken}
use Rattle.tree.proofs.Nearest.Fuel.{taken_count}
use Rattle.view.specs.View.{view_of}
use Rattle.view.specs.Survey.{used_in_used_count}
use Rattle.waiting.specs.Same.{Given}
use Rattle.waiting.proofs.Same.Held.{held_told}
use Rattle.nearest.specs.Nearest.{outcome, pair, pair_at, taken_slots, compared_slots, distances, nearest_pairs}
use Rattle.nearest.specs.Nearest.{refusal_of, refused, listing, listing_of, nearest_of}
use Rattle.nearest.specs.Keys.{pair_in, keys_held}

-- ---- accepted or refused

module _ (l : List ℕ) (kind : ℕ) (s : List ℕ) (k : ℕ) (list : List Pair) where
  pub accepted_is :
      refusal_of l kind s k (length list) ≡ done
      → nearest_of l kind s k list ≡ listing_of l kind (readings_at s 0) k list
  unfolding nearest_of
  accepted_is e = rw (eq-eqb _ _ e)

  pub refused_is :
      (refusal_of l kind s k (length list) ≡ done → ⊥)
      → nearest_of l kind s k list ≡ outcome (refusal_of l kind s k (length list)) 0 0 list
  unfolding nearest_of refused
  refused_is n = rw (ne_eqb _ _ n)

-- a refusal's number with nothing else is the outcome of a call that gives it
pub refuses :
    (l : List ℕ) (kind : ℕ) (s : List ℕ) (k room r n : ℕ) (ps : List Pair)
    → refusal_of l kind s k room ≡ r
    → (r ≡ done → ⊥)
    → n ≡ 0
    → (list : List Pair)
    → length list ≡ room
    → outcome r 0 0 (sets list 0 (take n ps)) ≡ nearest_of l kind s k list
refuses l kind s k room r n ps e ne z list long =
    let here : refusal_of l kind s k (length list) ≡ r = ap (refusal_of l kind s k) long ∙ e in
    rw (refused_is l kind s k list (λ y. ne (sym here ∙ y)), here, z)

-- what a call that is refused leaves, by the refusal that it gives
pub refused_by :
    (l : List ℕ) (kind : ℕ) (s : List ℕ) (k room : ℕ) (why : Refusal)
    → refusal_of l kind s k room ≡ number_of why
    → (list : List Pair)
    → length list ≡ room
    → outcome (number_of why) 0 0 list ≡ nearest_of l kind s k list
refused_by l kind s k room why e list long =
    let here : refusal_of l kind s k (length list) ≡ number_of why = ap (refusal_of l kind s k) long ∙ e in
    rw (refused_is l kind s k list (λ z. number_some why (sym here ∙ z)), here)

-- ---- a table of n records

-- the first k of none are none
pub none_first : {A : Type 0} (f : ℕ → A) (k : ℕ) (cs : List ℕ) → length cs ≡ 0 → map f (take k cs) ≡ []
none_first f zero cs e = refl
none_first f (suc k) [] e = refl
none_first f (suc k) (c ∷ cs) e = absurd (omega arith)

module _ (n : ℕ) (R : ℕ → Record) (kind : ℕ) (q : List ℕ) (k : ℕ) where
  pub compared_none : used_in n R ≡ 0 → compared_slots n R kind q k ≡ []
  unfolding compared_slots
  compared_none e = rw (eq-eqb _ _ e)

  pub distances_none : used_in n R ≡ 0 → distances n R kind q k ≡ 0
  unfolding distances
  distances_none e = rw (eq-eqb _ _ e)

  pub pairs_none : used_in n R ≡ 0 → nearest_pairs n R kind q k ≡ []
  unfolding nearest_pairs held sort_by
  pairs_none e = rw (compared_none e) (none_first (pair_at n R kind q k) k [] refl)

  module _ (some : 1 ≤ used_in n R) where
    pub taken_some : taken_slots n R kind q k ≡ taken (apart kind) (view_of R) q k (root_of n R) n
    unfolding taken_slots
    taken_some = rw (ne_eqb (used_in n R) 0 (λ e. omega arith))

    pub compared_some :
        compared_slots n R kind q k
        ≡ compared (view_of R) (root_of n R) (taken (apart kind) (view_of R) q k (root_of n R) n)
    unfolding compared_slots
    compared_some = rw (ne_eqb (used_in n R) 0 (λ e. omega arith), taken_some)

    pub distances_some :
        distances n R kind q k ≡ distance_count (view_of R) (taken (apart kind) (view_of R) q k (root_of n R) n)
    unfolding distances
    distances_some = rw (ne_eqb (used_in n R) 0 (λ e. omega arith), taken_some)

    module _ (seen : Formed (view_of R) n (root_of n R)) where
      -- each slot compared is used
      pub compared_slots_used : (a : ℕ) → a ∈ compared_slots n R kind q k → Used (R a)
      compared_slots_used a i =
          compared_used seen (taken (apart kind) (view_of R) q k (root_of n R) n) a (rw compared_some at i)

      -- no more is counted than is used
      pub distances_fit : distances n R kind q k ≤ used_in n R
      distances_fit = rw (distances_some, ← used_in_used_count n R) (taken_count (apart kind) q k seen)

-- ---- the pairs, as the code has them

-- the keys held in the end tell the pairs
pub pairs_told :
    {n : ℕ} {R : ℕ → Record} {q : List ℕ} (kind k : ℕ)
    → 1 ≤ used_in n R
    → Given n R (root_of n R) q
    → map pair_in (keys_held n R kind q k) ≡ nearest_pairs n R kind q k
unfolding keys_held nearest_pairs
pairs_told {n} {R} {q} kind k some given =
    held_told given kind k pair (compared_slots n R kind q k) (compared_slots_used n R kind q k some given.seen)

-- the first m of a row of pairs are these, with this count: the outcome of an accepted call
pub listing_is :
    (l : List ℕ) (kind : ℕ) (q : List ℕ) (k r count found m : ℕ) (ps : List Pair)
    → r ≡ done
    → count ≡ distances (records_in l) (record_of l) kind q k
    → take m ps ≡ nearest_pairs (records_in l) (record_of l) kind q k
    → m ≤ length ps
    → found ≡ m
    → (list : List Pair)
    → outcome r count found (sets list 0 (take m ps)) ≡ listing_of l kind q k list
unfolding listing
listing_is l kind q k r count found m ps d c e short f list =
    rw (d, c, f, ← e, length-take-le m ps short)

-- in a free table there is none
pub listing_none :
    (l : List ℕ) (kind : ℕ) (q : List ℕ) (k r m : ℕ) (ps : List Pair)
    → used_in (records_in l) (record_of l) ≡ 0
    → r ≡ done
    → m ≡ 0
    → (list : List Pair)
    → outcome r 0 0 (sets list 0 (take m ps)) ≡ listing_of l kind q k list
unfolding listing
listing_none l kind q k r m ps z d e list =
    rw (
      d,
      e,
      distances_none (records_in l) (record_of l) kind q k z,
      pairs_none (records_in l) (record_of l) kind q k z,
    )
