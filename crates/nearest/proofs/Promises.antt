-- What a nearest call promises, in the request's words, of the outcome that its contract fixes. Of the distance only
-- the four laws are used. Assumes nothing.
use Rattle.std.specs.Prelude.{ℕ, ◌≤◌, min, ◌≡◌, take, drop}
use Rattle.std.proofs.Math.Path.{sym, ap}
use Rattle.std.proofs.Common.{◌∙◌}
use mathlib.Core.List.Memᴰ
use mathlib.Core.List.{List, [], map}
use native.Mathlib.Omega.{arith}
use Rattle.std.proofs.Math.Decide.{ℕ_discrete}
use Rattle.std.proofs.Math.ListN.{length, length-map, length-take}
use Rattle.std.proofs.Math.Seq.{take-append_seam, drop-append_seam}
use Rattle.places.specs.Fill.{from_start}
use Rattle.distance.specs.Signature.{readings_at}
use Rattle.distance.specs.Kind.{apart, apart_distance}
use Rattle.refusals.specs.Refusal.{done}
use Rattle.pairs.specs.declared.Pair.{Pair}
use Rattle.table.specs.Record.{Used, record_of}
use Rattle.table.specs.Table.{records_in}
use Rattle.survey.specs.Survey.{used_in, root_of}
use Rattle.tree.specs.Slots.{◌∈◌, Distinct}
use Rattle.tree.specs.View.{Formed, Sound}
use Rattle.tree.specs.View.Count.{used_slots, used_slots_length, distance_count_compared}
use Rattle.tree.specs.Nearest.{Takes, at_first, held, nearer, nearest_first}
use Rattle.tree.proofs.Nearest.Fuel.{taken_obeys, taken_only, taken_compared_distinct}
use Rattle.tree.proofs.Nearest.Finds.{held_nearest}
use Rattle.tree.specs.Sorted.Laws.{sort_by_length}
use Rattle.view.specs.View.{view_of}
use Rattle.view.specs.Sound.{SoundTable}
use Rattle.view.specs.Readable.{readable_seen}
use Rattle.view.specs.Survey.{used_in_used_count}
use Rattle.nearest.specs.Nearest.{outcome, taken_slots, compared_slots, pair_at, nearest_pairs}
use Rattle.nearest.specs.Nearest.{refusal_of, listing, nearest_of}
use Rattle.nearest.proofs.Tests.{accepted}
use Rattle.nearest.proofs.Laws.{
  accepted_is,
  refused_is,
  compared_none,
  distances_none,
  none_first,
  pairs_none,
  taken_some,
  compared_some,
  distances_some,
  distances_fit,
  compared_slots_used,
}

-- of the table l, the kind, the signature's bytes s, and k
module _ (l : List ℕ) (kind : ℕ) (s : List ℕ) (k : ℕ) (list : List Pair) where
  -- ---- for every input

  -- the call is accepted exactly if no test refuses it: its refusal is the number of the first test that holds, 0 if
  -- none does
  pub refusal_is : (nearest_of l kind s k list).refusal ≡ refusal_of l kind s k (length list)
  unfolding listing
  refusal_is = elim (ℕ_discrete (refusal_of l kind s k (length list)) done) [
    | yes e ↦ rw (accepted_is l kind s k list e) (sym e)
    | no n ↦ rw (refused_is l kind s k list n)
  ]

  -- "A refusal returns zero counts and touches nothing lent"
  pub refused_leaves :
      (refusal_of l kind s k (length list) ≡ done → ⊥)
      → nearest_of l kind s k list ≡ outcome (refusal_of l kind s k (length list)) 0 0 list
  refused_leaves n = refused_is l kind s k list n

  -- ---- for every accepted call, on a sound table or a loose one

  module _ (e : refusal_of l kind s k (length list) ≡ done) where
    abbrev n : ℕ
    n = records_in l

    abbrev q : List ℕ
    q = readings_at s 0

    -- the slots of the records compared
    abbrev compared_by : List ℕ
    compared_by = compared_slots n (record_of l) kind q k

    -- the pairs listed: the list's first entries, as many as are found
    abbrev listed_by : List Pair
    listed_by = take (nearest_of l kind s k list).found (nearest_of l kind s k list).list

    formed : 1 ≤ used_in n (record_of l) → Formed (view_of (record_of l)) n (root_of n (record_of l))
    formed = readable_seen (accepted l kind s k (length list) e).readable

    -- ---- the request's text, with no word of how many may be taken

    -- the slots taken are those that the text takes, the root waiting alone at first; and the text takes no others
    pub taken_text :
        1 ≤ used_in n (record_of l)
        → let root = root_of n (record_of l) in
        let v = view_of (record_of l) in
        Takes (apart kind) v q k root (at_first (apart kind) v q k root) [] (taken_slots n (record_of l) kind q k)
    taken_text some =
        rw (taken_some n (record_of l) kind q k some) (taken_obeys (apart kind) q k (formed some))

    pub text_only :
        1 ≤ used_in n (record_of l)
        → let root = root_of n (record_of l) in
        let v = view_of (record_of l) in
        (ts : List ℕ)
        → Takes (apart kind) v q k root (at_first (apart kind) v q k root) [] ts
        → ts ≡ taken_slots n (record_of l) kind q k
    text_only some ts is =
        taken_only (apart kind) q k (formed some) ts is ∙ sym (taken_some n (record_of l) kind q k some)

    -- ---- counts and pairs

    -- each record compared is used
    pub compared_used : (a : ℕ) → a ∈ compared_by → Used (record_of l a)
    compared_used a i = elim (ℕ_discrete (used_in n (record_of l)) 0) [
      | yes z ↦ absurd (Memᴰ.not-nil (rw (compared_none n (record_of l) kind q k z) at i))
      | no nz ↦
          let some : 1 ≤ used_in n (record_of l) = omega arith in
          compared_slots_used n (record_of l) kind q k some (formed some) a i
    ]

    -- the count is the number of records compared
    pub count_compared : (nearest_of l kind s k list).count ≡ length compared_by
    unfolding listing
    count_compared = rw (accepted_is l kind s k list e) (elim (ℕ_discrete (used_in n (record_of l)) 0) [
      | yes z ↦ rw (distances_none n (record_of l) kind q k z, compared_none n (record_of l) kind q k z)
      | no nz ↦
          let some : 1 ≤ used_in n (record_of l) = omega arith in
          rw (distances_some n (record_of l) kind q k some, compared_some n (record_of l) kind q k some)
          (distance_count_compared (view_of (record_of l)) (root_of n (record_of l)) _)
    ])

    -- no record is compared twice
    pub compared_once : Distinct compared_by
    compared_once = elim (ℕ_discrete (used_in n (record_of l)) 0) [
      | yes z ↦ rw (compared_none n (record_of l) kind q k z) tt
      | no nz ↦
          let some : 1 ≤ used_in n (record_of l) = omega arith in
          rw (compared_some n (record_of l) kind q k some) (taken_compared_distinct (apart kind) q k (formed some))
    ]

    -- the count is at most the number of used records
    pub count_at_most : (nearest_of l kind s k list).count ≤ used_in n (record_of l)
    unfolding listing
    count_at_most = rw (accepted_is l kind s k list e) (elim (ℕ_discrete (used_in n (record_of l)) 0) [
      | yes z ↦ omega (arith, distances_none n (record_of l) kind q k z)
      | no nz ↦
          let some : 1 ≤ used_in n (record_of l) = omega arith in
          distances_fit n (record_of l) kind q k some (formed some)
    ])

    abbrev pairs : List Pair
    pairs = nearest_pairs n (record_of l) kind q k

    -- no more are found than were asked for, and so than the list has entries
    pairs_few : length pairs ≤ k
    unfolding nearest_pairs held
    pairs_few =
        let cs = nearest_first (apart kind) (view_of (record_of l)) q compared_by in
        omega (arith, length-map (take k cs) (pair_at n (record_of l) kind q k), length-take k cs)

    found_fits : length pairs ≤ length list
    found_fits = omega (arith, pairs_few, (accepted l kind s k (length list) e).room)

    -- the list's front is these pairs
    pub listed_is : listed_by ≡ pairs
    unfolding listing
    listed_is =
        rw (accepted_is l kind s k list e, from_start pairs list found_fits)
        (take-append_seam pairs (drop (length pairs) list))

    -- "later entries stay"
    pub later_stay :
        drop (nearest_of l kind s k list).found (nearest_of l kind s k list).list
        ≡ drop (nearest_of l kind s k list).found list
    unfolding listing
    later_stay =
        rw (accepted_is l kind s k list e, from_start pairs list found_fits)
        (drop-append_seam pairs (drop (length pairs) list))

    -- ---- for every accepted call on a sound table

    module _ (ok : SoundTable n (record_of l)) where
      sound : 1 ≤ used_in n (record_of l) → Sound (apart kind) (view_of (record_of l))
      sound some = rw ((accepted l kind s k (length list) e).of_kind some) at ok.sound

      -- all used slots, nearest first, equal distances by smaller card
      abbrev used_first : List ℕ
      used_first = nearest_first (apart kind) (view_of (record_of l)) q (used_slots (view_of (record_of l)) n)

      pairs_nearest : pairs ≡ map (pair_at n (record_of l) kind q k) (take k used_first)
      unfolding nearest_pairs
      pairs_nearest = elim (ℕ_discrete (used_in n (record_of l)) 0) [
        | yes z ↦ free z
        | no nz ↦
            let some : 1 ≤ used_in n (record_of l) = omega arith in
            ap (map (pair_at n (record_of l) kind q k))
            (ap (held (apart kind) (view_of (record_of l)) q k) (compared_some n (record_of l) kind q k some)
            ∙ held_nearest q k (accepted l kind s k (length list) e).one (formed some) (sound some)
            (apart_distance kind))
      ]
        where
          free : used_in n (record_of l) ≡ 0 → nearest_pairs n (record_of l) kind q k
              ≡ map (pair_at n (record_of l) kind q k) (take k used_first)
          free z =
              let none : length used_first ≡ 0 =
              sort_by_length (nearer (apart kind) (view_of (record_of l)) q) (used_slots (view_of (record_of l)) n)
              ∙ used_slots_length (view_of (record_of l)) n
              ∙ used_in_used_count n (record_of l)
              ∙ z in
              pairs_none n (record_of l) kind q k z
              ∙ sym (none_first (pair_at n (record_of l) kind q k) k used_first none)

      -- the list's front is the first k of all used records
      pub listed_nearest : listed_by ≡ map (pair_at n (record_of l) kind q k) (take k used_first)
      listed_nearest = listed_is ∙ pairs_nearest

      -- "with fewer stored than k, all of them"
      pub found_is : (nearest_of l kind s k list).found ≡ min k (used_in n (record_of l))
      unfolding listing
      found_is =
          rw (accepted_is l kind s k list e, pairs_nearest)
          (omega (
            arith,
            length-map (take k used_first) (pair_at n (record_of l) kind q k),
            length-take k used_first,
            sort_by_length (nearer (apart kind) (view_of (record_of l)) q) (used_slots (view_of (record_of l)) n),
            used_slots_length (view_of (record_of l)) n,
            used_in_used_count n (record_of l),
          ))
