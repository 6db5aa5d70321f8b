-- Loop: a turn on lent bytes. What the loop that puts back asks of them (`Pending`), how a turn leaves them
-- (`pending_next`), and what is left to do (`rest_back`). Assumes nothing.
use Rattle.std.specs.Prelude.{ℕ, ◌+◌, ◌*◌, ◌-◌, ◌≤◌, ◌<◌, ◌≡◌, refl, List, [], ◌∷◌, map, eqb, length}
use Rattle.std.proofs.Common.{sym, ap, ◌∙◌, arith}
use mathlib.Core.List.Memᴰ.{head as first}
use Rattle.std.proofs.lemmas.List.{length-map}
use Rattle.places.specs.Choice.{pick}
use Rattle.distance.specs.Kind.{apart}
use Rattle.refusals.specs.Limits.{most_records, most_children, last_timestamp}
use Rattle.table.specs.Record.{Record, record_of, largest_table}
use Rattle.table.specs.Table.{records_in, records_of, at}
use Rattle.table.specs.Records.{records_at}
use Rattle.table.specs.Stands.{Stands, WholeRecords, Walkable, whole_are, whole_same, stands_in, in_same, are_large}
use Rattle.survey.specs.Survey.{used_in, root_of}
use Rattle.survey.specs.Laws.{used_in_most}
use Rattle.tree.specs.Slots.{◌∈◌, ∈_decide}
use Rattle.placing.specs.Place.{Placed}
use Rattle.newcomer.specs.Newcomer.{brought}
use Rattle.placing.specs.Hangable.{Hangable, leaves}
use Rattle.placing.specs.HangableFrom.{hangable}
use Rattle.age.specs.Key.{slot_in}
use Rattle.back.specs.Back.{put_back, put_back_same}
use Rattle.view.specs.Freed.{freed_at, freed_none, freed_out}
use Rattle.back.specs.Returned.{returnable_few}
use Rattle.back.specs.Loop.Puts.{puts, waiting_agree, waiting_unlinked}
use Rattle.back.specs.Loop.Turn.{Linked, formed_linked, Turn, turn_few, turn_next, turn_rest}

-- in the bytes l the slots ss wait to go back, in their order
pub record Pending (l : List ℕ) (ss : List ℕ) (kind arity root depth last : ℕ) : Type 0 where
  pub whole : WholeRecords l
  pub to_8 : arity ≤ most_children
  pub turn : Turn (records_in l) kind ss (records_of l) root depth last

-- the count so far fits four bytes, with as many as a table has records for each of the k that wait
abbrev pub CountFits : ℕ → ℕ → Type 0
CountFits count k = count + most_records * k ≤ most_records * most_records

pub count_start : (k : ℕ) → k ≤ most_records → CountFits 0 (k - 0)
count_start k h = omega arith

pub count_room : (count k i more : ℕ) → CountFits count (k - i) → i < k → more ≤ most_records
    → count + more ≤ most_records * most_records
count_room count k i more h b m = omega arith

pub count_more : (count k i more : ℕ) → CountFits count (k - i) → i < k → more ≤ most_records
    → CountFits (count + more) (k - (i + 1))
count_more count k i more h b m = omega arith

-- what the rule has left to do: the slots ss go back, with what they hold, over the records in which they are free
abbrev pub rest_back : ℕ → ℕ → List ℕ → List ℕ → ℕ → Placed
rest_back kind arity l ss count =
    put_back (apart kind) arity (records_of l) ss (record { rows = freed_at ss (records_of l); count = count })

-- as a caller says it: over the rows `base`, with what the records before the call brought
pub rest_back_over :
    (kind arity : ℕ) (l ss : List ℕ) (old base : List Record)
    → freed_at ss (records_of l) ≡ base
    → ((s : ℕ) → s ∈ ss → at (records_of l) s ≡ at old s)
    → rest_back kind arity l ss 0 ≡ put_back (apart kind) arity old ss (record { rows = base; count = 0 })
rest_back_over kind arity l ss old base e same =
    ap (λ (rows : List Record). put_back (apart kind) arity (records_of l) ss (record { rows = rows; count = 0 })) e
    ∙ put_back_same (apart kind) arity old (records_of l) ss (record { rows = base; count = 0 })
    (λ s i. ap (λ (q : Record). brought q) (same s i))

module _ {l : List ℕ} {ss : List ℕ} {kind arity root depth last : ℕ}
    (now : Pending l ss kind arity root depth last) where
  pub pending_size : length l ≤ largest_table
  pending_size = are_large l (records_in l) (whole_are l now.whole) now.turn.returnable.small

  pub pending_waits_few : length ss ≤ most_records
  pending_waits_few = returnable_few now.turn.returnable

  pub pending_deep : depth ≤ most_records
  pending_deep =
      omega (
        arith,
        now.turn.depth_is,
        used_in_most (records_in l) (at (freed_at ss (records_of l))),
        now.turn.returnable.small,
      )

  -- a record waits, or is one of a well-formed table
  linked : (a : ℕ) → Linked (records_in l) (record_of l a)
  linked a = elim (∈_decide a ss) [
    | yes i ↦ rw (← records_at l now.whole a) (now.turn.linked a i)
    | no m ↦
        let r = now.turn.returnable in
        rw (← records_at l now.whole a, ← freed_out ss (records_of l) a m)
        (formed_linked r.shaped r.well_formed a)
  ]

  pub pending_walkable : Walkable l
  pending_walkable =
      record {
        whole = now.whole;
        few = λ a _. (linked a).few;
        stand = λ a i _ b. stands_in l _ ((linked a).inside i b);
      }

-- the slots in these keys wait: there are no more keys than a table has records
pub pending_keys_few : {l : List ℕ} (keys : List ℕ) {kind arity root depth last : ℕ}
    → Pending l (map slot_in keys) kind arity root depth last → length keys ≤ most_records
pending_keys_few keys now = omega (arith, pending_waits_few now, length-map keys slot_in)

-- ---- the next that goes back

module _ {l : List ℕ} {s : ℕ} {ss : List ℕ} {kind arity root depth last : ℕ}
    (now : Pending l (s ∷ ss) kind arity root depth last) where
  pub pending_stands : Stands l s
  pending_stands = stands_in l s (now.turn.returnable.slot_within s (first refl))

  pub pending_clock : last + 1 ≤ last_timestamp
  pending_clock = omega (arith, now.turn.clock)

  pub pending_hangable : (depth ≡ 0 → ⊥) → Hangable l kind arity s root depth
  pending_hangable ne =
      let n = records_in l in
      let C = records_of l in
      let E = freed_at (s ∷ ss) C in
      let r = now.turn.returnable in
      let some : 1 ≤ used_in n (at E) = omega (arith, now.turn.depth_is, ne) in
      rw (now.turn.depth_is, now.turn.root_is (omega (arith, ne)))
      (hangable kind arity s E (λ a. a ∈ (s ∷ ss)) (pending_walkable now) (pending_size now) pending_stands now.to_8
      (waiting_agree now.to_8 (apart kind) s ss C r)
      r.length_is r.small r.shaped r.well_formed some
      (waiting_unlinked now.to_8 (apart kind) s ss C r (used_in n (at E)) (root_of n (at E)) refl (λ _. refl) some))

  abbrev step : Placed
  step = puts (apart kind) arity s (brought (at (records_of l) s)) (records_of l) depth root (last + 1)

  module _ (m : List ℕ) (k : ℕ) (e : leaves m k ≡ step) where
    rows_are : records_of m ≡ step.rows
    rows_are = ap (λ (p : Placed). p.rows) e

    count_is : k ≡ step.count
    count_is = ap (λ (p : Placed). p.count) e

    -- its count is small
    pub pending_few : k ≤ most_records
    pending_few = omega (arith, count_is, turn_few now.to_8 now.turn, now.turn.returnable.small)

    pub pending_next : length m ≡ length l → Pending m ss kind arity (pick (eqb depth 0) s root) (depth + 1) (last + 1)
    pending_next long =
        record {
          whole = whole_same l m long now.whole;
          to_8 = now.to_8;
          turn = rw (in_same l m long, rows_are) (turn_next now.to_8 now.turn);
        }

    pub pending_rest : (count : ℕ) → rest_back kind arity m ss (count + k) ≡ rest_back kind arity l (s ∷ ss) count
    pending_rest count = rw (rows_are, count_is) (turn_rest now.to_8 now.turn count)

-- ---- none waits any more

pub rest_back_end : (kind arity : ℕ) (l : List ℕ) (count : ℕ) → leaves l count ≡ rest_back kind arity l [] count
unfolding put_back
rest_back_end kind arity l count =
    ap (λ (rows : List Record). record { rows = rows; count = count }) (sym (freed_none (records_of l)))
