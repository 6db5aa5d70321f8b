-- What the call works out before it writes (`Planned`), and that it is what the definition asks for: the keys in age
-- order are the deleted card's and those of the slots that wait, the largest timestamp is that of the records that
-- stay, and the depth theirs. So the bytes from which v has left are those in which the others wait (`plan_pending`).
-- Assumes nothing.
use Prim.Native.Nat.{ℕ, suc, ◌+◌, ◌-◌, ◌≤◌, ◌<◌}
use Rattle.std.specs.Prelude.{◌≡◌, true, ltb, get_or, set, take, drop, Option, Some, None, IsSome}
use Rattle.std.proofs.Math.Path.{sym, ap}
use Rattle.std.proofs.Common.{subst, ◌∙◌, arith, rules, length-take, length-drop, take_all}
use Rattle.std.proofs.Math.Bool.{false}
use mathlib.Core.List.{List, map}
use Rattle.std.proofs.Math.ListN.{length}
use borrow.Author.Tests.{lt-ltb, le-ltb}
use Rattle.number.specs.Frame.{Bytes}
use Rattle.order.specs.Order.{in_order}
use Rattle.admission.specs.Query.{known_change}
use Rattle.refusals.specs.Limits.{most_records, most_children, last_timestamp}
use Rattle.refusals.specs.Refusal.{CLOCK, first_of, done}
use Rattle.refusals.specs.Outcome.{Outcome, refused}
use Rattle.table.specs.Record.{Record, record_of, free, children, largest_table}
use Rattle.table.specs.Table.{records_of, records_in, at}
use Rattle.table.specs.Records.{records_length, records_at}
use Rattle.table.specs.RoundTrip.{bytes_back}
use Rattle.table.specs.Stands.{Stands, Walkable, right_are, are_whole, whole_are, whole_same, in_same, are_large}
use Rattle.judge.specs.WellFormed.{WellFormed}
use Rattle.survey.specs.declared.Findings.{Findings}
use Rattle.survey.specs.Survey.{used_in, root_of, kind_of, slot_of_card, largest_timestamp}
use Rattle.survey.specs.Answers.{Answers, Tells, tells_some}
use Rattle.admission.specs.Admission.{admission_tests, admitted_readable}
use Rattle.tree.specs.View.{under}
use Rattle.view.specs.Readable.{formed_walkable}
use Rattle.view.specs.Survey.{root_of_is}
use Rattle.view.specs.Freed.{freed_at}
use Rattle.placing.specs.Changed.{changed}
use Rattle.placing.specs.Hangable.{leaves}
use Rattle.removal.specs.Removal.{leaving, removed, unhung}
use Rattle.removal.specs.Leaving.{Held, held_some}
use Rattle.removal.specs.Lent.{held_stands}
use Rattle.age.specs.Key.{key_of, slot_in}
use Rattle.back.specs.Loop.Pending.{Pending, rest_back, rest_back_over}
use Rattle.delete.specs.Delete.{waiting, deleted, clock_would_pass}
use Rattle.delete.specs.Waiting.{leaving_keys}
use Rattle.delete.proofs.Waiting.{leaving_length, keys_waiting}
use Rattle.delete.specs.Call.{outcome_at}
use Rattle.delete.proofs.Call.{present_held}
use Rattle.delete.specs.Plan.{Deletable, later_keys, Planned}
use Rattle.below.specs.Loop.Gather.{slots_under}
use Rattle.below.specs.Loop.Clock.{no_marks, marked, unmarked}
use Rattle.delete.proofs.Stays.{
  keys_few,
  keys_length,
  leaving_used_most,
  leaving_few,
  staying_largest,
  staying_used,
  staying_root,
  alone_freed,
  alone_waits,
  alone_turn,
}

-- the card stands in a table that was admitted
pub present_deletable :
    (l : List ℕ) (card arity : ℕ) (found : Findings)
    → first_of (admission_tests l) ≡ done
    → Answers (records_in l) (record_of l) found
    → known_change card arity ≡ true
    → (v : ℕ)
    → v ≡ slot_of_card (records_in l) (record_of l) card
    → v < records_in l
    → Deletable l v found
present_deletable l card arity found none answers right v e h =
    let ok = admitted_readable l none in
    record {
      whole = are_whole l (records_in l) (right_are l ok.size);
      held = rw e (present_held l card arity ok right (omega (arith, h, e)));
      answers = answers;
    }

module _ {l : List ℕ} {v : ℕ} {found : Findings} (d : Deletable l v found) where
  as_bytes : (λ (s : ℕ). at (records_of l) s) ≡ record_of l
  as_bytes i s = records_at l d.whole s i

  -- what is said of the bytes is said of the rows
  of_rows : (f : ℕ → (ℕ → Record) → ℕ) → f (records_in l) (record_of l) ≡ f (length (records_of l)) (at (records_of l))
  of_rows f =
      ap (λ (R : ℕ → Record). f (records_in l) R) (sym as_bytes)
      ∙ ap (λ (k : ℕ). f k (at (records_of l))) (sym (records_length l))

  found_used : found.used ≡ used_in (length (records_of l)) (at (records_of l))
  found_used = d.answers.used ∙ of_rows used_in

  pub deletable_few_records : records_in l ≤ most_records
  deletable_few_records = rw (← records_length l) d.held.small

  pub deletable_walkable : Walkable l
  deletable_walkable =
      let here : WellFormed (records_in l) (at (records_of l)) = rw (← records_length l) d.held.well_formed in
      formed_walkable l d.whole (subst (λ (R : ℕ → Record). WellFormed (records_in l) R) as_bytes here)

  pub deletable_stands : Stands l v
  deletable_stands = held_stands l d.held

  pub deletable_size : length l ≤ largest_table
  deletable_size = are_large l (records_in l) (whole_are l d.whole) deletable_few_records

  -- v is used, so a root is told
  pub deletable_rooted : IsSome found.root
  deletable_rooted = go found.root d.answers.root
    where
      go : (o : Option ℕ) → Tells (records_in l) (root_of (records_in l) (record_of l)) o → IsSome o
      go (Some a) t = search rules
      go None t =
          let rows = records_of l in
          let below = (root_of_is (length rows) (at rows) d.held.well_formed (held_some d.held)).0 in
          absurd (omega (arith, t.0, below, of_rows root_of, records_length l))

  under_is : slots_under (record_of l) found.used v ≡ leaving (records_of l) v
  unfolding leaving
  under_is =
      ap (λ (k : ℕ). slots_under (record_of l) k v) found_used
      ∙ ap (λ (R : ℕ → Record). under (λ s. children (R s)) (used_in (length (records_of l)) (at (records_of l))) v)
      (sym as_bytes)

  pub deletable_few : length (slots_under (record_of l) found.used v) ≤ most_records
  deletable_few = rw under_is (leaving_few d.held)

  -- ---- the keys in age order, m of them, at the front of a row

  module _ (row : List ℕ) (m : ℕ) (count : m ≡ length (slots_under (record_of l) found.used v))
      (order : take m row ≡ in_order (map (key_of (record_of l)) (slots_under (record_of l) found.used v))) where
    ordered_keys : take m row ≡ leaving_keys (records_of l) v
    ordered_keys =
        order
        ∙ ap (λ (ss : List ℕ). in_order (map (key_of (record_of l)) ss)) under_is
        ∙ ap (λ (R : ℕ → Record). in_order (map (key_of R) (leaving (records_of l) v))) (sym as_bytes)

    ordered_leaving : m ≡ length (leaving (records_of l) v)
    ordered_leaving = count ∙ ap length under_is

    pub ordered_length : length (take m row) ≡ m
    ordered_length = ap length ordered_keys ∙ keys_length d.held ∙ sym ordered_leaving

    pub ordered_in : m ≤ length row
    ordered_in = omega (arith, ordered_length, length-take m row)

    pub ordered_some : 1 ≤ m
    ordered_some = omega (arith, ordered_leaving, leaving_length d.held)

    pub ordered_few : m ≤ most_records
    ordered_few = omega (arith, ordered_leaving, leaving_few d.held)

    pub ordered_slots : (i : ℕ) → i < length (take m row) → slot_in (get_or (take m row) i 0) < most_records
    ordered_slots = rw ordered_keys (keys_few d.held)

    pub ordered_plan :
        (last : ℕ)
        → last ≡ largest_timestamp (records_in l) (unmarked (marked (take m row) no_marks) (record_of l))
        → Planned l v found (take m row) last
    ordered_plan last largest =
        record {
          deletable = d;
          keys_are = ordered_keys;
          last_is =
              largest
              ∙ of_rows (λ k R. largest_timestamp k (unmarked (marked (take m row) no_marks) R))
              ∙ ap
              (λ (q : List ℕ).
              largest_timestamp (length (records_of l)) (unmarked (marked q no_marks) (at (records_of l))))
              ordered_keys
              ∙ staying_largest d.held;
        }

module _ {l : List ℕ} {v : ℕ} {found : Findings} {keys : List ℕ} {last : ℕ} (plan : Planned l v found keys last) where
  abbrev rows : List Record
  rows = records_of l

  abbrev was : Held (records_of l) v
  was = plan.deletable.held

  plan_length : length keys ≡ length (leaving (records_of l) v)
  plan_length = ap length plan.keys_are ∙ keys_length was

  plan_count : length keys ≡ suc (length (waiting (records_of l) v))
  plan_count = plan_length ∙ leaving_length was

  pub plan_some : 1 ≤ length keys
  plan_some = omega (arith, plan_count)

  pub plan_used : length keys ≤ found.used
  plan_used = omega (arith, plan_length, leaving_used_most was, found_used plan.deletable)

  -- ---- the clock's test, as the call makes it

  module _ (m : ℕ) (long : length keys ≡ m) (arity : ℕ) where
    clock_is : clock_would_pass (records_of l) v ≡ ltb last_timestamp (last + m - 1)
    unfolding clock_would_pass
    clock_is =
        let sum = largest_timestamp (length rows) (at (removed rows v)) + length (waiting rows v) in
        let e : sum ≡ last + m - 1 = omega (arith, plan_count, long, plan.last_is) in
        ap (ltb last_timestamp) e

    pub plan_refused : last_timestamp < last + m - 1
        → ◌≡◌ {A = Outcome} (record { refusal = CLOCK; count = 0; table = l }) (outcome_at l v arity)
    unfolding outcome_at refused
    plan_refused h = sym (rw (clock_is, lt-ltb last_timestamp (last + m - 1) h))

    -- the bytes t hold what the rule gives
    pub plan_done :
        last + m - 1 ≤ last_timestamp
        → (t : List ℕ) (count : ℕ)
        → Bytes t
        → length t ≡ length l
        → leaves t count ≡ deleted arity (records_of l) v
        → ◌≡◌ {A = Outcome} (record { refusal = done; count = count; table = t }) (outcome_at l v arity)
    unfolding outcome_at changed
    plan_done fine t count bytes same e =
        let clear : clock_would_pass (records_of l) v ≡ false = clock_is ∙ le-ltb last_timestamp (last + m - 1) fine in
        rw (clear, ← e) (ap kept (sym (bytes_back t bytes (whole_same l t same plan.deletable.whole))))
      where
        kept : List ℕ → Outcome
        kept b = record { refusal = done; count = count; table = b }

  -- ---- v has left, and the others wait

  module _ {arity : ℕ} (to_8 : arity ≤ most_children) (fine : last + length keys ≤ last_timestamp + 1)
      (t : List ℕ) (long : length t ≡ length l) (left : records_of t ≡ set (unhung v (records_of l)) v free) where
    slots_are : map slot_in (later_keys keys) ≡ waiting (records_of l) v
    slots_are =
        ap (map slot_in) (take_all (length keys - 1) (drop 1 keys) (omega (arith, length-drop 1 keys)))
        ∙ ap (λ (q : List ℕ). map slot_in (drop 1 q)) plan.keys_are
        ∙ keys_waiting was

    kind_is : found.kind ≡ kind_of (length (records_of l)) (at (records_of l))
    kind_is = plan.deletable.answers.kind ∙ of_rows plan.deletable kind_of

    root_is : (root : ℕ) → found.root ≡ Some root → 1 ≤ used_in (length (records_of l)) (at (removed (records_of l) v))
        → root ≡ root_of (length (records_of l)) (at (removed (records_of l) v))
    root_is root told some =
        (tells_some root plan.deletable.answers.root told).0 ∙ of_rows plan.deletable root_of ∙ staying_root was some

    depth_is : found.used - length keys ≡ used_in (length (records_of l)) (at (removed (records_of l) v))
    depth_is =
        ap (λ (k : ℕ). k - length keys) (found_used plan.deletable)
        ∙ ap (λ (k : ℕ). used_in (length rows) (at rows) - k) plan_length
        ∙ staying_used was

    pub plan_pending :
        {root : ℕ}
        → found.root ≡ Some root
        → Pending t (map slot_in (later_keys keys)) found.kind arity root (found.used - length keys) last
    plan_pending {root} told =
        let same : records_in t ≡ length (records_of l) = in_same l t long ∙ sym (records_length l) in
        record {
          whole = whole_same l t long plan.deletable.whole;
          to_8 = to_8;
          turn =
              rw (slots_are, left, same)
              (alone_turn was kind_is (λ some. root_is root told (omega (arith, some, depth_is))) depth_is plan.last_is
              (omega (arith, fine, plan_count)));
        }

    -- putting them back is what is left of the rule
    pub plan_rest : rest_back found.kind arity t (map slot_in (later_keys keys)) 0 ≡ deleted arity (records_of l) v
    unfolding deleted
    plan_rest =
        rw (slots_are, kind_is)
        (rest_back_over (kind_of (length rows) (at rows)) arity t (waiting rows v) rows (removed rows v)
        (ap (freed_at (waiting rows v)) left ∙ alone_freed was)
        (λ s i. ap (λ (q : List Record). at q s) left ∙ alone_waits was s i))
