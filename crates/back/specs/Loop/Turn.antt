-- Loop: a turn on rows. What holds while the slots ss wait (`Turn`), how putting back the first of them keeps it
-- (`turn_next`), and that what is then left to do leads to the same end (`turn_rest`). Assumes nothing.
use Rattle.std.specs.Prelude.{ℕ, ◌+◌, ◌≤◌, ◌<◌, List, ◌∷◌, eqb, length}
use Rattle.std.proofs.Math.Path.{◌≡◌, refl}
use Rattle.std.proofs.Common.{sym, ap, ◌∙◌, arith, eq-eqb, ne_eqb}
use mathlib.Core.List.Memᴰ.{tail as later}
use Rattle.std.proofs.Math.Decide.{ℕ_discrete}
use Rattle.places.specs.Choice.{pick}
use Rattle.distance.specs.Kind.{apart}
use Rattle.refusals.specs.Limits.{most_children, last_timestamp}
use Rattle.table.specs.Record.{Record, slot}
use Rattle.table.specs.Table.{at}
use Rattle.judge.specs.WellFormed.{WellFormed}
use Rattle.survey.specs.Survey.{used_in, root_of, largest_timestamp}
use Rattle.places.specs.Cases.{either}
use Rattle.tree.specs.Slots.{◌∈◌}
use Rattle.view.specs.Shaped.{Shaped}
use Rattle.view.specs.Survey.{root_of_is}
use Rattle.view.specs.Formed.{free_or_used}
use Rattle.placing.specs.Place.{Placed, placed}
use Rattle.newcomer.specs.Newcomer.{Newcomer, brought}
use Rattle.placing.specs.Place.Keeps.{placed_settled, placed_alone}
use Rattle.back.specs.Back.{one_back, put_back, put_back_same}
use Rattle.view.specs.Freed.{freed_at}
use Rattle.back.specs.Returnable.{
  Returnable,
  returnable_ready,
  returnable_next,
  returnable_same,
  returnable_largest,
  returnable_used_in,
}
use Rattle.back.specs.Loop.Puts.{puts, puts_freed, puts_count, puts_few, puts_waits}

-- the record's children are slots of the table
pub record Linked (n : ℕ) (r : Record) : Type 0 where
  pub few : r.count ≤ most_children
  pub inside : (i : ℕ) → i < r.count → slot r i < n

pub formed_linked : {n : ℕ} {R : ℕ → Record} → Shaped n R → WellFormed n R → (a : ℕ) → Linked n (R a)
formed_linked {n} {R} shape wf a = either
    (free_or_used shape wf.free_if_no_card a)
    (λ e.
    let none : (R a).count ≡ 0 = ap (λ (r : Record). r.count) e in
    record { few = omega (arith, none); inside = λ i h. absurd (omega (arith, none, h)) })
    (λ z.
    record {
      few = (wf.filled a z.0 z.1).count_to_8;
      inside = λ i h. (wf.owned a i z.0 z.1 h).child_in;
    })

-- the slots ss wait; C: the rows, in which they still have their bytes; depth, root and last: how many records are in
-- the tree, its root, and the largest timestamp there
pub record Turn (n kind : ℕ) (ss : List ℕ) (C : List Record) (root depth last : ℕ) : Type 0 where
  pub returnable : Returnable n kind C (freed_at ss C) ss
  pub linked : (s : ℕ) → s ∈ ss → Linked n (at C s)
  pub depth_is : depth ≡ used_in n (at (freed_at ss C))
  pub root_is : 1 ≤ depth → root ≡ root_of n (at (freed_at ss C))
  pub last_is : last ≡ largest_timestamp n (at (freed_at ss C))
  pub clock : last + length ss ≤ last_timestamp

-- ---- the first of them goes back

module _ {n kind arity s : ℕ} {ss : List ℕ} {C : List Record} {root depth last : ℕ} (to_8 : arity ≤ most_children)
    (now : Turn n kind (s ∷ ss) C root depth last) where
  abbrev d : List ℕ → List ℕ → ℕ
  d = apart kind

  abbrev D : List Record
  D = freed_at (s ∷ ss) C

  abbrev x : Newcomer
  x = brought (at C s)

  abbrev r : Returnable n kind C D (s ∷ ss)
  r = now.returnable

  abbrev next : List Record
  next = (placed d arity s x D).rows

  abbrev step : Placed
  step = puts d arity s x C depth root (last + 1)

  freed : freed_at ss step.rows ≡ next
  freed = rw now.last_is (puts_freed to_8 d s ss C r depth root now.depth_is now.root_is)

  counted : step.count ≡ (placed d arity s x D).count
  counted = rw now.last_is (puts_count to_8 d s ss C r depth root now.depth_is now.root_is)

  unmoved : (a : ℕ) → a ∈ ss → at step.rows a ≡ at C a
  unmoved = rw now.last_is (puts_waits to_8 d s ss C r depth root now.depth_is now.root_is)

  -- its count is small
  pub turn_few : (puts (apart kind) arity s (brought (at C s)) C depth root (last + 1)).count ≤ n
  turn_few = rw now.last_is (puts_few to_8 d s ss C r depth root now.depth_is now.root_is)

  -- the root is the first that went back, or as it was
  next_root : 1 ≤ depth + 1 → pick (eqb depth 0) s root ≡ root_of n (at next)
  next_root _ =
      let ready = returnable_ready to_8 r in
      let after = placed_settled d ready in
      let more = returnable_used_in to_8 r d in
      let new = root_of_is n (at next) after.well_formed (omega arith) in
      elim (ℕ_discrete depth 0) [
        | yes e ↦
            rw (eq-eqb depth 0 e)
            (sym ((placed_alone d ready (sym now.depth_is ∙ e)).only (root_of n (at next)) new.1))
        | no ne ↦
            let was = root_of_is n (at D) r.well_formed (omega (arith, now.depth_is)) in
            let o = root_of n (at D) in
            let ns : o ≡ s → ⊥ =
            λ q. omega (arith, was.1, ready.slot_free, ap (λ (i : ℕ). (at D i).card) q) in
            let k = after.kept o ns in
            rw (ne_eqb depth 0 ne)
            (now.root_is (omega arith)
            ∙ after.well_formed.one_root_lem o (root_of n (at next)) was.0 new.0 (rw k.card was.1) new.1
            (k.parent ∙ was.2) new.2)
      ]

  pub turn_next :
      Turn n kind ss (puts (apart kind) arity s (brought (at C s)) C depth root (last + 1)).rows
      (pick (eqb depth 0) s root)
      (depth + 1)
      (last + 1)
  turn_next =
      record {
        returnable = rw freed (returnable_same step.rows unmoved (returnable_next to_8 r d));
        linked = λ a i. rw (unmoved a i) (now.linked a (later i));
        depth_is = rw freed (omega (arith, now.depth_is, returnable_used_in to_8 r d));
        root_is = rw freed next_root;
        last_is = rw freed (omega (arith, now.last_is, returnable_largest to_8 r d));
        clock = omega (arith, now.clock);
      }

  -- what is left to do leads to the same end
  pub turn_rest :
      (count : ℕ)
      → put_back (apart kind) arity (puts (apart kind) arity s (brought (at C s)) C depth root (last + 1)).rows ss
      (record {
        rows = freed_at ss (puts (apart kind) arity s (brought (at C s)) C depth root (last + 1)).rows;
        count = count + (puts (apart kind) arity s (brought (at C s)) C depth root (last + 1)).count;
      })
      ≡ put_back (apart kind) arity C (s ∷ ss) (record { rows = freed_at (s ∷ ss) C; count = count })
  turn_rest count =
      let after : Placed = record { rows = freed_at ss step.rows; count = count + step.count } in
      put_back_same d arity C step.rows ss after (λ a i. ap (λ (q : Record). brought q) (unmoved a i))
      ∙ ap (put_back d arity C ss) both
      ∙ unfold put_back in refl
    where
      both : ◌≡◌ {A = Placed} (record { rows = freed_at ss step.rows; count = count + step.count })
          (one_back d arity C s (record { rows = D; count = count }))
      both i = record { rows = freed i; count = count + counted i }
