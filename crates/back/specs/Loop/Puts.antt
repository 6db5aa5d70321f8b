-- The insert rule on rows of which some wait and still have their bytes: it looks at no record that waits, so it leaves
-- the same records and gives the same count as where those that wait are free (`puts_freed`, `puts_count`), and those
-- that wait are as they were (`puts_waits`). By Agree, with the slots that wait. Assumes nothing.
use Rattle.std.specs.Prelude.{ℕ, ◌+◌, ◌≤◌, ◌<◌, ◌≡◌, refl, eqb, length, set}
use Rattle.std.proofs.Common.{sym, ◌∙◌, get_or-set_same, ext_get_or}
use Rattle.std.proofs.Math.Path.{ap}
use mathlib.Core.List.Memᴰ.{head as first}
use mathlib.Core.List.Memᴰ.{tail as later}
use mathlib.Core.List.{List, ◌∷◌}
use native.Mathlib.Omega.{arith}
use Rattle.std.proofs.Math.Decide.{ℕ_discrete}
use Rattle.std.proofs.Math.ListN.{length-set}
use Rattle.std.proofs.Math.Seq.{get_or-set_other}
use borrow.Author.Tests.{eq-eqb, ne_eqb}
use Rattle.places.specs.Choice.{pick}
use Rattle.distance.specs.Kind.{apart}
use Rattle.refusals.specs.Limits.{most_children}
use Rattle.table.specs.Record.{Record, Used, free, record_of, no_slot}
use Rattle.table.specs.Table.{records_of, at}
use Rattle.table.specs.Stands.{Stands, in_stands}
use Rattle.writing.specs.Laws.{Became, records_with}
use Rattle.survey.specs.Survey.{used_in, root_of, largest_timestamp}
use Rattle.survey.specs.Laws.{used_in_most}
use Rattle.tree.specs.Slots.{◌∈◌, ∈_decide}
use Rattle.tree.specs.View.{Formed}
use Rattle.tree.specs.Insert.{path, last, attach}
use Rattle.tree.proofs.Insert.Path.{path_count, attach_∈}
use Rattle.view.specs.View.{view_of}
use Rattle.view.specs.Survey.{used_in_used_count}
use Rattle.view.specs.Formed.{formed_view}
use Rattle.placing.specs.Place.{Placed, as_root, hanging_from, hanging, placed}
use Rattle.descent.specs.Descent.{raised_along}
use Rattle.newcomer.specs.Newcomer.{Newcomer, fresh, adopting, brought}
use Rattle.placing.specs.Place.Agree.{Agree, Unlinked, walked, stays, hanging_agree, hanging_count}
use Rattle.placing.specs.Place.Row.{along_other}
use Rattle.placing.specs.Place.Hanging.{after_length}
use Rattle.placing.specs.Place.Keeps.{placed_length, placed_settled}
use Rattle.view.specs.Freed.{freed_at, freed_length, freed_in, freed_out}
use Rattle.back.specs.Returnable.{Returnable, returnable_ready}

-- ---- the rule, told the depth, the root and the timestamp

module _ (d : List ℕ → List ℕ → ℕ) (arity s : ℕ) (x : Newcomer) where
  unfoldable pub puts : List Record → ℕ → ℕ → ℕ → Placed
  puts C depth root t = pick (eqb depth 0) (as_root d arity s x C t) (hanging d arity s x C t depth root)

  pub puts_root : (C : List Record) (depth root t : ℕ) → depth ≡ 0 → puts C depth root t ≡ as_root d arity s x C t
  unfolding puts
  puts_root C depth root t e = rw (eq-eqb depth 0 e)

  pub puts_child : (C : List Record) (depth root t : ℕ) → (depth ≡ 0 → ⊥)
      → puts C depth root t ≡ hanging d arity s x C t depth root
  unfolding puts
  puts_child C depth root t ne = rw (ne_eqb depth 0 ne)

  pub puts_length : (C : List Record) (depth root t : ℕ) → length (puts C depth root t).rows ≡ length C
  puts_length C depth root t = elim (ℕ_discrete depth 0) [
    | yes e ↦ rw (puts_root C depth root t e) (unfold as_root in length-set C s (fresh x t no_slot))
    | no ne ↦
        rw (puts_child C depth root t ne)
        (unfold hanging in
        after_length d arity s x C t
        (last root (path d (view_of (at C)) x.readings arity depth root))
        (path d (view_of (at C)) x.readings arity depth root))
  ]

-- as it is written: the seat of a root
pub puts_seat :
    (d : List ℕ → List ℕ → ℕ) (arity s : ℕ) (l m : List ℕ) (depth root t : ℕ)
    → Stands l s
    → depth ≡ 0
    → Became l s (fresh (brought (record_of l s)) t no_slot) m
    → ◌≡◌ {A = Placed} (record { rows = records_of m; count = 0 })
    (puts d arity s (brought (at (records_of l) s)) (records_of l) depth root t)
unfolding as_root
puts_seat d arity s l m depth root t h e b =
    ap (λ (rows : List Record). seated rows)
    (records_with (λ r. fresh (brought r) t no_slot) b (in_stands l s h))
    ∙ sym (puts_root d arity s (brought (at (records_of l) s)) (records_of l) depth root t e)
  where
    seated : List Record → Placed
    seated rows = record { rows = rows; count = 0 }

-- in lent bytes: the newcomer whose card, kind and signature stand in slot s
abbrev pub puts_in : List ℕ → ℕ → ℕ → ℕ → ℕ → ℕ → ℕ → Placed
puts_in l kind arity s root depth timestamp =
    puts (apart kind) arity s (brought (at (records_of l) s)) (records_of l) depth root timestamp

-- ---- on rows of which some wait

module _ {n kind arity : ℕ} (to_8 : arity ≤ most_children) (d : List ℕ → List ℕ → ℕ) (s : ℕ) (ss : List ℕ)
    (C : List Record) (r : Returnable n kind C (freed_at (s ∷ ss) C) (s ∷ ss)) where
  -- those that wait taken as free
  abbrev D : List Record
  D = freed_at (s ∷ ss) C

  abbrev waits : ℕ → Type 0
  waits a = a ∈ (s ∷ ss)

  abbrev x : Newcomer
  x = brought (at C s)

  abbrev t : ℕ
  t = largest_timestamp n (at D) + 1

  pub waiting_agree : Agree (λ a. a ∈ (s ∷ ss)) C (freed_at (s ∷ ss) C)
  waiting_agree =
      record {
        long = sym (freed_length (s ∷ ss) C);
        same = λ a m. sym (freed_out (s ∷ ss) C a m);
      }

  idle : (a : ℕ) → waits a → Used (at D a) → ⊥
  idle a i u = omega (arith, r.slot_free a i, u)

  in_rows : s < length D
  in_rows = rw r.length_is (r.slot_within s (first refl))

  still : (a : ℕ) → a ∈ ss → a ≡ s → ⊥
  still a i e = r.distinct.0 (rw e at i)

  module _ (depth root : ℕ) (depth_is : depth ≡ used_in n (at D))
      (root_is : 1 ≤ depth → root ≡ root_of n (at D)) where
    placed_puts : placed d arity s x D ≡ puts d arity s x D depth root t
    unfolding placed puts
    placed_puts = rw r.length_is (elim (ℕ_discrete depth 0) [
      | yes e ↦
          rw (eq-eqb depth 0 e, eq-eqb (used_in n (at D)) 0 (sym depth_is ∙ e))
      | no ne ↦
          rw (
            ne_eqb depth 0 ne,
            ne_eqb (used_in n (at D)) 0 (λ e. ne (depth_is ∙ e)),
            root_is (omega arith),
            depth_is,
          )
    ])

    -- ---- in a used table

    module _ (some : 1 ≤ depth) where
      seen : Formed (view_of (at D)) n root
      seen = rw (root_is some) (formed_view r.small r.shaped r.well_formed (omega arith))

      -- nothing leads to one that waits
      pub waiting_unlinked : Unlinked (λ a. a ∈ (s ∷ ss)) (freed_at (s ∷ ss) C) root
      waiting_unlinked =
          record {
            root_stays = λ i. idle root i seen.root_used;
            children_stay = λ a b _ j i. idle b i (seen.child_used a b j);
          }

      abbrev walk : List ℕ
      walk = path d (view_of (at D)) x.readings arity depth root

      unwaiting : (a : ℕ) → a ∈ walk → waits a → ⊥
      unwaiting = stays d arity s x t depth root waits C D waiting_agree waiting_unlinked

      hanging_few : (hanging d arity s x D t depth root).count ≤ n
      unfolding hanging hanging_from
      hanging_few =
          omega (
            arith,
            path_count d (view_of (at D)) x.readings arity seen depth,
            used_in_used_count n (at D),
            used_in_most n (at D),
          )

      hanging_waits : (a : ℕ) → waits a → (a ≡ s → ⊥) → at (hanging d arity s x C t depth root).rows a ≡ at C a
      unfolding hanging hanging_from attach
      hanging_waits a i ns =
          let high = raised_along d x.readings walk C in
          let on = last root walk in
          let on-stays = unwaiting on (attach_∈ d (view_of (at D)) x.readings arity depth root some) in
          ap (λ (p : List ℕ). at (hanging_from d arity s x C t (last root p) p).rows a)
          (walked d arity s x t depth root waits C D waiting_agree waiting_unlinked)
          ∙ get_or-set_other (set high on (adopting s (at high on))) s a (fresh x t on) free ns
          ∙ get_or-set_other high on a (adopting s (at high on)) free (λ e. on-stays (rw (← e) i))
          ∙ along_other d x.readings walk C a (λ j. unwaiting a j i)

    -- ---- in both cases

    puts_agree : (a : ℕ) → (a ∈ ss → ⊥)
        → at (puts d arity s x C depth root t).rows a ≡ at (puts d arity s x D depth root t).rows a
    puts_agree a m = elim (ℕ_discrete depth 0) [
      | yes e ↦
          rw (puts_root d arity s x C depth root t e, puts_root d arity s x D depth root t e)
          (unfold as_root in seated (ℕ_discrete a s))
      | no ne ↦
          rw (puts_child d arity s x C depth root t ne, puts_child d arity s x D depth root t ne)
          ((hanging_agree d arity s x t depth root waits C D waiting_agree (waiting_unlinked (omega arith)) in_rows
          (omega arith)).same a (λ z. m (rest z.0 z.1)))
    ]
      where
        rest : {b : ℕ} → b ∈ (s ∷ ss) → (b ≡ s → ⊥) → b ∈ ss
        rest (first e) ns = absurd (ns e)
        rest (later i) ns = i

        seated : Dec (a ≡ s) → at (set C s (fresh x t no_slot)) a ≡ at (set D s (fresh x t no_slot)) a
        seated (yes e) =
            ap (λ (i : ℕ). at (set C s (fresh x t no_slot)) i) e
            ∙ get_or-set_same C s (fresh x t no_slot) free (omega (arith, waiting_agree.long, in_rows))
            ∙ sym (get_or-set_same D s (fresh x t no_slot) free in_rows)
            ∙ ap (λ (i : ℕ). at (set D s (fresh x t no_slot)) i) (sym e)
        seated (no ns) =
            get_or-set_other C s a (fresh x t no_slot) free ns
            ∙ waiting_agree.same a (λ i. m (rest i ns))
            ∙ sym (get_or-set_other D s a (fresh x t no_slot) free ns)

    -- the rule leaves the same records
    pub puts_freed : freed_at ss (puts d arity s (brought (at C s)) C depth root t).rows
        ≡ (placed d arity s (brought (at C s)) (freed_at (s ∷ ss) C)).rows
    puts_freed =
        let P = (puts d arity s x C depth root t).rows in
        let Q = (placed d arity s x D).rows in
        let ready = returnable_ready to_8 r in
        let after = placed_settled d ready in
        let long : length (freed_at ss P) ≡ n =
        freed_length ss P ∙ puts_length d arity s x C depth root t ∙ waiting_agree.long ∙ r.length_is in
        ext_get_or
        free
        (freed_at ss P)
        Q
        (long ∙ sym (placed_length d ready))
        (λ a b. elim (∈_decide a ss) [
          | yes i ↦
              let none : (at Q a).card ≡ 0 = (after.kept a (still a i)).card ∙ r.slot_free a (later i) in
              freed_in ss P a i ∙ sym (after.well_formed.free_if_no_card a (omega (arith, b, long)) none)
          | no m ↦
              freed_out ss P a m ∙ puts_agree a m ∙ ap (λ (p : Placed). at p.rows a) (sym placed_puts)
        ])

    -- and gives the same count
    pub puts_count : (puts d arity s (brought (at C s)) C depth root t).count
        ≡ (placed d arity s (brought (at C s)) (freed_at (s ∷ ss) C)).count
    puts_count = elim (ℕ_discrete depth 0) [
      | yes e ↦
          rw (placed_puts, puts_root d arity s x C depth root t e, puts_root d arity s x D depth root t e)
          (unfold as_root in refl)
      | no ne ↦
          rw (placed_puts, puts_child d arity s x C depth root t ne, puts_child d arity s x D depth root t ne)
          (hanging_count d arity s x t depth root waits C D waiting_agree (waiting_unlinked (omega arith)))
    ]

    pub puts_few : (puts d arity s (brought (at C s)) C depth root t).count ≤ n
    puts_few = elim (ℕ_discrete depth 0) [
      | yes e ↦ rw (puts_root d arity s x C depth root t e) (unfold as_root in omega arith)
      | no ne ↦
          let some : 1 ≤ depth = omega arith in
          let same = hanging_count d arity s x t depth root waits C D waiting_agree (waiting_unlinked some) in
          rw (puts_child d arity s x C depth root t ne) (omega (arith, same, hanging_few some))
    ]

    -- those that wait are as they were
    pub puts_waits : (a : ℕ) → a ∈ ss → at (puts d arity s (brought (at C s)) C depth root t).rows a ≡ at C a
    unfolding as_root
    puts_waits a i = elim (ℕ_discrete depth 0) [
      | yes e ↦
          rw (puts_root d arity s x C depth root t e) (get_or-set_other C s a (fresh x t no_slot) free (still a i))
      | no ne ↦
          rw (puts_child d arity s x C depth root t ne) (hanging_waits (omega arith) a (later i) (still a i))
    ]
