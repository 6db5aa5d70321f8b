-- What leaves with a record, slot by slot: the slots that leave are free afterwards, the parent has one child less, and
-- every other record is as it was. Assumes nothing.
use Rattle.std.specs.Prelude.{ℕ, suc, ◌+◌, ◌-◌, ◌≤◌, ◌<◌, ◌≡◌, refl, ◌↔◌, List, [], ◌∷◌, ◌++◌, set, drop}
use Rattle.std.proofs.Common.{sym, ◌∙◌, arith, length-set, get_or-set_same, get_or-set_other, eq-eqb, ne_eqb}
use Rattle.std.proofs.Math.Path.{ap}
use mathlib.Core.List.Memᴰ.{head as first}
use mathlib.Core.List.Memᴰ.{tail as later}
use Rattle.std.proofs.Math.Decide.{ℕ_discrete}
use Rattle.std.proofs.Math.ListN.{length, get_or, replicate, length-append, length-replicate, get_or-replicate}
use Rattle.std.proofs.Math.Seq.{take_at, get_or-append-add}
use Rattle.table.specs.Record.{Record, Used, free, no_slot, children}
use Rattle.refusals.specs.Limits.{most_records, most_children}
use Rattle.table.specs.Table.{at}
use Rattle.judge.specs.WellFormed.{WellFormed, Filled}
use Rattle.survey.specs.Survey.{used_in, root_of}
use Rattle.tree.specs.Slots.{◌∈◌, Distinct}
use Rattle.tree.specs.View.{Formed, Below, used_count, under}
use Rattle.tree.specs.View.Shape.{children_distinct, below_younger}
use Rattle.tree.specs.View.Under.{under_iff, under_is, under_distinct, under_used}
use Rattle.tree.specs.Remove.{except}
use Rattle.view.specs.View.{view_of}
use Rattle.view.specs.Shaped.{Shaped}
use Rattle.view.specs.Children.{children_length}
use Rattle.survey.specs.Laws.{used_in_seen}
use Rattle.view.specs.Survey.{used_in_used_count, root_of_is}
use Rattle.view.specs.Formed.{used_within, count_fits, formed_view}
use Rattle.view.specs.Freed.{freed_length, freed_in, freed_out}
use Rattle.removal.specs.Removal.{leaving, disowning, unhung, removed}

-- ---- a list without one of its slots

pub except_none : (v : ℕ) (l : List ℕ) → (v ∈ l → ⊥) → except v l ≡ l
unfolding except
except_none v [] m = refl
except_none v (a ∷ l) m = rw (ne_eqb a v (λ e. m (first (sym e))), except_none v l (λ i. m (later i)))

pub except_length : (v : ℕ) (l : List ℕ) → Distinct l → v ∈ l → length l ≡ suc (length (except v l))
unfolding except
except_length v [] p x'' = elim x'' [ ]
except_length v (a ∷ l) p (first e) =
    rw (eq-eqb a v (sym e), except_none v l (λ i. p.0 (rw e at i)))
except_length v (a ∷ l) p (later i) =
    rw (ne_eqb a v (λ e. p.0 (rw (← e) at i))) (ap suc (except_length v l p.1 i))

-- ---- the record that v hangs from

-- q is r less its child v
pub record Stayed (v : ℕ) (r q : Record) : Type 0 where
  pub card : q.card ≡ r.card
  pub timestamp : q.timestamp ≡ r.timestamp
  pub radius : q.radius ≡ r.radius
  pub parent : q.parent ≡ r.parent
  pub kind : q.kind ≡ r.kind
  pub readings : q.readings ≡ r.readings
  pub children : children q ≡ except v (children r)
  pub eight : length q.slots ≡ most_children
  pub filled : Filled r → Filled q
  pub unused : r.card ≡ 0 → q ≡ r

pub stayed_self : (v : ℕ) (r : Record) → (v ∈ children r → ⊥) → length r.slots ≡ most_children → Stayed v r r
stayed_self v r m eight =
    record {
      card = refl;
      timestamp = refl;
      radius = refl;
      parent = refl;
      kind = refl;
      readings = refl;
      children = sym (except_none v (children r) m);
      eight = eight;
      filled = λ f. f;
      unused = λ _. refl;
    }

module _ (v : ℕ) (r : Record) (fits : r.count ≤ most_children) (eight : length r.slots ≡ most_children)
    (once : Distinct (children r))
    (child : v ∈ children r) where
  rest_length : suc (length (except v (children r))) ≡ r.count
  rest_length = sym (except_length v (children r) once child) ∙ children_length r (omega arith)

  pub stayed_disowning : Used r → Stayed v r (disowning v r)
  unfolding disowning
  stayed_disowning u =
      let left = except v (children r) in
      record {
        card = refl;
        timestamp = refl;
        radius = refl;
        parent = refl;
        kind = refl;
        readings = refl;
        children = take_at left (replicate (9 - r.count) no_slot) (r.count - 1) (omega (arith, rest_length));
        eight =
            length-append left (replicate (9 - r.count) no_slot)
            ∙ omega (arith, rest_length, length-replicate (9 - r.count) no_slot);
        filled = λ f.
            record {
              card_from_1 = f.card_from_1;
              timestamp_from_1 = f.timestamp_from_1;
              count_to_8 = omega arith;
              kind_known = f.kind_known;
              past_count = λ i p b.
                  let k = i - length left in
                  let e : i ≡ length left + k = omega (arith, rest_length) in
                  ap (λ (j : ℕ). get_or (left ++ replicate (9 - r.count) no_slot) j 0) e
                  ∙ get_or-append-add left (replicate (9 - r.count) no_slot) k 0
                  ∙ get_or-replicate (9 - r.count) k no_slot 0 (omega (arith, rest_length));
            };
        unused = λ z. absurd (omega arith);
      }

-- ---- a card's slot in a well-formed table

-- slot v of these records holds a card, and the table is well formed
pub record Held (rows : List Record) (v : ℕ) : Type 0 where
  pub small : length rows ≤ most_records
  pub shaped : Shaped (length rows) (at rows)
  pub well_formed : WellFormed (length rows) (at rows)
  pub used : Used (at rows v)

module _ {rows : List Record} {v : ℕ} (held : Held rows v) where
  pub held_within : v < length rows
  held_within = used_within held.shaped v held.used

  pub held_some : 1 ≤ used_in (length rows) (at rows)
  held_some = used_in_seen (length rows) (at rows) v held_within held.used

  pub held_seen : Formed (view_of (at rows)) (length rows) (root_of (length rows) (at rows))
  held_seen = formed_view held.small held.shaped held.well_formed held_some

  -- ---- the slots that leave

  leaving_under : leaving rows v ≡ under (λ s. children (at rows s)) (used_count (view_of (at rows)) (length rows)) v
  unfolding leaving
  leaving_under = rw (used_in_used_count (length rows) (at rows))

  -- they are those at or below v
  pub leaving_iff : (x : ℕ) → x ∈ leaving rows v ↔ ((k : ℕ) × Below (λ s. children (at rows s)) x k v)
  leaving_iff x = rw leaving_under (under_iff held_seen v held.used x)

  pub leaving_distinct : Distinct (leaving rows v)
  leaving_distinct = rw leaving_under (under_distinct held_seen (used_count (view_of (at rows)) (length rows)) v)

  pub leaving_used : (x : ℕ) → x ∈ leaving rows v → Used (at rows x)
  leaving_used x i =
      under_used held_seen (used_count (view_of (at rows)) (length rows)) v x held.used (rw leaving_under at i)

  -- v first
  pub leaving_first : leaving rows v ≡ v ∷ drop 1 (leaving rows v)
  leaving_first = rw (leaving_under ∙ under_is held_seen v held.used)

  -- and then those below v
  pub below_iff : (x : ℕ) → x ∈ drop 1 (leaving rows v) ↔ (x ∈ leaving rows v × (x ≡ v → ⊥))
  below_iff x = (
    λ i. (rw leaving_first (later i), λ e. distinct.0 (rw e at i)),
    λ z. other z.1 (rw leaving_first at z.0),
  )
    where
      distinct : Distinct (v ∷ drop 1 (leaving rows v))
      distinct = rw leaving_first at leaving_distinct

      other : (x ≡ v → ⊥) → x ∈ (v ∷ drop 1 (leaving rows v)) → x ∈ drop 1 (leaving rows v)
      other ne (first e) = absurd (ne e)
      other ne (later i) = i

  pub below_distinct : Distinct (drop 1 (leaving rows v))
  below_distinct = (rw leaving_first at leaving_distinct).1

  -- ---- the records that stay

  pub count_small : (a : ℕ) → (at rows a).count ≤ most_children
  count_small a =
      omega (
        arith,
        count_fits held.shaped held.well_formed.free_if_no_card held.well_formed.filled a,
        held.shaped.eight a,
      )

  -- who has v as a child is its parent, and v not the root
  pub child_parent : (a : ℕ) → v ∈ children (at rows a) → (a ≡ (at rows v).parent) × ((at rows v).parent < 1024)
  child_parent a i =
      let p = held_seen.child_parent a v i in
      (sym p, omega (arith, p, held.small, used_within held.shaped a (held_seen.parent_used a v i)))

  -- the parent of a record that is not the root
  pub parent_child : ((at rows v).parent ≡ no_slot → ⊥)
      → Used (at rows (at rows v).parent) × v ∈ children (at rows (at rows v).parent)
  parent_child ne =
      held_seen.hung v held.used
      (λ e. ne (ap (λ (a : ℕ). (at rows a).parent) e
      ∙ (root_of_is (length rows) (at rows) held.well_formed held_some).2))

  pub unhung_root : (at rows v).parent ≡ no_slot → unhung v rows ≡ rows
  unfolding unhung
  unhung_root e = rw (eq-eqb (at rows v).parent no_slot e)

  pub unhung_child :
      ((at rows v).parent ≡ no_slot → ⊥)
      → unhung v rows ≡ set rows (at rows v).parent (disowning v (at rows (at rows v).parent))
  unfolding unhung
  unhung_child ne = rw (ne_eqb (at rows v).parent no_slot ne)

  pub unhung_length : length (unhung v rows) ≡ length rows
  unhung_length = elim (ℕ_discrete (at rows v).parent no_slot) [
    | yes e ↦ ap length (unhung_root e)
    | no ne ↦ ap length (unhung_child ne)
        ∙ length-set rows (at rows v).parent (disowning v (at rows (at rows v).parent))
  ]

  pub unhung_stayed : (a : ℕ) → Stayed v (at rows a) (at (unhung v rows) a)
  unhung_stayed a = elim (ℕ_discrete (at rows v).parent no_slot) [
    | yes e ↦
        rw (unhung_root e)
        (stayed_self v (at rows a) (λ i. omega (arith, (child_parent a i).1)) (held.shaped.eight a))
    | no ne ↦ elim (ℕ_discrete a (at rows v).parent) [
      | no np ↦
          let p = (at rows v).parent in
          rw (unhung_child ne, get_or-set_other rows p a (disowning v (at rows p)) free np)
          (stayed_self v (at rows a) (λ i. np (child_parent a i).0) (held.shaped.eight a))
      | yes e ↦
          let p = (at rows v).parent in
          let z = parent_child ne in
          let within : p < length rows = used_within held.shaped p z.0 in
          rw (unhung_child ne, e, get_or-set_same rows p (disowning v (at rows p)) free within)
          (stayed_disowning v (at rows p) (count_small p) (held.shaped.eight p) (children_distinct held_seen p)
          z.1 z.0)
    ]
  ]

  -- v's parent does not leave, so what leaves is as it was
  pub unhung_leaving : (a : ℕ) → a ∈ leaving rows v → at (unhung v rows) a ≡ at rows a
  unhung_leaving a i = elim (ℕ_discrete (at rows v).parent no_slot) [
    | yes e ↦ ap (λ (l : List Record). at l a) (unhung_root e)
    | no ne ↦
        let p = (at rows v).parent in
        let older = held_seen.older p v (parent_child ne).1 in
        let younger = below_younger held_seen ((leaving_iff a).0 i).1 in
        ap (λ (l : List Record). at l a) (unhung_child ne)
        ∙ get_or-set_other rows p a (disowning v (at rows p)) free
        (λ q. omega (arith, older, younger, ap (λ (b : ℕ). (at rows b).timestamp) q))
  ]

  -- ---- the row without v and all below it

  pub removed_length : length (removed rows v) ≡ length rows
  unfolding removed
  removed_length = freed_length (leaving rows v) (unhung v rows) ∙ unhung_length

  pub removed_in : (a : ℕ) → a ∈ leaving rows v → at (removed rows v) a ≡ free
  unfolding removed
  removed_in a i = freed_in (leaving rows v) (unhung v rows) a i

  pub removed_out : (a : ℕ) → (a ∈ leaving rows v → ⊥) → Stayed v (at rows a) (at (removed rows v) a)
  unfolding removed
  removed_out a m = rw (freed_out (leaving rows v) (unhung v rows) a m) (unhung_stayed a)
