-- A card's slot in lent bytes: it stands there, and so does its parent, which can disown it; and the bytes after each
-- of the two writes of a removal (`disowned`, `unhung_freed`). Assumes nothing.
use Rattle.std.specs.Prelude.{ℕ, ◌<◌, ◌≡◌, List, length, set}
use Rattle.std.proofs.Common.{sym, ap, ◌∙◌, arith}
use Rattle.table.specs.Record.{Record, Used, record_of, free, no_slot, children}
use Rattle.table.specs.Table.{records_in, records_of, at}
use Rattle.table.specs.Records.{records_length, records_in_lem}
use Rattle.table.specs.Stands.{Stands, stands_in}
use Rattle.writing.specs.Laws.{Became}
use Rattle.tree.specs.Slots.{◌∈◌}
use Rattle.tree.specs.View.Shape.{children_distinct}
use Rattle.view.specs.Children.{children_length}
use Rattle.view.specs.Formed.{used_within}
use Rattle.removal.specs.Removal.{disowning, unhung}
use Rattle.removal.specs.Leaving.{
  Held,
  held_within,
  held_seen,
  parent_child,
  unhung_root,
  unhung_child,
  count_small,
  except_length,
}
use Rattle.removal.specs.Loop.Closing.{Hosts}

module _ (l : List ℕ) {v : ℕ} (held : Held (records_of l) v) where
  -- a slot of the row is one of the bytes'
  in_bytes : (s : ℕ) → s < length (records_of l) → s < records_in l
  in_bytes s h = omega (arith, records_length l)

  pub held_stands : Stands l v
  held_stands = stands_in l v (in_bytes v (held_within held))

  pub held_record : at (records_of l) v ≡ record_of l v
  held_record = records_in_lem l v (in_bytes v (held_within held))

  module _ (p : ℕ) (e : p ≡ (record_of l v).parent) where
    parent_is : p ≡ (at (records_of l) v).parent
    parent_is = e ∙ ap (λ (r : Record). r.parent) (sym held_record)

    -- a root has no parent to leave
    pub rooted : p ≡ no_slot → records_of l ≡ unhung v (records_of l)
    rooted q = sym (unhung_root held (sym parent_is ∙ q))

    module _ (ne : p ≡ no_slot → ⊥) where
      child : Used (at (records_of l) p) × v ∈ children (at (records_of l) p)
      child = rw parent_is (parent_child held (λ q. ne (parent_is ∙ q)))

      within : p < length (records_of l)
      within = used_within held.shaped p child.0

      pub parent_stands : Stands l p
      parent_stands = stands_in l p (in_bytes p within)

      record_is : at (records_of l) p ≡ record_of l p
      record_is = records_in_lem l p (in_bytes p within)

      pub parent_hosts : Hosts v (record_of l p)
      parent_hosts =
          let r = at (records_of l) p in
          let all = children_length r (omega (arith, count_small held p, held.shaped.eight p)) in
          let less = except_length v (children r) (children_distinct (held_seen held) p) child.1 in
          rw (← record_is)
          (record {
            some = omega (arith, all, less);
            to_8 = count_small held p;
            left = omega (arith, all, less);
            past = (held.well_formed.filled p within child.0).past_count;
          })

      pub disowned : {m : List ℕ} → Became l p (disowning v (record_of l p)) m → records_of m ≡ unhung v (records_of l)
      disowned b =
          b.records
          ∙ ap (λ (r : Record). set (records_of l) p (disowning v r)) (sym record_is)
          ∙ ap (λ (i : ℕ). set (records_of l) i (disowning v (at (records_of l) i))) parent_is
          ∙ sym (unhung_child held (λ q. ne (parent_is ∙ q)))

  -- v has left its parent, and then its slot becomes free
  pub unhung_freed :
      {m k : List ℕ}
      → records_of m ≡ unhung v (records_of l)
      → Became m v free k
      → records_of k ≡ set (unhung v (records_of l)) v free
  unhung_freed e b = b.records ∙ ap (λ (rows : List Record). set rows v free) e
