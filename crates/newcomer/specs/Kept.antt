-- What a newcomer leaves of a record that it changes: all but the radius on its way, and all but the children where it
-- hangs. Assumes nothing.
use Rattle.std.specs.Prelude.{ℕ, ◌<◌, ◌≡◌, refl, [], ◌∷◌, ◌++◌, length}
use Rattle.std.proofs.Common.{add-one, take-suc-set}
use Rattle.table.specs.Record.{Record, children}
use Rattle.newcomer.specs.Newcomer.{raised, adopting}

-- q is r in all that a newcomer elsewhere never changes
pub record Kept (r q : Record) : Type 0 where
  pub card : q.card ≡ r.card
  pub timestamp : q.timestamp ≡ r.timestamp
  pub parent : q.parent ≡ r.parent
  pub kind : q.kind ≡ r.kind
  pub readings : q.readings ≡ r.readings

-- q is r but for its radius
pub record Still (r q : Record) : Type 0 where
  pub kept : Kept r q
  pub count : q.count ≡ r.count
  pub slots : q.slots ≡ r.slots

pub kept_self : (r : Record) → Kept r r
kept_self r = record { card = refl; timestamp = refl; parent = refl; kind = refl; readings = refl }

pub still_self : (r : Record) → Still r r
still_self r = record { kept = kept_self r; count = refl; slots = refl }

pub still_raised : (r q : Record) (k : ℕ) → Still r q → Still r (raised k q)
unfolding raised
still_raised r q k h =
    record {
      kept =
          record {
            card = h.kept.card;
            timestamp = h.kept.timestamp;
            parent = h.kept.parent;
            kind = h.kept.kind;
            readings = h.kept.readings;
          };
      count = h.count;
      slots = h.slots;
    }

pub kept_adopting : (r q : Record) (s : ℕ) → Kept r q → Kept r (adopting s q)
unfolding adopting
kept_adopting r q s h =
    record {
      card = h.card;
      timestamp = h.timestamp;
      parent = h.parent;
      kind = h.kind;
      readings = h.readings;
    }

-- "s becomes a's last child"
pub adopting_children :
    (s : ℕ) (r : Record) → r.count < length r.slots → children (adopting s r) ≡ children r ++ (s ∷ [])
unfolding adopting
adopting_children s r h = rw add-one (take-suc-set r.slots r.count s h)
