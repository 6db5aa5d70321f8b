-- Records whose fields fit their places in the bytes: those read from bytes do. Assumes nothing.
use Rattle.std.specs.Prelude.{ℕ, ◌+◌, ◌*◌, ◌^◌, ◌<◌, ◌≡◌, List, length}
use Rattle.std.proofs.Common.{arith}
use Rattle.std.proofs.Math.ListN.{get_or-eq_default}
use Rattle.number.specs.Frame.{Bytes, number_lt}
use Rattle.distance.specs.Signature.{Fit, readings_fit}
use Rattle.refusals.specs.Limits.{most_children}
use Rattle.table.specs.Record.{
  Record,
  timestamp_at,
  radius_at,
  parent_at,
  count_at,
  kind_at,
  slots_at,
  signature_at,
  place_of,
  record_at,
  record_of,
}
use Rattle.table.specs.Table.{at}
use Rattle.places.specs.Cases.{below_or}
use Rattle.table.specs.Fields.{slot_in, slots_eight, readings_sixteen}

-- each field fits its bytes
pub record Fitting (r : Record) : Type 0 where
  pub card : r.card < 256 ^ 4
  pub timestamp : r.timestamp < 256 ^ 4
  pub radius : r.radius < 256 ^ 4
  pub parent : r.parent < 256 ^ 2
  pub count : r.count < 256
  pub kind : r.kind < 256
  pub eight : length r.slots ≡ most_children
  pub slots : Fit r.slots
  pub sixteen : length r.readings ≡ 16
  pub readings : Fit r.readings

-- and so do those of each record of a row
abbrev pub FittingRow : List Record → Type 0
FittingRow rows = (s : ℕ) → s < length rows → Fitting (at rows s)

-- the fields that bytes hold fit
fields_fit : (l : List ℕ) (b : ℕ) → Bytes l → Fitting (record_at l b)
unfolding record_at
fields_fit l b h =
    record {
      card = number_lt 4 l b h;
      timestamp = number_lt 4 l (timestamp_at b) h;
      radius = number_lt 4 l (radius_at b) h;
      parent = number_lt 2 l (parent_at b) h;
      count = h (count_at b);
      kind = h (kind_at b);
      eight = slots_eight l b;
      slots = λ i.
          below_or
          i
          most_children
          (λ p. rw (slot_in l b i p) (number_lt 2 l (slots_at b + 2 * i) h))
          (λ p.
          rw (get_or-eq_default (record_at l b).slots 0 {n = i} (omega (arith, slots_eight l b)))
          (omega arith));
      sixteen = readings_sixteen l b;
      readings = readings_fit l (signature_at b) h;
    }

pub record_fits : (l : List ℕ) (s : ℕ) → Bytes l → Fitting (record_of l s)
unfolding record_of
record_fits l s h = fields_fit l (place_of s) h
