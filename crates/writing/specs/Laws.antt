-- What each write of a field does to the table's records: one law for each, `Became`. A field's law says its place and
-- width, and which record comes of it; the rest is shown once in Became. Assumes nothing.
use Rattle.std.specs.Prelude.{ℕ, ◌+◌, ◌-◌, ◌*◌, ◌^◌, ◌≤◌, ◌<◌, ◌≡◌, List, get_or, set}
use Rattle.std.proofs.Math.Path.{refl, ap}
use Rattle.std.proofs.Common.{sym, ◌∙◌, arith, length-set, ext_get_or, get_or-set_same, get_or-set_other}
use Rattle.std.proofs.Math.ListN.{length}
use Rattle.number.specs.Number.{number_at, with_number}
use Rattle.number.specs.Frame.{with_length, with_outside, number_with, number_other}
use Rattle.distance.specs.Signature.{Fit}
use Rattle.refusals.specs.Limits.{most_children}
use Rattle.table.specs.Record.{
  Record,
  free,
  record_length,
  timestamp_at,
  radius_at,
  parent_at,
  slots_at,
  signature_at,
  place_of,
  record_at,
  record_of,
}
use Rattle.places.specs.Cases.{equal_or}
use Rattle.table.specs.Stands.{Stands, stands_place}
use Rattle.table.specs.Fields.{mixed, slot_in, slots_eight, zeros_free}
use Rattle.writing.specs.Run.{
  number_bytes,
  byte_bytes,
  readings_same_length,
  readings_outside,
  readings_bytes,
  readings_put,
  zeroed_length,
  zeroed_outside,
  zeroed_bytes,
  zeroed_at,
}
use Rattle.writing.specs.Put.{
  put_card,
  put_timestamp,
  put_radius,
  put_parent,
  put_count,
  put_kind,
  put_slot,
  put_readings,
  put_signature,
  zeroed,
  freed,
  with_card,
  with_timestamp,
  with_radius,
  with_parent,
  with_count,
  with_kind,
  with_slots,
  with_slot,
  with_readings,
}
use Rattle.writing.specs.Became.{Within, apart, changed, became}
pub use Rattle.writing.specs.Became.{Became, records_with, became_by, became_none, became_then, then_with}

-- ---- a number, a byte, the readings and zeros are runs

module _ (l : List ℕ) (b : ℕ) where
  -- a number of n bytes, in k bytes from byte o on
  number_within :
      (n o k at v : ℕ) → b + o ≤ at → at + n ≤ b + o + k → Within b o k l (with_number n l at v)
  number_within n o k at v low high =
      record {
        same_length = with_length n l at v;
        outside = λ i out. with_outside n l at v i (λ j p e. out (at + j - (b + o)) (omega arith) (omega arith));
      }

  byte_within : (o v : ℕ) → Within b o 1 l (set l (b + o) v)
  byte_within o v =
      record {
        same_length = length-set l (b + o) v;
        outside = λ i out. get_or-set_other l (b + o) i v 0 (λ e. out 0 (omega arith) (omega arith));
      }

  readings_within : (vs : List ℕ) → Within b 32 32 l (put_readings 16 l (signature_at b) vs)
  readings_within vs =
      record {
        same_length = readings_same_length l (signature_at b) vs 16;
        outside = readings_outside l (signature_at b) vs 16;
      }

  zeroed_within : Within b 0 record_length l (zeroed record_length l b)
  zeroed_within =
      record {
        same_length = zeroed_length l b record_length;
        outside = λ i out. zeroed_outside l b record_length i (λ j p e. out j p (omega arith));
      }

  -- of the child slots only slot i is written
  slots_put :
      (i v : ℕ)
      → i < most_children
      → v < 256 ^ 2
      → slots_at b + 16 ≤ length l
      → (record_at (with_number 2 l (slots_at b + 2 * i) v) b).slots ≡ set (record_at l b).slots i v
  slots_put i v hi h fits =
      ext_get_or
      0
      (record_at m b).slots
      (set (record_at l b).slots i v)
      (slots_eight m b ∙ sym (slots_eight l b) ∙ sym (length-set (record_at l b).slots i v))
      (λ k p.
      let c : k < most_children = omega (arith, slots_eight m b) in
      slot_in m b k c
      ∙ equal_or
      k
      i
      (λ e.
      rw e (number_with 2 l (slots_at b + 2 * i) v h (omega arith)
      ∙ sym (get_or-set_same (record_at l b).slots i v 0 (omega (arith, slots_eight l b)))))
      (λ ne.
      number_other 2 2 l (slots_at b + 2 * i) (slots_at b + 2 * k) v (λ x y p q e. ne (omega arith))
      ∙ sym (slot_in l b k c)
      ∙ sym (get_or-set_other (record_at l b).slots i k v 0 ne)))
    where
      m : List ℕ
      m = with_number 2 l (slots_at b + 2 * i) v

-- ---- each write

module _ (l : List ℕ) (s : ℕ) (stands : Stands l s) where
  abbrev b : ℕ
  b = place_of s

  -- a number of n bytes from byte o on; `but` says that it is the whole of a field
  put_number :
      (to : ℕ → Record) (n o at v : ℕ)
      → at ≡ b + o
      → o + n ≤ record_length
      → v < 256 ^ n
      → mixed (apart o n) (with_number n l at v) b l b ≡ to (number_at n (with_number n l at v) at)
      → Became l s (to v) (with_number n l at v)
  put_number to n o at v e inside h but =
      let fits : at + n ≤ length l = omega (arith, stands_place l s stands) in
      let w : Within b o n l (with_number n l at v) = number_within l b n o n at v (omega arith) (omega arith) in
      became w inside stands (number_bytes n l at v fits)
      (changed w ∙ but ∙ ap to (number_with n l at v h fits))

  -- one byte, byte o
  put_byte :
      (to : ℕ → Record) (o v : ℕ)
      → o < record_length
      → v < 256
      → mixed (apart o 1) (set l (b + o) v) b l b ≡ to (get_or (set l (b + o) v) (b + o) 0)
      → Became l s (to v) (set l (b + o) v)
  put_byte to o v inside h but =
      let w = byte_within l b o v in
      became w (omega arith) stands (byte_bytes l (b + o) v h)
      (changed w ∙ but ∙ ap to (get_or-set_same l (b + o) v 0 (omega (arith, stands_place l s stands))))

  pub put_card_lem : (v : ℕ) → v < 256 ^ 4 → Became l s (with_card (record_of l s) v) (put_card l s v)
  unfolding put_card record_of record_at
  put_card_lem v h = put_number (with_card (record_of l s)) 4 0 b v (omega arith) (omega arith) h refl

  pub put_timestamp_lem : (v : ℕ) → v < 256 ^ 4 → Became l s (with_timestamp (record_of l s) v) (put_timestamp l s v)
  unfolding put_timestamp record_of record_at
  put_timestamp_lem v h = put_number (with_timestamp (record_of l s)) 4 4 (timestamp_at b) v refl (omega arith) h refl

  pub put_radius_lem : (v : ℕ) → v < 256 ^ 4 → Became l s (with_radius (record_of l s) v) (put_radius l s v)
  unfolding put_radius record_of record_at
  put_radius_lem v h = put_number (with_radius (record_of l s)) 4 8 (radius_at b) v refl (omega arith) h refl

  pub put_parent_lem : (v : ℕ) → v < 256 ^ 2 → Became l s (with_parent (record_of l s) v) (put_parent l s v)
  unfolding put_parent record_of record_at
  put_parent_lem v h = put_number (with_parent (record_of l s)) 2 12 (parent_at b) v refl (omega arith) h refl

  pub put_count_lem : (v : ℕ) → v < 256 → Became l s (with_count (record_of l s) v) (put_count l s v)
  unfolding put_count record_of record_at
  put_count_lem v h = put_byte (with_count (record_of l s)) 14 v (omega arith) h refl

  pub put_kind_lem : (v : ℕ) → v < 256 → Became l s (with_kind (record_of l s) v) (put_kind l s v)
  unfolding put_kind record_of record_at
  put_kind_lem v h = put_byte (with_kind (record_of l s)) 15 v (omega arith) h refl

  -- child slot i, among the sixteen bytes of all eight
  pub put_slot_lem :
      (i v : ℕ) → i < most_children → v < 256 ^ 2 → Became l s (with_slot (record_of l s) i v) (put_slot l s i v)
  unfolding put_slot record_of record_at
  put_slot_lem i v hi h =
      let at = slots_at b + 2 * i in
      let fits : b + record_length ≤ length l = stands_place l s stands in
      let w : Within b 16 16 l (with_number 2 l at v) = number_within l b 2 16 16 at v (omega arith) (omega arith) in
      became w (omega arith) stands (number_bytes 2 l at v (omega arith))
      (changed w ∙ ap (with_slots (record_of l s)) (slots_put l b i v hi h (omega arith)))

  pub put_signature_lem :
      (vs : List ℕ) → length vs ≡ 16 → Fit vs → Became l s (with_readings (record_of l s) vs) (put_signature l s vs)
  unfolding put_signature record_of record_at
  put_signature_lem vs n h =
      let fits : signature_at b + 32 ≤ length l = omega (arith, stands_place l s stands) in
      let w = readings_within l b vs in
      became w (omega arith) stands (readings_bytes l (signature_at b) vs 16 fits)
      (changed w ∙ ap (with_readings (record_of l s)) (readings_put l (signature_at b) vs n h fits))

  -- the record made free
  pub put_free : Became l s free (freed l s)
  unfolding freed
  put_free =
      became (zeroed_within l b) (omega arith) stands (zeroed_bytes l b record_length)
      (zeros_free (zeroed record_length l b) b (zeroed_at l b record_length (stands_place l s stands)))
