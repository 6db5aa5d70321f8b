-- Bytes to records and back, and records to bytes and back, give the same again.
-- The key idea: a record written is read back field by field; that bytes come back then follows, since equal records
-- come of equal bytes. Assumes nothing.
use Rattle.std.specs.Prelude.{ℕ, zero, suc, ◌+◌, ◌*◌, ◌<◌, ◌≡◌, refl, List, [], ◌∷◌, ◌++◌, get_or, length}
use Rattle.std.proofs.Common.{ap, ap₂, ◌∙◌, append_assoc, append-nil, arith, length-append, get_or-append-add}
use Rattle.std.proofs.Math.Path.{sym}
use Rattle.std.proofs.Math.ListN.{get_or-append}
use Rattle.std.proofs.Math.Seq.{ext_get_or}
use Rattle.number.specs.Number.{number_at, digits}
use Rattle.number.specs.Frame.{Bytes, digits_bytes}
use Rattle.distance.specs.Signature.{Fit}
use Rattle.refusals.specs.Limits.{most_children}
use Rattle.table.specs.Record.{Record, free, slot, record_length, place_of, record_at, record_of}
use Rattle.table.specs.Table.{records_in, records_of, at, numbers, bytes_of_record, bytes_of}
use Rattle.table.specs.Span.{Alike, number_alike}
use Rattle.table.specs.Place.{place_next}
use Rattle.table.specs.Stands.{AreRecords, WholeRecords, are_in, are_long, whole_are}
use Rattle.table.specs.Fields.{slot_in, slots_eight, reading_in, readings_sixteen, record_alike}
use Rattle.table.specs.Records.{records_length, records_in_lem, bytes_same}
use Rattle.table.specs.Fitting.{Fitting, FittingRow, record_fits}

-- ---- numbers, one after another

pub numbers_length : (vs : List ℕ) → length (numbers 2 vs) ≡ 2 * length vs
numbers_length [] = refl
numbers_length (v ∷ vs) = omega (arith, numbers_length vs)

number_back :
    (vs rest : List ℕ) (i : ℕ)
    → Fit vs
    → i < length vs
    → number_at 2 (numbers 2 vs ++ rest) (2 * i) ≡ get_or vs i 0
unfolding number_at
number_back [] rest i fit p = absurd (omega arith)
number_back (v ∷ vs) rest zero fit p = omega (arith, fit 0)
number_back (v ∷ vs) rest (suc i) fit p =
    number_alike
    2
    (numbers 2 (v ∷ vs) ++ rest)
    (2 * suc i)
    (numbers 2 vs ++ rest)
    (2 * i)
    (λ j q.
    let e : 2 * suc i + j ≡ 2 + (2 * i + j) = omega arith in
    ap (λ (k : ℕ). get_or (numbers 2 (v ∷ vs) ++ rest) k 0) e
    ∙ get_or-append-add (digits 2 v) (numbers 2 vs ++ rest) (2 * i + j) 0)
    ∙ number_back vs rest i (λ k. fit (suc k)) (omega arith)

-- ---- a record written and read back

-- bytes 0 to 15 of a record
abbrev head : Record → List ℕ
head r =
    numbers 4 (r.card ∷ r.timestamp ∷ r.radius ∷ [])
    ++ numbers 2 (r.parent ∷ [])
    ++ numbers 1 (r.count ∷ r.kind ∷ [])

head_first : (r : Record) → bytes_of_record r ≡ head r ++ numbers 2 r.slots ++ numbers 2 r.readings
unfolding bytes_of_record
head_first r = refl

pub record_length_lem :
    (r : Record)
    → length r.slots ≡ most_children
    → length r.readings ≡ 16
    → length (bytes_of_record r) ≡ record_length
record_length_lem r e s =
    ap length (head_first r)
    ∙ omega (
      arith,
      length-append (numbers 2 r.slots) (numbers 2 r.readings),
      numbers_length r.slots,
      numbers_length r.readings,
    )

-- a row of numbers after n bytes
row_back :
    (p vs rest l : List ℕ) (n i : ℕ)
    → l ≡ p ++ (numbers 2 vs ++ rest)
    → length p ≡ n
    → Fit vs
    → i < length vs
    → number_at 2 l (n + 2 * i) ≡ get_or vs i 0
row_back p vs rest l n i e en fit h =
    number_alike
    2
    l
    (n + 2 * i)
    (numbers 2 vs ++ rest)
    (2 * i)
    (λ j q.
    let place : n + 2 * i + j ≡ length p + (2 * i + j) = omega arith in
    ap₂ (λ (m : List ℕ) (k : ℕ). get_or m k 0) e place ∙ get_or-append-add p (numbers 2 vs ++ rest) (2 * i + j) 0)
    ∙ number_back vs rest i fit h

module _ (r : Record) (fit : Fitting r) where
  slot_back : (i : ℕ) → i < most_children → slot (record_at (bytes_of_record r) 0) i ≡ slot r i
  slot_back i p =
      slot_in (bytes_of_record r) 0 i p
      ∙ row_back
      (head r)
      r.slots
      (numbers 2 r.readings)
      (bytes_of_record r)
      16
      i
      (head_first r ∙ append_assoc (head r) (numbers 2 r.slots) (numbers 2 r.readings))
      refl
      fit.slots
      (omega (arith, fit.eight))

  reading_back : (i : ℕ) → i < 16 → get_or (record_at (bytes_of_record r) 0).readings i 0 ≡ get_or r.readings i 0
  reading_back i p =
      let ss = numbers 2 r.slots in
      let rs = numbers 2 r.readings in
      reading_in (bytes_of_record r) 0 i p
      ∙ row_back
      (head r ++ ss)
      r.readings
      []
      (bytes_of_record r)
      32
      i
      (head_first r ∙ ap (λ (l : List ℕ). head r ++ ss ++ l) (sym (append-nil rs)))
      (omega (arith, length-append (head r) ss, numbers_length r.slots, fit.eight))
      fit.readings
      (omega (arith, fit.sixteen))

  -- "low byte first": what was written is read
  pub record_back : record_at (bytes_of_record r) 0 ≡ r
  unfolding record_at bytes_of_record number_at
  record_back =
      let l = bytes_of_record r in
      let slots =
      ext_get_or
      0
      (record_at l 0).slots
      r.slots
      (slots_eight l 0 ∙ sym fit.eight)
      (λ i p. slot_back i (omega (arith, slots_eight l 0))) in
      let readings =
      ext_get_or
      0
      (record_at l 0).readings
      r.readings
      (readings_sixteen l 0 ∙ sym fit.sixteen)
      (λ i p. reading_back i (omega (arith, readings_sixteen l 0))) in
      let card : (record_at l 0).card ≡ r.card = omega (arith, fit.card) in
      let timestamp : (record_at l 0).timestamp ≡ r.timestamp = omega (arith, fit.timestamp) in
      let radius : (record_at l 0).radius ≡ r.radius = omega (arith, fit.radius) in
      let parent : (record_at l 0).parent ≡ r.parent = omega (arith, fit.parent) in
      let count : (record_at l 0).count ≡ r.count = omega (arith, fit.count) in
      let kind : (record_at l 0).kind ≡ r.kind = omega (arith, fit.kind) in
      λ i.
      record {
        card = card i;
        timestamp = timestamp i;
        radius = radius i;
        parent = parent i;
        count = count i;
        kind = kind i;
        slots = slots i;
        readings = readings i;
      }

-- ---- rows of records

pub bytes_of_length : (rows : List Record) → FittingRow rows → AreRecords (bytes_of rows) (length rows)
unfolding bytes_of AreRecords
bytes_of_length [] fit = refl
bytes_of_length (r ∷ rs) fit =
    let one = fit 0 (omega arith) in
    omega (
      arith,
      length-append (bytes_of_record r) (bytes_of rs),
      record_length_lem r one.eight one.sixteen,
      bytes_of_length rs (λ s p. fit (suc s) (omega arith)),
    )

-- the bytes of a row are those of its records
bytes_of_at :
    (rows : List Record) (s : ℕ)
    → FittingRow rows
    → s < length rows
    → Alike record_length (bytes_of rows) (place_of s) (bytes_of_record (at rows s)) 0
unfolding bytes_of
bytes_of_at [] s fit p j q = absurd (omega arith)
bytes_of_at (r ∷ rs) zero fit p j q =
    let one = fit 0 (omega arith) in
    let e : place_of 0 + j ≡ j = omega arith in
    let z : j ≡ 0 + j = omega arith in
    ap (λ (k : ℕ). get_or (bytes_of_record r ++ bytes_of rs) k 0) e
    ∙ get_or-append (bytes_of_record r) (bytes_of rs) 0 j (omega (arith, record_length_lem r one.eight one.sixteen))
    ∙ ap (λ (k : ℕ). get_or (bytes_of_record r) k 0) z
bytes_of_at (r ∷ rs) (suc s) fit p j q =
    let one = fit 0 (omega arith) in
    let e : place_of (suc s) + j ≡ length (bytes_of_record r) + (place_of s + j) =
    omega (arith, place_next s, record_length_lem r one.eight one.sixteen) in
    ap (λ (k : ℕ). get_or (bytes_of_record r ++ bytes_of rs) k 0) e
    ∙ get_or-append-add (bytes_of_record r) (bytes_of rs) (place_of s + j) 0
    ∙ bytes_of_at rs s (λ k b. fit (suc k) (omega arith)) (omega arith) j q

append_bytes : (a b : List ℕ) → Bytes a → Bytes b → Bytes (a ++ b)
append_bytes [] b ha hb i = hb i
append_bytes (x ∷ a) b ha hb zero = ha 0
append_bytes (x ∷ a) b ha hb (suc i) = append_bytes a b (λ k. ha (suc k)) hb i

numbers_bytes : (n : ℕ) (vs : List ℕ) → Bytes (numbers n vs)
numbers_bytes n [] = λ i. omega arith
numbers_bytes n (v ∷ vs) = append_bytes (digits n v) (numbers n vs) (digits_bytes n v) (numbers_bytes n vs)

record_bytes : (r : Record) → Bytes (bytes_of_record r)
unfolding bytes_of_record
record_bytes r =
    let fours = r.card ∷ r.timestamp ∷ r.radius ∷ [] in
    let ones = r.count ∷ r.kind ∷ [] in
    let two = more (numbers 4 fours) (numbers_bytes 4 fours) 2 (r.parent ∷ []) in
    let one = more (numbers 4 fours ++ numbers 2 (r.parent ∷ [])) two 1 ones in
    more (head r ++ numbers 2 r.slots) (more (head r) one 2 r.slots) 2 r.readings
  where
    more : (l : List ℕ) → Bytes l → (n : ℕ) (vs : List ℕ) → Bytes (l ++ numbers n vs)
    more l h n vs = append_bytes l (numbers n vs) h (numbers_bytes n vs)

pub bytes_of_bytes : (rows : List Record) → Bytes (bytes_of rows)
unfolding bytes_of
bytes_of_bytes [] = λ i. omega arith
bytes_of_bytes (r ∷ rs) = append_bytes (bytes_of_record r) (bytes_of rs) (record_bytes r) (bytes_of_bytes rs)

-- records to bytes and back
pub rows_back : (rows : List Record) → FittingRow rows → records_of (bytes_of rows) ≡ rows
unfolding record_of
rows_back rows fit =
    let l = bytes_of rows in
    let long : length (records_of l) ≡ length rows =
    records_length l ∙ are_in l (length rows) (bytes_of_length rows fit) in
    ext_get_or
    free
    (records_of l)
    rows
    long
    (λ s p.
    let b : s < length rows = omega arith in
    records_in_lem l s (omega (arith, records_length l))
    ∙ record_alike l (place_of s) (bytes_of_record (at rows s)) 0 (bytes_of_at rows s fit b)
    ∙ record_back (at rows s) (fit s b))

-- the records that bytes hold fit
pub row_fits : (l : List ℕ) → Bytes l → FittingRow (records_of l)
row_fits l h s p = rw (records_in_lem l s (omega (arith, records_length l))) (record_fits l s h)

-- bytes to records and back
pub bytes_back : (l : List ℕ) → Bytes l → WholeRecords l → bytes_of (records_of l) ≡ l
bytes_back l h whole =
    let fit = row_fits l h in
    let long = rw (records_length l) at (bytes_of_length (records_of l) fit) in
    bytes_same
    (bytes_of (records_of l))
    l
    (bytes_of_bytes (records_of l))
    h
    (are_long (bytes_of (records_of l)) l (records_in l) long (whole_are l whole))
    whole
    (rows_back (records_of l) fit)
