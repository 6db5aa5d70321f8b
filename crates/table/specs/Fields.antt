-- The bytes of a record and the record that they hold say the same: each fixes the other. All is over the place of the
-- record's first byte; a field is a run of bytes, k of them from byte p of the record on, and `mixed` lists these runs.
-- Past the end of a list every byte reads as 0, so the empty list holds a free record. Assumes nothing.
use Rattle.std.specs.Prelude.{ℕ, ◌+◌, ◌*◌, ◌/◌, ◌%◌, ◌<◌, ◌≡◌, refl, Bool, true, false, List, [], leb, get_or, length}
use Rattle.std.proofs.Common.{ap, sym, ◌∙◌, arith, add-zero, ext_get_or, leb-true}
use Rattle.places.specs.Choice.{pick}
use Rattle.places.specs.Row.{row_to, row_at, row_same, row_length}
use Rattle.number.specs.Number.{number_at}
use Rattle.number.specs.Frame.{Bytes}
use Rattle.distance.specs.Signature.{readings_at, reading_at, readings_length}
use Rattle.refusals.specs.Limits.{most_children, signature_length}
use Rattle.table.specs.Record.{
  Record,
  free,
  slot,
  record_length,
  timestamp_at,
  radius_at,
  parent_at,
  count_at,
  kind_at,
  slots_at,
  signature_at,
  slots_in,
  record_at,
}
use Rattle.table.specs.Span.{Alike, alike_within, alike_more, alike_row, number_alike, alike_number}

-- ---- the rows of a record

-- child slot i stands in two bytes of its own
pub slot_in : (l : List ℕ) (b i : ℕ) → i < most_children → slot (record_at l b) i ≡ number_at 2 l (slots_at b + 2 * i)
unfolding record_at
slot_in l b i h = row_at most_children (λ (k : ℕ). number_at 2 l (slots_at b + 2 * k)) 0 i h

-- there are eight
pub slots_eight : (l : List ℕ) (b : ℕ) → length (record_at l b).slots ≡ most_children
unfolding record_at
slots_eight l b = row_length most_children (λ (i : ℕ). number_at 2 l (slots_at b + 2 * i))

-- reading i too
pub reading_in :
    (l : List ℕ) (b i : ℕ) → i < 16 → get_or (record_at l b).readings i 0 ≡ number_at 2 l (signature_at b + 2 * i)
unfolding record_at
reading_in l b i h = reading_at l (signature_at b) i h

-- there are sixteen
pub readings_sixteen : (l : List ℕ) (b : ℕ) → length (record_at l b).readings ≡ 16
unfolding record_at
readings_sixteen l b = readings_length l (signature_at b)

-- equal bytes make equal rows
slots_alike :
    (m : List ℕ) (a : ℕ) (l : List ℕ) (b : ℕ) → Alike 16 m (slots_at a) l (slots_at b) → slots_in m a ≡ slots_in l b
slots_alike m a l b same =
    row_same
    most_children
    (λ (i : ℕ). number_at 2 m (slots_at a + 2 * i))
    (λ (i : ℕ). number_at 2 l (slots_at b + 2 * i))
    (λ i p.
    number_alike 2 m (slots_at a + 2 * i) l (slots_at b + 2 * i)
    (alike_within 16 2 (2 * i) m (slots_at a) l (slots_at b) (omega arith) same))

readings_alike :
    (m : List ℕ) (a : ℕ) (l : List ℕ) (b : ℕ) → Alike signature_length m a l b → readings_at m a ≡ readings_at l b
readings_alike m a l b same =
    ext_get_or
    0
    (readings_at m a)
    (readings_at l b)
    (readings_length m a ∙ sym (readings_length l b))
    (λ i p.
    let h : i < 16 = omega (arith, readings_length m a) in
    reading_at m a i h
    ∙ number_alike 2 m (a + 2 * i) l (b + 2 * i)
    (alike_within signature_length 2 (2 * i) m a l b (omega arith) same)
    ∙ sym (reading_at l b i h))

-- ---- equal bytes make equal fields

-- the record that is read at a of m, but for the fields whose runs are marked: these are read at b of l
abbrev pub mixed : (ℕ → ℕ → Bool) → List ℕ → ℕ → List ℕ → ℕ → Record
mixed marked m a l b =
    record {
      card = pick (marked 0 4) (number_at 4 l b) (number_at 4 m a);
      timestamp = pick (marked 4 4) (number_at 4 l (timestamp_at b)) (number_at 4 m (timestamp_at a));
      radius = pick (marked 8 4) (number_at 4 l (radius_at b)) (number_at 4 m (radius_at a));
      parent = pick (marked 12 2) (number_at 2 l (parent_at b)) (number_at 2 m (parent_at a));
      count = pick (marked 14 1) (get_or l (count_at b) 0) (get_or m (count_at a) 0);
      kind = pick (marked 15 1) (get_or l (kind_at b) 0) (get_or m (kind_at a) 0);
      slots = pick (marked 16 16) (slots_in l b) (slots_in m a);
      readings = pick (marked 32 32) (readings_at l (signature_at b)) (readings_at m (signature_at a));
    }

chosen : {A : Type 0} {x y : A} (marked : Bool) → (marked ≡ true → x ≡ y) → x ≡ pick marked y x
chosen true same = same refl
chosen false same = refl

-- where the marked runs are alike, this is the record itself
module _ (marked : ℕ → ℕ → Bool) (m : List ℕ) (a : ℕ) (l : List ℕ) (b : ℕ)
    (alike : (p k : ℕ) → marked p k ≡ true → Alike k m (a + p) l (b + p)) where
  number : (p w : ℕ) → marked p w ≡ true → number_at w m (a + p) ≡ number_at w l (b + p)
  number p w t = number_alike w m (a + p) l (b + p) (alike p w t)

  card : marked 0 4 ≡ true → number_at 4 m a ≡ number_at 4 l b
  card t = simp add-zero at (number 0 4 t)

  byte : (p : ℕ) → marked p 1 ≡ true → get_or m (a + p) 0 ≡ get_or l (b + p) 0
  byte p t = simp add-zero at (alike p 1 t 0 (omega arith))

  pub fields_alike : record_at m a ≡ mixed marked m a l b
  unfolding record_at
  fields_alike = λ i.
      record {
        card = chosen (marked 0 4) card i;
        timestamp = chosen (marked 4 4) (number 4 4) i;
        radius = chosen (marked 8 4) (number 8 4) i;
        parent = chosen (marked 12 2) (number 12 2) i;
        count = chosen (marked 14 1) (byte 14) i;
        kind = chosen (marked 15 1) (byte 15) i;
        slots = chosen (marked 16 16) (λ t. slots_alike m a l b (alike 16 16 t)) i;
        readings =
            chosen (marked 32 32) (λ t. readings_alike m (signature_at a) l (signature_at b) (alike 32 32 t)) i;
      }

-- so records of equal bytes are equal
pub record_alike :
    (m : List ℕ) (a : ℕ) (l : List ℕ) (b : ℕ) → Alike record_length m a l b → record_at m a ≡ record_at l b
unfolding record_at
record_alike m a l b same =
    fields_alike (λ p k. leb (p + k) record_length) m a l b
    (λ p k t. alike_within record_length k p m a l b (leb-true (p + k) record_length t) same)

-- ---- equal records come of equal bytes

byte_number : (l : List ℕ) (at : ℕ) → number_at 1 l at ≡ get_or l at 0
unfolding number_at
byte_number l at = omega arith

module _ (m : List ℕ) (a : ℕ) (l : List ℕ) (b : ℕ) (hm : Bytes m) (hl : Bytes l) (e : record_at m a ≡ record_at l b)
  where
    more : (k w : ℕ) → Alike k m a l b → number_at w m (a + k) ≡ number_at w l (b + k) → Alike (k + w) m a l b
    more = alike_more m a l b hm hl

    as_number : (k : ℕ) → get_or m (a + k) 0 ≡ get_or l (b + k) 0 → number_at 1 m (a + k) ≡ number_at 1 l (b + k)
    as_number k q = byte_number m (a + k) ∙ q ∙ sym (byte_number l (b + k))

    -- bytes 0 to 15, field after field
    alike_head : Alike 16 m a l b
    unfolding record_at
    alike_head =
        let card = alike_number 4 m a l b hm hl (ap (λ (r : Record). r.card) e) in
        let timestamp = more 4 4 card (ap (λ (r : Record). r.timestamp) e) in
        let radius = more 8 4 timestamp (ap (λ (r : Record). r.radius) e) in
        let parent = more 12 2 radius (ap (λ (r : Record). r.parent) e) in
        let count = more 14 1 parent (as_number 14 (ap (λ (r : Record). r.count) e)) in
        more 15 1 count (as_number 15 (ap (λ (r : Record). r.kind) e))

    pub alike_record : Alike record_length m a l b
    alike_record =
        let slots =
        alike_row m a l b hm hl 16 most_children alike_head
        (λ i p. sym (slot_in m a i p) ∙ ap (λ (r : Record). slot r i) e ∙ slot_in l b i p) in
        alike_row m a l b hm hl 32 16 slots
        (λ i p. sym (reading_in m a i p) ∙ ap (λ (r : Record). get_or r.readings i 0) e ∙ reading_in l b i p)

-- ---- free records

-- the record past the end of all bytes is free
none_free : record_at [] 0 ≡ free
unfolding record_at number_at readings_at row_to
none_free = refl

-- 64 zero bytes hold a free record
pub zeros_free : (l : List ℕ) (b : ℕ) → ((j : ℕ) → j < record_length → get_or l (b + j) 0 ≡ 0) → record_at l b ≡ free
zeros_free l b zeros = record_alike l b [] 0 (λ j p. zeros j p) ∙ none_free

-- a free record is 64 zero bytes
pub free_zeros :
    (l : List ℕ) (b : ℕ) → Bytes l → record_at l b ≡ free → (j : ℕ) → j < record_length → get_or l (b + j) 0 ≡ 0
free_zeros l b h e = alike_record l b [] 0 h (λ i. omega arith) (e ∙ sym none_free)

-- ---- a record's words

-- the first n words of eight bytes are zero
abbrev pub ZeroWords : List ℕ → ℕ → ℕ → Type 0
ZeroWords l b n = (k : ℕ) → k < n → number_at 8 l (b + 8 * k) ≡ 0

none_zero : number_at 8 [] 0 ≡ 0
unfolding number_at
none_zero = refl

-- a record is free exactly if its eight words are zero
pub words_free : (l : List ℕ) (b : ℕ) → Bytes l → ZeroWords l b 8 → record_at l b ≡ free
words_free l b h zeros =
    zeros_free
    l
    b
    (λ j p.
    let k = j / 8 in
    let place : b + j ≡ b + 8 * k + j % 8 = omega arith in
    let zero_word = zeros k (omega arith) ∙ sym none_zero in
    ap (λ (i : ℕ). get_or l i 0) place
    ∙ alike_number 8 l (b + 8 * k) [] 0 h (λ i. omega arith) zero_word (j % 8) (omega arith))

pub free_words : (l : List ℕ) (b : ℕ) → Bytes l → record_at l b ≡ free → ZeroWords l b 8
free_words l b h e k p =
    number_alike
    8
    l
    (b + 8 * k)
    []
    0
    (λ j q.
    let place : b + 8 * k + j ≡ b + (8 * k + j) = omega arith in
    ap (λ (i : ℕ). get_or l i 0) place ∙ free_zeros l b h e (8 * k + j) (omega arith))
    ∙ none_zero
