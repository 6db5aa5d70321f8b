-- What a change of one record is, and when a change of bytes is one.
-- The key idea: a write changes a run of bytes inside one record. So every other record is as it was, and so is each
-- field of the same record that stands apart from the run; both are shown once, over the run's place and width.
-- Assumes nothing.
use Rattle.std.specs.Prelude.{ℕ, ◌+◌, ◌≤◌, ◌<◌, ◌≡◌, refl, Bool, true, ◌||◌, List, leb, get_or, set, length}
use Rattle.std.proofs.Common.{ap, ◌∙◌, arith, length-set, ext_get_or, get_or-set_other, set-set, leb-true}
use Rattle.std.proofs.Math.Path.{sym}
use Rattle.std.proofs.Math.Seq.{get_or-set_same}
use Rattle.std.proofs.lemmas.List.{set-get_or}
use Rattle.std.proofs.lemmas.Bool.{lt-leb}
use Rattle.number.specs.Frame.{Bytes, Outside}
use Rattle.table.specs.Record.{Record, free, record_length, place_of, record_at, record_of}
use Rattle.table.specs.Table.{records_of, records_in, at}
use Rattle.places.specs.Cases.{below_or, equal_or}
use Rattle.table.specs.Span.{Alike}
use Rattle.table.specs.Place.{places_apart}
use Rattle.table.specs.Stands.{Stands, in_stands, in_same}
use Rattle.table.specs.Fields.{mixed, fields_alike, record_alike}
use Rattle.table.specs.Records.{records_length, records_in_lem}

-- ---- one record is changed

-- m is l with the record in slot s made r, and nothing else
pub record Became (l : List ℕ) (s : ℕ) (r : Record) (m : List ℕ) : Type 0 where
  pub same_length : length m ≡ length l
  pub bytes : Bytes l → Bytes m
  pub here : record_of m s ≡ r
  pub elsewhere : (a : ℕ) → (a ≡ s → ⊥) → record_of m a ≡ record_of l a
  pub records : records_of m ≡ set (records_of l) s r

-- the rows, where r comes of the record that stood there
pub records_with :
    {l m : List ℕ} {s : ℕ} (f : Record → Record)
    → Became l s (f (record_of l s)) m
    → s < records_in l
    → records_of m ≡ set (records_of l) s (f (at (records_of l) s))
records_with {l} {m} {s} f b h =
    b.records ∙ ap (λ (r : Record). set (records_of l) s (f r)) (sym (records_in_lem l s h))

-- the same change, in other words
pub became_by : {l m k : List ℕ} {s : ℕ} {r q : Record} → Became l s r m → r ≡ q → k ≡ m → Became l s q k
became_by b e f = rw (f, ← e) b

-- no change
pub became_none : (l : List ℕ) (s : ℕ) → Stands l s → Became l s (record_of l s) l
became_none l s h =
    record {
      same_length = refl;
      bytes = λ b. b;
      here = refl;
      elsewhere = λ a ne. refl;
      records =
          sym (set-get_or (records_of l) s free)
          ∙ ap (λ (r : Record). set (records_of l) s r) (records_in_lem l s (in_stands l s h));
    }

-- one write after another in the same slot
pub became_then :
    {l m k : List ℕ} {s : ℕ} {r q : Record} → Became l s r m → Became m s q k → Became l s q k
became_then {l} {m} {k} {s} {r} {q} b d =
    record {
      same_length = d.same_length ∙ b.same_length;
      bytes = λ h. d.bytes (b.bytes h);
      here = d.here;
      elsewhere = λ a ne. d.elsewhere a ne ∙ b.elsewhere a ne;
      records = d.records ∙ ap (λ (rows : List Record). set rows s q) b.records ∙ set-set (records_of l) s r q;
    }

-- and one that makes f of the record
pub then_with :
    {l m k : List ℕ} {s : ℕ} {r : Record} (f : Record → Record)
    → Became l s r m
    → Became m s (f (record_of m s)) k
    → Became l s (f r) k
then_with f b d = became_then b (became_by d (ap f b.here) refl)

-- ---- a run of bytes is changed

-- m is l but for n bytes of the record that starts at b, from its byte o on
pub record Within (b o n : ℕ) (l m : List ℕ) : Type 0 where
  pub same_length : length m ≡ length l
  pub outside : (i : ℕ) → Outside (b + o) n i → get_or m i 0 ≡ get_or l i 0

-- the n bytes from o on and the k bytes from p on have none in common
abbrev pub apart : ℕ → ℕ → ℕ → ℕ → Bool
apart o n p k = leb (o + n) p || leb (p + k) o

apart_places : (o n p k : ℕ) → apart o n p k ≡ true → (i j : ℕ) → i < n → j < k → p + j ≡ o + i → ⊥
apart_places o n p k t i j hi hj e =
    below_or p (o + n) (λ b. low (rw (lt-leb (o + n) p b) at t)) (λ b. omega arith)
  where
    low : leb (p + k) o ≡ true → ⊥
    low q = omega (arith, leb-true (p + k) o q)

-- in the record itself, the fields that stand apart from the run are as they were
pub changed : {b o n : ℕ} {l m : List ℕ} → Within b o n l m → record_at m b ≡ mixed (apart o n) m b l b
changed {b} {o} {n} {l} {m} w = fields_alike (apart o n) m b l b alike
  where
    alike : (p k : ℕ) → apart o n p k ≡ true → Alike k m (b + p) l (b + p)
    alike p k t j q = w.outside (b + p + j) (λ i r e. apart_places o n p k t i j r q (omega arith))

module _ {s o n : ℕ} {l m : List ℕ} (w : Within (place_of s) o n l m) (inside : o + n ≤ record_length) where
  -- every other record is as it was
  other_record : (a : ℕ) → (a ≡ s → ⊥) → record_of m a ≡ record_of l a
  unfolding record_of
  other_record a ne =
      record_alike m (place_of a) l (place_of a)
      (λ j p. w.outside (place_of a + j) (λ i q e. places_apart a s ne (o + i) j (omega arith) p (omega arith)))

  -- the whole law, from the record that the slot then holds
  pub became : {r : Record} → Stands l s → (Bytes l → Bytes m) → record_at m (place_of s) ≡ r → Became l s r m
  unfolding record_of
  became {r} stands bytes here =
      record {
        same_length = w.same_length;
        bytes = bytes;
        here = here;
        elsewhere = other_record;
        records = rows;
      }
    where
      one : (a : ℕ) → a < records_in l → at (records_of m) a ≡ at (set (records_of l) s r) a
      one a p =
          let in-m : a < records_in m = omega (arith, in_same l m w.same_length) in
          records_in_lem m a in-m
          ∙ equal_or
          a
          s
          (λ e.
          let row = get_or-set_same (records_of l) s r free (omega (arith, records_length l, in_stands l s stands)) in
          rw e (here ∙ sym row))
          (λ ne. other_record a ne ∙ sym (records_in_lem l a p) ∙ sym (get_or-set_other (records_of l) s a r free ne))

      rows : records_of m ≡ set (records_of l) s r
      rows =
          let long = records_length m ∙ in_same l m w.same_length in
          ext_get_or
          free
          (records_of m)
          (set (records_of l) s r)
          (long ∙ sym (records_length l) ∙ sym (length-set (records_of l) s r))
          (λ a p. one a (omega arith))
