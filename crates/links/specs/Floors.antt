-- "Child slots past the count are 65,535", told of four slots at once by one number. Assumes nothing.
use Rattle.std.specs.Prelude.{ℕ, zero, suc, ◌+◌, ◌-◌, ◌*◌, ◌^◌, ◌≤◌, ◌<◌, ◌≡◌, Bool, ◌&&◌, List, [], ◌∷◌, eqb, get_or}
use Rattle.std.proofs.Math.Path.{refl}
use Rattle.std.proofs.Common.{sym, ap, ◌∙◌, arith}
use Rattle.std.proofs.Math.Bool.{true, false}
use Rattle.std.proofs.Math.Dec.{leb}
use borrow.Author.Tests.{eq-eqb, eqb-true, le-leb, leb-true, leb-false}
use Rattle.refusals.specs.Limits.{most_children}
use Rattle.places.specs.Choice.{pick, and_left, and_right, and_both, same_test}
use Rattle.places.specs.Test.{all_at, at_all}
use Rattle.distance.specs.Signature.{word_of}
use Rattle.table.specs.Record.{Record, slot, no_slot}
use Rattle.judge.specs.WellFormed.{is_past, past_count}

-- ---- four parts of 16 bits

-- the least number of four parts, the first lowest, whose parts from part c on are 65,535
unfoldable pub floor_of : ℕ → ℕ
floor_of c = 2 ^ 64 - 65536 ^ c

-- by the count of children: the floor of the first four child slots, and of the last four
abbrev pub first_floors : List ℕ
first_floors =
    18446744073709551615
    ∷ 18446744073709486080
    ∷ 18446744069414584320
    ∷ 18446462598732840960
    ∷ 0
    ∷ 0
    ∷ 0
    ∷ 0
    ∷ 0
    ∷ []

abbrev pub last_floors : List ℕ
last_floors =
    18446744073709551615
    ∷ 18446744073709551615
    ∷ 18446744073709551615
    ∷ 18446744073709551615
    ∷ 18446744073709551615
    ∷ 18446744073709486080
    ∷ 18446744069414584320
    ∷ 18446462598732840960
    ∷ 0
    ∷ []

to_eight : (P : ℕ → Type 0) → P 0 → P 1 → P 2 → P 3 → P 4 → P 5 → P 6 → P 7 → P 8 → (c : ℕ) → c ≤ 8 → P c
to_eight P a b c d e f g h i zero l = a
to_eight P a b c d e f g h i (suc zero) l = b
to_eight P a b c d e f g h i (suc (suc zero)) l = c
to_eight P a b c d e f g h i (suc (suc (suc zero))) l = d
to_eight P a b c d e f g h i (suc (suc (suc (suc zero)))) l = e
to_eight P a b c d e f g h i (suc (suc (suc (suc (suc zero))))) l = f
to_eight P a b c d e f g h i (suc (suc (suc (suc (suc (suc zero)))))) l = g
to_eight P a b c d e f g h i (suc (suc (suc (suc (suc (suc (suc zero))))))) l = h
to_eight P a b c d e f g h i (suc (suc (suc (suc (suc (suc (suc (suc zero)))))))) l = i
to_eight P a b c d e f g h i (suc (suc (suc (suc (suc (suc (suc (suc (suc n))))))))) l = absurd (omega arith)

first_floor : (c : ℕ) → c ≤ most_children → get_or first_floors c 0 ≡ floor_of c
unfolding floor_of
first_floor =
    to_eight (λ c. get_or first_floors c 0 ≡ 2 ^ 64 - 65536 ^ c) refl refl refl refl refl refl refl refl refl

no_floor : (c : ℕ) → c ≤ most_children → 4 ≤ c → floor_of c ≡ 0
unfolding floor_of
no_floor =
    to_eight
    (λ c. 4 ≤ c → 2 ^ 64 - 65536 ^ c ≡ 0)
    (λ h. absurd (omega arith))
    (λ h. absurd (omega arith))
    (λ h. absurd (omega arith))
    (λ h. absurd (omega arith))
    (λ h. refl)
    (λ h. refl)
    (λ h. refl)
    (λ h. refl)
    (λ h. refl)

last_floor : (c : ℕ) → c ≤ most_children → get_or last_floors c 0 ≡ floor_of (c - 4)
unfolding floor_of
last_floor =
    to_eight (λ c. get_or last_floors c 0 ≡ 2 ^ 64 - 65536 ^ (c - 4)) refl refl refl refl refl refl refl refl refl

-- the number that has the parts p
abbrev four : (ℕ → ℕ) → ℕ
four p = p 0 + 65536 * p 1 + 4294967296 * p 2 + 281474976710656 * p 3

-- part i of p is 65,535 unless it is before part c
abbrev Full : (ℕ → ℕ) → ℕ → ℕ → Type 0
Full p c i = c ≤ i → p i ≡ 65535

each : (P : ℕ → Type 0) → P 0 → P 1 → P 2 → P 3 → (i : ℕ) → i < 4 → P i
each P a b c d zero h = a
each P a b c d (suc zero) h = b
each P a b c d (suc (suc zero)) h = c
each P a b c d (suc (suc (suc zero))) h = d
each P a b c d (suc (suc (suc (suc i)))) h = absurd (omega arith)

module _ (a b c d : ℕ) (fa : a < 65536) (fb : b < 65536) (fc : c < 65536) (fd : d < 65536) where
  abbrev whole : ℕ
  whole = a + 65536 * b + 4294967296 * c + 281474976710656 * d

  top_3 : 18446462598732840960 ≤ whole → d ≡ 65535
  top_3 h = omega arith

  top_2 : 18446744069414584320 ≤ whole → (c ≡ 65535) × (d ≡ 65535)
  top_2 h = (omega arith, omega arith)

  top_1 : 18446744073709486080 ≤ whole → (b ≡ 65535) × (c ≡ 65535) × (d ≡ 65535)
  top_1 h = (omega arith, omega arith, omega arith)

  top_0 : 18446744073709551615 ≤ whole → (a ≡ 65535) × (b ≡ 65535) × (c ≡ 65535) × (d ≡ 65535)
  top_0 h = (omega arith, omega arith, omega arith, omega arith)

module _ (p : ℕ → ℕ) (fit : (i : ℕ) → i < 4 → p i < 65536) where
  abbrev f0 : p 0 < 65536
  f0 = fit 0 (omega arith)

  abbrev f1 : p 1 < 65536
  f1 = fit 1 (omega arith)

  abbrev f2 : p 2 < 65536
  f2 = fit 2 (omega arith)

  abbrev f3 : p 3 < 65536
  f3 = fit 3 (omega arith)

  floor_full : (c : ℕ) → c ≤ most_children → floor_of c ≤ four p → (i : ℕ) → i < 4 → Full p c i
  floor_full zero b h =
      let t = top_0 (p 0) (p 1) (p 2) (p 3) f0 f1 f2 f3 (omega (arith, first_floor 0 (omega arith))) in
      each (Full p 0) (λ l. t.0) (λ l. t.1) (λ l. t.2) (λ l. t.3)
  floor_full (suc zero) b h =
      let t = top_1 (p 0) (p 1) (p 2) (p 3) f0 f1 f2 f3 (omega (arith, first_floor 1 (omega arith))) in
      each (Full p 1) (λ l. absurd (omega arith)) (λ l. t.0) (λ l. t.1) (λ l. t.2)
  floor_full (suc (suc zero)) b h =
      let t = top_2 (p 0) (p 1) (p 2) (p 3) f0 f1 f2 f3 (omega (arith, first_floor 2 (omega arith))) in
      each (Full p 2) (λ l. absurd (omega arith)) (λ l. absurd (omega arith)) (λ l. t.0) (λ l. t.1)
  floor_full (suc (suc (suc zero))) b h =
      let t = top_3 (p 0) (p 1) (p 2) (p 3) f0 f1 f2 f3 (omega (arith, first_floor 3 (omega arith))) in
      each (Full p 3) (λ l. absurd (omega arith)) (λ l. absurd (omega arith)) (λ l. absurd (omega arith)) (λ l. t)
  floor_full (suc (suc (suc (suc c)))) b h = λ i below l. absurd (omega arith)

  full_floor : (c : ℕ) → c ≤ most_children → ((i : ℕ) → i < 4 → Full p c i) → floor_of c ≤ four p
  full_floor zero b full =
      let e0 = full 0 (omega arith) (omega arith) in
      let e1 = full 1 (omega arith) (omega arith) in
      let e2 = full 2 (omega arith) (omega arith) in
      let e3 = full 3 (omega arith) (omega arith) in
      omega (arith, e0, e1, e2, e3, first_floor 0 (omega arith))
  full_floor (suc zero) b full =
      let e1 = full 1 (omega arith) (omega arith) in
      let e2 = full 2 (omega arith) (omega arith) in
      let e3 = full 3 (omega arith) (omega arith) in
      omega (arith, e1, e2, e3, first_floor 1 (omega arith))
  full_floor (suc (suc zero)) b full =
      let e2 = full 2 (omega arith) (omega arith) in
      let e3 = full 3 (omega arith) (omega arith) in
      omega (arith, e2, e3, first_floor 2 (omega arith))
  full_floor (suc (suc (suc zero))) b full =
      let e3 = full 3 (omega arith) (omega arith) in
      omega (arith, e3, first_floor 3 (omega arith))
  full_floor (suc (suc (suc (suc c)))) b full =
      omega (arith, no_floor (suc (suc (suc (suc c)))) b (omega arith))

-- ---- the child slots

module _ (r : Record) (fit : (i : ℕ) → i < most_children → slot r i < 65536) where
  abbrev Past : ℕ → Type 0
  Past i = r.count ≤ i → slot r i ≡ no_slot

  -- the test says of all eight what the statement does
  past_all : ((i : ℕ) → i < most_children → Past i) → past_count r ≡ true
  unfolding past_count
  past_all h = at_all most_children (is_past r) (λ i b. go i b (leb r.count i) refl)
    where
      go : (i : ℕ) → i < most_children → (t : Bool) → leb r.count i ≡ t → pick t (eqb (slot r i) no_slot) true ≡ true
      go i b true e = eq-eqb (slot r i) no_slot (h i b (leb-true r.count i e))
      go i b false e = refl

  all_past : past_count r ≡ true → (i : ℕ) → i < most_children → Past i
  unfolding past_count
  all_past h i b l =
      let on : leb r.count i ≡ true = le-leb r.count i l in
      eqb-true (slot r i) no_slot
      (sym (ap (λ (t : Bool). pick t (eqb (slot r i) no_slot) true) on) ∙ all_at most_children (is_past r) h i b)

  -- the last four slots
  abbrev last : ℕ → ℕ
  last i = slot r (i + 4)

  fit_first : (i : ℕ) → i < 4 → slot r i < 65536
  fit_first i b = fit i (omega arith)

  fit_last : (i : ℕ) → i < 4 → last i < 65536
  fit_last i b = fit (i + 4) (omega arith)

  first_word : word_of r.slots 0 ≡ four (slot r)
  unfolding word_of
  first_word = refl

  last_word : word_of r.slots 1 ≡ four last
  unfolding word_of
  last_word = refl

  -- a slot is one of the first four or one of the last
  halves :
      ((i : ℕ) → i < 4 → Past i)
      → ((i : ℕ) → i < 4 → Full last (r.count - 4) i)
      → (i : ℕ) → i < most_children → Past i
  halves f l i b = go (leb 4 i) refl
    where
      go : (t : Bool) → leb 4 i ≡ t → Past i
      go true e = λ past.
          let from : 4 ≤ i = leb-true 4 i e in
          let same : i ≡ i - 4 + 4 = omega arith in
          ap (slot r) same ∙ l (i - 4) (omega arith) (omega arith)
      go false e = f i (leb-false 4 i e)

  -- what the code finds
  pub past_told :
      r.count ≤ most_children
      → leb (get_or first_floors r.count 0) (word_of r.slots 0)
      && leb (get_or last_floors r.count 0) (word_of r.slots 1)
      ≡ past_count r
  past_told few =
      let firsts = leb (floor_of r.count) (word_of r.slots 0) in
      let lasts = leb (floor_of (r.count - 4)) (word_of r.slots 1) in
      (λ i.
      leb (first_floor r.count few i) (word_of r.slots 0)
      && leb (last_floor r.count few i) (word_of r.slots 1))
      ∙ same_test
      (firsts && lasts)
      (past_count r)
      (λ h.
      let one = leb-true (floor_of r.count) (word_of r.slots 0) (and_left firsts lasts h) in
      let two = leb-true (floor_of (r.count - 4)) (word_of r.slots 1) (and_right firsts lasts h) in
      past_all
      (halves
      (floor_full (slot r) fit_first r.count few (rw first_word at one))
      (floor_full last fit_last (r.count - 4) (omega arith) (rw last_word at two))))
      (λ h.
      let past = all_past h in
      and_both firsts lasts
      (le-leb (floor_of r.count) (word_of r.slots 0)
      (rw first_word (full_floor (slot r) fit_first r.count few (λ i b. past i (omega arith)))))
      (le-leb (floor_of (r.count - 4)) (word_of r.slots 1)
      (rw last_word
      (full_floor last fit_last (r.count - 4) (omega arith)
      (λ i b l. past (i + 4) (omega arith) (omega arith))))))
