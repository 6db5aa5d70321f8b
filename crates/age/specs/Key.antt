-- Age order as the code takes it. A slot's key is its record's timestamp and then the slot, so keys in rising order are
-- slots oldest first (`by_age_oldest`: the paper's order), and a key tells its slot. Assumes nothing.
use Rattle.std.specs.Prelude.{ℕ, suc, ◌+◌, ◌*◌, ◌%◌, ◌≤◌, ◌<◌, ◌≡◌, Bool, ◌↔◌, length, get_or, drop}
use Rattle.std.proofs.Math.Path.{refl, ap}
use Rattle.std.proofs.Common.{sym, ap₂, ◌∙◌, arith, add-one, drop_of_length-le, drop-cons}
use Rattle.std.proofs.Math.Bool.{true, false, cond}
use mathlib.Core.List.Memᴰ.{head as first}
use mathlib.Core.List.Memᴰ.{tail as later}
use mathlib.Core.List.{List, [], ◌∷◌, map}
use Rattle.std.proofs.Math.Decide.{ℕ_discrete}
use Rattle.std.proofs.Math.Dec.{ltb}
use Rattle.std.proofs.lemmas.List.{length-map}
use Rattle.std.proofs.Math.ListN.{get_or-map}
use borrow.Author.Tests.{le-ltb, lt-ltb, ltb-true, ltb-false}
use Rattle.order.specs.Order.{in_order, put_among, times}
use Rattle.order.specs.InOrder.{
  times_nil,
  times_same,
  times_other,
  times_rest,
  times_of_member,
  member_of_times,
  in_order_times,
  in_order_of_member,
  member_of_in_order,
  in_order_length,
}
use Rattle.table.specs.Record.{Record}
use Rattle.table.specs.Table.{at}
use Rattle.tree.specs.Slots.{◌∈◌, Distinct, image_from, image_to, distinct_image}
use Rattle.age.specs.Age.{put_by_age, oldest_first, oldest_first_from, Ages, ages_first}

-- ---- keys

-- in a key the timestamp counts in steps of this many, more than there are slots; the source's SLOTS
abbrev pub slot_span : ℕ
slot_span = 65536

-- a slot's key: its record's age first
abbrev pub key_of : (ℕ → Record) → ℕ → ℕ
key_of R s = (R s).timestamp * slot_span + s

abbrev pub age_key : List Record → ℕ → ℕ
age_key rows s = key_of (at rows) s

-- the slot in a key
abbrev pub slot_in : ℕ → ℕ
slot_in k = k % slot_span

-- the slots ss by their keys
abbrev pub by_age : List Record → List ℕ → List ℕ
by_age rows ss = map slot_in (in_order (map (age_key rows) ss))

-- ---- the slots in keys, one by one

-- those in the keys from the i-th on
pub slots_next : (keys : List ℕ) (i : ℕ) → i < length keys
    → drop i (map slot_in keys) ≡ slot_in (get_or keys i 0) ∷ drop (i + 1) (map slot_in keys)
slots_next keys i h =
    drop-cons (map slot_in keys) i 0 (omega (arith, length-map keys slot_in))
    ∙ ap (λ (s : ℕ). s ∷ drop (suc i) (map slot_in keys)) (get_or-map slot_in keys i 0)
    ∙ ap (λ (j : ℕ). slot_in (get_or keys i 0) ∷ drop j (map slot_in keys)) (sym (add-one i))

pub slots_end : (keys : List ℕ) (i : ℕ) → length keys ≤ i → drop i (map slot_in keys) ≡ []
slots_end keys i h = drop_of_length-le (map slot_in keys) {i = i} (omega (arith, length-map keys slot_in))

-- ---- no key twice, by how often each stands

once_times : (l : List ℕ) → Distinct l → (x : ℕ) → times x l ≤ 1
once_times [] p x = omega (arith, times_nil x)
once_times (a ∷ l) p x = elim (ℕ_discrete x a) [
  | no ne ↦ omega (arith, times_other x a l ne, once_times l p.1 x)
  | yes e ↦ rw e (elim (ℕ_discrete (times a l) 0) [
    | yes z ↦ omega (arith, times_same a l)
    | no nz ↦ absurd (p.0 (member_of_times a l (omega arith)))
  ])
]

times_once : (l : List ℕ) → ((x : ℕ) → times x l ≤ 1) → Distinct l
times_once [] h = tt
times_once (a ∷ l) h = (
  λ i. omega (arith, h a, times_same a l, times_of_member i),
  times_once l (λ x. omega (arith, h x, times_rest x a l)),
)

pub in_order_distinct : (l : List ℕ) → Distinct l → Distinct (in_order l)
in_order_distinct l p = times_once (in_order l) (λ x. omega (arith, once_times l p x, in_order_times x l))

-- ---- a key below all others stays first

put_among_first : (x : ℕ) (l : List ℕ) → ((y : ℕ) → y ∈ l → x ≤ y) → put_among x l ≡ x ∷ l
unfolding put_among
put_among_first x [] h = refl
put_among_first x (y ∷ l) h =
    let e : ltb y x ≡ false = le-ltb y x (h y (first refl)) in
    ap (λ (t : Bool). cond t (y ∷ put_among x l) (x ∷ y ∷ l)) e

pub in_order_first : (x : ℕ) (l : List ℕ) → ((y : ℕ) → y ∈ l → x ≤ y) → in_order (x ∷ l) ≡ x ∷ in_order l
in_order_first x l h =
    unfold in_order in put_among_first x (in_order l) (λ y i. h y (member_of_in_order y l i))

-- ---- slots in age order are the same slots

module _ (rows : List Record) (ss : List ℕ) (within : (s : ℕ) → s ∈ ss → s < slot_span) where
  -- a key tells its slot
  pub key_slot : (s : ℕ) → s ∈ ss → slot_in (age_key rows s) ≡ s
  key_slot s i = omega (arith, within s i)

  key_from : (k : ℕ) → k ∈ in_order (map (age_key rows) ss) → (s : ℕ) × s ∈ ss × (k ≡ age_key rows s)
  key_from k i = image_from (age_key rows) k ss (member_of_in_order k (map (age_key rows) ss) i)

  pub by_age_iff : (s : ℕ) → s ∈ by_age rows ss ↔ s ∈ ss
  by_age_iff s = (
    λ i.
        let y = image_from slot_in s (in_order (map (age_key rows) ss)) i in
        let z = key_from y.0 y.1 in
        let e : s ≡ z.0 = y.2 ∙ ap slot_in z.2 ∙ key_slot z.0 z.1 in
        rw e z.1,
    λ i.
        let k = image_to (age_key rows) s ss i in
        rw (key_slot s i) at (image_to slot_in (age_key rows s) (in_order (map (age_key rows) ss))
        (in_order_of_member k)),
  )

  pub by_age_distinct : Distinct ss → Distinct (by_age rows ss)
  by_age_distinct distinct =
      distinct_image
      slot_in
      (in_order (map (age_key rows) ss))
      (λ a b i j e.
      let x = key_from a i in
      let y = key_from b j in
      let same : x.0 ≡ y.0 =
      sym (key_slot x.0 x.1) ∙ ap slot_in (sym x.2) ∙ e ∙ ap slot_in y.2 ∙ key_slot y.0 y.1 in
      x.2 ∙ ap (age_key rows) same ∙ sym y.2)
      (in_order_distinct
      (map (age_key rows) ss)
      (distinct_image
      (age_key rows)
      ss
      (λ a b i j e. sym (key_slot a i) ∙ ap slot_in e ∙ key_slot b j)
      distinct))

pub by_age_length : (rows : List Record) (ss : List ℕ) → length (by_age rows ss) ≡ length ss
by_age_length rows ss =
    length-map (in_order (map (age_key rows) ss)) slot_in
    ∙ in_order_length (map (age_key rows) ss)
    ∙ length-map ss (age_key rows)

-- ---- by keys is oldest first, where no two timestamps are equal

module _ (rows : List Record) where
  abbrev time : ℕ → ℕ
  time s = (at rows s).timestamp

  keys_put : (s : ℕ) (l : List ℕ) → s < slot_span → ((a : ℕ) → a ∈ l → a < slot_span)
      → ((a : ℕ) → a ∈ l → time a ≡ time s → ⊥)
      → put_among (age_key rows s) (map (age_key rows) l) ≡ map (age_key rows) (put_by_age time s l)
  unfolding put_among put_by_age
  keys_put s [] h within other = refl
  keys_put s (a ∷ l) h within other =
      go (ltb (time a) (time s)) refl
      (keys_put s l h (λ b i. within b (later i)) (λ b i. other b (later i)))
    where
      go : (t : Bool) → ltb (time a) (time s) ≡ t
          → put_among (age_key rows s) (map (age_key rows) l) ≡ map (age_key rows) (put_by_age time s l)
          → cond
          (ltb (age_key rows a) (age_key rows s))
          (age_key rows a ∷ put_among (age_key rows s) (map (age_key rows) l))
          (age_key rows s ∷ age_key rows a ∷ map (age_key rows) l)
          ≡ map (age_key rows) (cond t (a ∷ put_by_age time s l) (s ∷ a ∷ l))
      go true e rest =
          rw (lt-ltb (age_key rows a) (age_key rows s)
          (omega (arith, ltb-true (time a) (time s) e, within a (first refl))))
          (ap (age_key rows a ∷◌) rest)
      go false e rest = elim (ℕ_discrete (time a) (time s)) [
        | yes same ↦ absurd (other a (first refl) same)
        | no differ ↦
            rw (le-ltb (age_key rows a) (age_key rows s) (omega (arith, ltb-false (time a) (time s) e, differ, h)))
            refl
      ]

  keys_oldest : (ss : List ℕ) → ((s : ℕ) → s ∈ ss → s < slot_span) → Distinct ss → Ages time ss
      → in_order (map (age_key rows) ss) ≡ map (age_key rows) (oldest_first time ss)
  unfolding in_order oldest_first
  keys_oldest [] within once ages = refl
  keys_oldest (s ∷ ss) within once ages =
      ap (put_among (age_key rows s))
      (keys_oldest ss (λ a i. within a (later i)) once.1 (λ a b i j. ages a b (later i) (later j)))
      ∙ keys_put s (oldest_first time ss) (within s (first refl))
      (λ a i. within a (later (oldest_first_from time a ss i)))
      (λ a i. ages_first time s ss once ages a (oldest_first_from time a ss i))

  -- a key tells its slot, all along a list
  slots_back : (l : List ℕ) → ((s : ℕ) → s ∈ l → s < slot_span) → map slot_in (map (age_key rows) l) ≡ l
  slots_back [] within = refl
  slots_back (s ∷ l) within =
      ap₂ ◌∷◌ (key_slot rows (s ∷ l) within s (first refl)) (slots_back l (λ a i. within a (later i)))

  pub by_age_oldest : (ss : List ℕ) → ((s : ℕ) → s ∈ ss → s < slot_span) → Distinct ss → Ages time ss
      → by_age rows ss ≡ oldest_first time ss
  by_age_oldest ss within once ages =
      ap (map slot_in) (keys_oldest ss within once ages)
      ∙ slots_back (oldest_first time ss) (λ a i. within a (oldest_first_from time a ss i))
