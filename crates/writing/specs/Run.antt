-- The runs of bytes that a write changes, apart from any record: a number, a byte, the readings of a signature, zeros.
-- Each keeps the length, leaves the bytes outside, keeps all elements bytes, and is read back. Assumes nothing.
use Prim.Native.Nat.{ℕ, zero, suc, ◌+◌, ◌-◌, ◌*◌, ◌≤◌, ◌<◌}
use Rattle.std.proofs.Common.{add-one, ap, ap₂, sym, ◌∙◌, arith, ext_get_or, get_or-set_same}
use Rattle.std.specs.Prelude.{◌≡◌, get_or, length, replicate}
use Rattle.std.proofs.Math.Path.{refl}
use mathlib.Core.List.{List}
use Rattle.std.proofs.Math.ListN.{set, length-set}
use Rattle.std.proofs.lemmas.List.{length-replicate, get_or-replicate}
use Rattle.std.proofs.Math.Seq.{get_or-set_other, set_out, paste, paste-zero, paste-suc}
use Rattle.number.specs.Number.{number_at, with_number}
use Rattle.number.specs.Frame.{Bytes, Outside, digits_bytes}
use Rattle.number.specs.Frame.{with_length, with_outside, with_inside, number_with, number_other}
use Rattle.distance.specs.Signature.{Fit, readings_at, reading_at, readings_length}
use Rattle.places.specs.Cases.{below_or, equal_or}
use Rattle.writing.specs.Put.{put_readings, zeroed}

-- ---- a number, and a byte

pub number_bytes : (n : ℕ) (l : List ℕ) (at v : ℕ) → at + n ≤ length l → Bytes l → Bytes (with_number n l at v)
number_bytes n l at v h bytes i =
    below_or
    i
    at
    (λ p. rw (with_outside n l at v i (λ j q e. omega arith)) (bytes i))
    (λ p.
    below_or
    i
    (at + n)
    (λ q.
    let e : i ≡ at + (i - at) = omega arith in
    rw e (rw (with_inside n l at v h (i - at) (omega arith)) (digits_bytes n v (i - at))))
    (λ q. rw (with_outside n l at v i (λ j r e. omega arith)) (bytes i)))

pub byte_bytes : (l : List ℕ) (at v : ℕ) → v < 256 → Bytes l → Bytes (set l at v)
byte_bytes l at v h bytes i =
    equal_or
    i
    at
    (λ e.
    below_or
    i
    (length l)
    (λ p. rw (e, get_or-set_same l at v 0 (omega arith)) h)
    (λ p. rw (set_out l at v (omega arith)) (bytes i)))
    (λ ne. rw (get_or-set_other l at i v 0 ne) (bytes i))

-- ---- the readings of a signature

module _ (l : List ℕ) (at : ℕ) (vs : List ℕ) where
  -- one turn of a loop that writes them
  pub readings_more :
      (n : ℕ) (t : List ℕ) (v : ℕ)
      → t ≡ put_readings n l at vs
      → v ≡ get_or vs n 0
      → with_number 2 t (at + 2 * n) v ≡ put_readings (n + 1) l at vs
  unfolding put_readings
  readings_more n t v e ev = rw (add-one n) (ap₂ (λ (m : List ℕ) (x : ℕ). with_number 2 m (at + 2 * n) x) e ev)

  pub readings_same_length : (n : ℕ) → length (put_readings n l at vs) ≡ length l
  unfolding put_readings
  readings_same_length zero = refl
  readings_same_length (suc n) =
      with_length 2 (put_readings n l at vs) (at + 2 * n) (get_or vs n 0) ∙ readings_same_length n

  pub readings_outside :
      (n i : ℕ) → Outside at (2 * n) i → get_or (put_readings n l at vs) i 0 ≡ get_or l i 0
  unfolding put_readings
  readings_outside zero i out = refl
  readings_outside (suc n) i out =
      with_outside
      2
      (put_readings n l at vs)
      (at + 2 * n)
      (get_or vs n 0)
      i
      (λ j p e. out (2 * n + j) (omega arith) (omega arith))
      ∙ readings_outside n i (λ j p e. out j (omega arith) e)

  pub readings_bytes : (n : ℕ) → at + 2 * n ≤ length l → Bytes l → Bytes (put_readings n l at vs)
  unfolding put_readings
  readings_bytes zero h bytes = bytes
  readings_bytes (suc n) h bytes =
      number_bytes
      2
      (put_readings n l at vs)
      (at + 2 * n)
      (get_or vs n 0)
      (omega (arith, readings_same_length n))
      (readings_bytes n (omega arith) bytes)

  reading_put :
      (n : ℕ)
      → Fit vs
      → at + 2 * n ≤ length l
      → (i : ℕ)
      → i < n
      → number_at 2 (put_readings n l at vs) (at + 2 * i) ≡ get_or vs i 0
  unfolding put_readings
  reading_put zero fit h i p = absurd (omega arith)
  reading_put (suc n) fit h i p =
      equal_or
      i
      n
      (λ e.
      rw e (number_with
      2
      (put_readings n l at vs)
      (at + 2 * n)
      (get_or vs n 0)
      (fit n)
      (omega (arith, readings_same_length n))))
      (λ ne.
      number_other
      2
      2
      (put_readings n l at vs)
      (at + 2 * n)
      (at + 2 * i)
      (get_or vs n 0)
      (λ x y q r e. ne (omega arith))
      ∙ reading_put n fit (omega arith) i (omega arith))

  pub readings_put :
      length vs ≡ 16 → Fit vs → at + 32 ≤ length l → readings_at (put_readings 16 l at vs) at ≡ vs
  readings_put n fit h =
      ext_get_or
      0
      (readings_at (put_readings 16 l at vs) at)
      vs
      (readings_length (put_readings 16 l at vs) at ∙ sym n)
      (λ i p.
      let b : i < 16 = omega (arith, readings_length (put_readings 16 l at vs) at) in
      reading_at (put_readings 16 l at vs) at i b ∙ reading_put 16 fit (omega arith) i b)

-- ---- a run of zeros

module _ (l : List ℕ) (at : ℕ) where
  -- one turn of a loop that writes them
  pub zeroed_more : (n : ℕ) (t : List ℕ) → t ≡ zeroed n l at → set t (at + n) 0 ≡ zeroed (n + 1) l at
  unfolding zeroed
  zeroed_more n t e = rw (add-one n) (ap (λ (m : List ℕ). set m (at + n) 0) e)

  pub zeroed_length : (n : ℕ) → length (zeroed n l at) ≡ length l
  unfolding zeroed
  zeroed_length zero = refl
  zeroed_length (suc n) = length-set (zeroed n l at) (at + n) 0 ∙ zeroed_length n

  pub zeroed_outside : (n i : ℕ) → Outside at n i → get_or (zeroed n l at) i 0 ≡ get_or l i 0
  unfolding zeroed
  zeroed_outside zero i out = refl
  zeroed_outside (suc n) i out =
      get_or-set_other (zeroed n l at) (at + n) i 0 0 (λ e. out n (omega arith) e)
      ∙ zeroed_outside n i (λ j p e. out j (omega arith) e)

  pub zeroed_bytes : (n : ℕ) → Bytes l → Bytes (zeroed n l at)
  unfolding zeroed
  zeroed_bytes zero bytes = bytes
  zeroed_bytes (suc n) bytes = byte_bytes (zeroed n l at) (at + n) 0 (omega arith) (zeroed_bytes n bytes)

  pub zeroed_at : (n : ℕ) → at + n ≤ length l → (j : ℕ) → j < n → get_or (zeroed n l at) (at + j) 0 ≡ 0
  unfolding zeroed
  zeroed_at zero h j p = absurd (omega arith)
  zeroed_at (suc n) h j p =
      equal_or
      j
      n
      (λ e. rw e (get_or-set_same (zeroed n l at) (at + n) 0 0 (omega (arith, zeroed_length n))))
      (λ ne.
      get_or-set_other (zeroed n l at) (at + n) (at + j) 0 0 (λ e. ne (omega arith))
      ∙ zeroed_at n (omega arith) j (omega arith))

  -- the first k of n zeros put in from `at` on are k zeros written one by one
  zeros_pasted : (n k : ℕ) → at + n ≤ length l → k ≤ n → paste l at (replicate n 0) k ≡ zeroed k l at
  unfolding zeroed
  zeros_pasted n zero h p = sym (paste-zero l at (replicate n 0))
  zeros_pasted n (suc k) h p =
      let zeros : List ℕ = replicate n 0 in
      let here : get_or zeros k 0 ≡ 0 = get_or-replicate n k 0 0 (omega arith) in
      let long : length zeros ≡ n = length-replicate n 0 in
      let room : at + k < length l = omega arith in
      let within : k < length zeros = omega arith in
      let turn = rw here at (paste-suc l at zeros k 0 room within) in
      sym turn ∙ ap (λ (m : List ℕ). set m (at + k) 0) (zeros_pasted n k h (omega arith))

  -- so a run filled with zeros is the bytes made zero one by one
  pub zeroed_at_once : (n : ℕ) → at + n ≤ length l → paste l at (replicate n 0) n ≡ zeroed n l at
  zeroed_at_once n h = zeros_pasted n n h (omega arith)

-- a table all of whose bytes are made zero
pub zeroed_all : (l : List ℕ) → zeroed (length l) l 0 ≡ replicate (length l) 0
zeroed_all l =
    ext_get_or
    0
    (zeroed (length l) l 0)
    (replicate (length l) 0)
    (zeroed_length l 0 (length l) ∙ sym (length-replicate (length l) 0))
    (λ i p.
    let b : i < length l = omega (arith, zeroed_length l 0 (length l)) in
    let e : i ≡ 0 + i = omega arith in
    ap (λ (k : ℕ). get_or (zeroed (length l) l 0) k 0) e
    ∙ zeroed_at l 0 (length l) (omega arith) i b
    ∙ sym (get_or-replicate (length l) i 0 0 b))
