-- "oldest first by their old timestamps": slots in age order, and that their timestamps rise. Assumes nothing.
use Rattle.std.specs.Prelude.{ℕ, ◌<◌, ◌≡◌, Bool, ◌⊎◌, ltb}
use Rattle.std.proofs.Math.Path.{refl}
use Rattle.std.proofs.Math.Bool.{true, false, cond}
use Rattle.std.proofs.Math.Logic.{inl, inr}
use mathlib.Core.List.Memᴰ
use mathlib.Core.List.Memᴰ.{head as first}
use mathlib.Core.List.Memᴰ.{tail as later}
use mathlib.Core.List.{List, [], ◌∷◌}
use Rattle.std.proofs.Common.{arith, ltb-true, ltb-false}
use Rattle.std.proofs.Math.Decide.{dec_le}
use Rattle.places.specs.Cases.{either}
use Rattle.tree.specs.Slots.{◌∈◌, Distinct}
use Rattle.tree.specs.View.{Rising}

-- slot s put before the first of these that is not older
unfoldable pub put_by_age : (ℕ → ℕ) → ℕ → List ℕ → List ℕ
put_by_age timestamp s [] = s ∷ []
put_by_age timestamp s (a ∷ l) = cond (ltb (timestamp a) (timestamp s)) (a ∷ put_by_age timestamp s l) (s ∷ a ∷ l)

-- the slots ss, oldest first: the first is put among the others, oldest first
unfoldable pub oldest_first : (ℕ → ℕ) → List ℕ → List ℕ
oldest_first timestamp [] = []
oldest_first timestamp (s ∷ ss) = put_by_age timestamp s (oldest_first timestamp ss)

-- ---- no other slots

module _ (timestamp : ℕ → ℕ) where
  put_by_age_from : (s x : ℕ) (l : List ℕ) → x ∈ put_by_age timestamp s l → (x ≡ s) ⊎ (x ∈ l)
  unfolding put_by_age
  put_by_age_from s x [] (first e) = inl e
  put_by_age_from s x [] (later i) = absurd (Memᴰ.not-nil i)
  put_by_age_from s x (a ∷ l) i = go (ltb (timestamp a) (timestamp s)) (put_by_age_from s x l) i
    where
      go : (t : Bool) → (x ∈ put_by_age timestamp s l → (x ≡ s) ⊎ (x ∈ l))
          → x ∈ cond t (a ∷ put_by_age timestamp s l) (s ∷ a ∷ l) → (x ≡ s) ⊎ (x ∈ (a ∷ l))
      go true f (first e) = inr (first e)
      go true f (later j) = either (f j) inl (λ k. inr (later k))
      go false f (first e) = inl e
      go false f (later j) = inr j

  pub oldest_first_from : (x : ℕ) (ss : List ℕ) → x ∈ oldest_first timestamp ss → x ∈ ss
  unfolding oldest_first
  oldest_first_from x [] i = i
  oldest_first_from x (s ∷ ss) i =
      either (put_by_age_from s x (oldest_first timestamp ss) i) first (λ j. later (oldest_first_from x ss j))

  -- ---- timestamps that differ rise

  -- no two of these slots have one timestamp
  abbrev pub Ages : List ℕ → Type 0
  Ages ss = (a b : ℕ) → a ∈ ss → b ∈ ss → timestamp a ≡ timestamp b → a ≡ b

  -- the first of them has not the timestamp of another
  pub ages_first : (s : ℕ) (ss : List ℕ) → Distinct (s ∷ ss) → Ages (s ∷ ss) → (a : ℕ) → a ∈ ss
      → timestamp a ≡ timestamp s → ⊥
  ages_first s ss once ages a i e = once.0 (rw (ages a s (later i) (first refl) e) at i)

  put_by_age_rising : (s : ℕ) (l : List ℕ) → Rising timestamp l → ((a : ℕ) → a ∈ l → timestamp a ≡ timestamp s → ⊥)
      → Rising timestamp (put_by_age timestamp s l)
  unfolding put_by_age
  put_by_age_rising s [] rising other = (λ c i. absurd (Memᴰ.not-nil i), tt)
  put_by_age_rising s (a ∷ l) rising other =
      go (ltb (timestamp a) (timestamp s)) refl (put_by_age_rising s l rising.1 (λ b i. other b (later i)))
    where
      older : timestamp s < timestamp a → (c : ℕ) → c ∈ (a ∷ l) → timestamp s < timestamp c
      older h c (first e) = rw e h
      older h c (later j) = omega (arith, rising.0 c j)

      go : (t : Bool) → ltb (timestamp a) (timestamp s) ≡ t → Rising timestamp (put_by_age timestamp s l)
          → Rising timestamp (cond t (a ∷ put_by_age timestamp s l) (s ∷ a ∷ l))
      go true e rest = (
        λ c i. either (put_by_age_from s c l i) (λ q. rw q (ltb-true (timestamp a) (timestamp s) e)) (rising.0 c),
        rest,
      )
      go false e rest =
          let h : timestamp s < timestamp a = elim (dec_le (timestamp a) (timestamp s)) [
            | yes le ↦ absurd (other a (first refl) (omega (arith, ltb-false (timestamp a) (timestamp s) e)))
            | no m ↦ omega arith
          ] in
          (older h, rising)

  pub oldest_first_rising : (ss : List ℕ) → Distinct ss → Ages ss → Rising timestamp (oldest_first timestamp ss)
  unfolding oldest_first
  oldest_first_rising [] once ages = tt
  oldest_first_rising (s ∷ ss) once ages =
      put_by_age_rising s (oldest_first timestamp ss)
      (oldest_first_rising ss once.1 (λ a b i j. ages a b (later i) (later j)))
      (λ a i. ages_first s ss once ages a (oldest_first_from a ss i))
