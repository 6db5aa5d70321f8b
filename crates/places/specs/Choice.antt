-- One of two values, by a test; and what a test of two parts says of each. Assumes nothing.
use Rattle.std.specs.Prelude.{ℕ, ◌≡◌, refl, Bool, true, false, ◌&&◌, ◌||◌, not, leb, ltb}
use Rattle.std.proofs.Common.{sym, ap, leb-true, leb-false, le-ltb, lt-ltb}
use Rattle.std.proofs.lemmas.Bool.{false≢true}

abbrev pub pick {ℓ} : {A : Type ℓ} → Bool → A → A → A
pick true a b = a
pick false a b = b

-- if a says yes, so does b
abbrev pub implies : Bool → Bool → Bool
implies a b = pick a b true

pub and_left : (a b : Bool) → a && b ≡ true → a ≡ true
and_left true b e = refl
and_left false b e = e

pub and_right : (a b : Bool) → a && b ≡ true → b ≡ true
and_right true b e = e
and_right false b e = absurd (false≢true e)

pub and_both : (a b : Bool) → a ≡ true → b ≡ true → a && b ≡ true
and_both true b p q = q
and_both false b p q = p

pub and_comm : (a b : Bool) → a && b ≡ b && a
and_comm true true = refl
and_comm true false = refl
and_comm false true = refl
and_comm false false = refl

pub or_left : (a b : Bool) → a || b ≡ false → a ≡ false
or_left true b e = e
or_left false b e = refl

pub or_right : (a b : Bool) → a || b ≡ false → b ≡ false
or_right true b e = absurd (false≢true (sym e))
or_right false b e = e

-- not both: one of them not
pub not_and : (a b : Bool) → not a || not b ≡ not (a && b)
not_and true b = refl
not_and false b = refl

-- at most is not below, the other way round
pub le_not_lt : (a b : ℕ) → leb a b ≡ not (ltb b a)
le_not_lt a b = go (leb a b) refl
  where
    go : (t : Bool) → leb a b ≡ t → t ≡ not (ltb b a)
    go true e = sym (ap not (le-ltb b a (leb-true a b e)))
    go false e = sym (ap not (lt-ltb b a (leb-false a b e)))

pub or_implies : (a b : Bool) → a || b ≡ implies (not a) b
or_implies true b = refl
or_implies false b = refl

-- two tests that say yes to the same things are one
pub same_test : (a b : Bool) → (a ≡ true → b ≡ true) → (b ≡ true → a ≡ true) → a ≡ b
same_test true b f g = same f
  where
    same : (true ≡ true → b ≡ true) → true ≡ b
    same h = cc (h refl)
same_test false true f g = g refl
same_test false false f g = refl
