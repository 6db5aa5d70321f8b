-- A test decides a statement if it says yes exactly where the statement holds; tests joined decide statements joined.
-- Assumes nothing.
use Rattle.std.specs.Prelude.{ℕ, ◌≤◌, ◌<◌, ◌≡◌, refl, Bool, true, false, ◌&&◌, not, leb, ltb, eqb}
use Rattle.std.proofs.lemmas.Bool.{false≢true}
use Rattle.std.proofs.Common.{ltb-true, leb-true, eqb-true, lt-ltb, le-leb, eq-eqb}
use Rattle.places.specs.Choice.{pick, implies, and_left, and_right, and_both, same_test}
use Rattle.places.specs.Test.{all_to, all_at, at_all}

pub record Decides (t : Bool) (P : Type 0) : Type 0 where
  pub shows : t ≡ true → P
  pub passes : P → t ≡ true

-- ---- the tests of numbers

-- a test decides what it says itself
pub true_decided : (a : Bool) → Decides a (a ≡ true)
true_decided a = record { shows = λ e. e; passes = λ e. e }

pub le_decided : (a b : ℕ) → Decides (leb a b) (a ≤ b)
le_decided a b = record { shows = leb-true a b; passes = le-leb a b }

pub lt_decided : (a b : ℕ) → Decides (ltb a b) (a < b)
lt_decided a b = record { shows = ltb-true a b; passes = lt-ltb a b }

pub eq_decided : (a b : ℕ) → Decides (eqb a b) (a ≡ b)
eq_decided a b = record { shows = eqb-true a b; passes = eq-eqb a b }

-- ---- tests joined

pub both : {a b : Bool} {P Q : Type 0} → Decides a P → Decides b Q → Decides (a && b) (P × Q)
both {a} {b} p q =
    record {
      shows = λ e. (p.shows (and_left a b e), q.shows (and_right a b e));
      passes = λ h. and_both a b (p.passes h.0) (q.passes h.1);
    }

pub if_so : {a b : Bool} {P Q : Type 0} → Decides a P → Decides b Q → Decides (implies a b) (P → Q)
if_so {a} {b} {P} {Q} p q = record { shows = shown a p; passes = λ h. passed a p h }
  where
    shown : (t : Bool) → Decides t P → implies t b ≡ true → P → Q
    shown true d e h = q.shows e
    shown false d e h = absurd (false≢true (d.passes h))

    passed : (t : Bool) → Decides t P → (P → Q) → implies t b ≡ true
    passed true d h = q.passes (h (d.shows refl))
    passed false d h = refl

pub not_so : {a : Bool} {P : Type 0} → Decides a P → Decides (not a) (P → ⊥)
not_so {a} {P} p = record { shows = shown a p; passes = passed a p }
  where
    shown : (t : Bool) → Decides t P → not t ≡ true → P → ⊥
    shown true d e h = false≢true e
    shown false d e h = false≢true (d.passes h)

    passed : (t : Bool) → Decides t P → (P → ⊥) → not t ≡ true
    passed true d h = absurd (h (d.shows refl))
    passed false d h = refl

-- one of two tests, by a third
pub chosen :
    {a b c : Bool} {P Q S : Type 0}
    → Decides a P
    → Decides b Q
    → Decides c S
    → Decides (pick a b c) ((P → Q) × ((P → ⊥) → S))
chosen {a} {b} {c} {P} {Q} {S} p q s = go a p
  where
    go : (t : Bool) → Decides t P → Decides (pick t b c) ((P → Q) × ((P → ⊥) → S))
    go true d =
        record {
          shows = λ e. (λ _. q.shows e, λ h. absurd (h (d.shows refl)));
          passes = λ h. q.passes (h.0 (d.shows refl));
        }
    go false d =
        let none : P → ⊥ = λ h. false≢true (d.passes h) in
        record { shows = λ e. (λ h. absurd (none h), λ _. s.shows e); passes = λ h. s.passes (h.1 none) }

-- one test at each of the first n places
pub at_each :
    (n : ℕ) {p : ℕ → Bool} {P : ℕ → Type 0}
    → ((k : ℕ) → Decides (p k) (P k))
    → Decides (all_to n p) ((k : ℕ) → k < n → P k)
at_each n {p} {P} d =
    record {
      shows = λ e k b. (d k).shows (all_at n p e k b);
      passes = λ h. at_all n p (λ k b. (d k).passes (h k b));
    }

-- ---- what is decided

-- the same statement in other words
pub reworded : {t : Bool} {P Q : Type 0} → (P → Q) → (Q → P) → Decides t P → Decides t Q
reworded f g d = record { shows = λ e. f (d.shows e); passes = λ h. d.passes (g h) }

-- two tests of one statement are the same test
pub decides_same : {a b : Bool} {P : Type 0} → Decides a P → Decides b P → a ≡ b
decides_same {a} {b} p q = same_test a b (λ e. q.passes (p.shows e)) (λ e. p.passes (q.shows e))
