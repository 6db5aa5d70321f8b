-- The first place that passes a test, pinned by what it says of the places up to it. Assumes nothing.
use Rattle.std.specs.Prelude.{ℕ, zero, suc, ◌+◌, ◌≤◌, ◌<◌, ◌≡◌, refl, Bool, true, false}
use Rattle.std.proofs.Common.{sym, ◌∙◌, arith}
use Rattle.std.proofs.lemmas.Bool.{false≢true}
use Rattle.places.specs.Choice.{pick}
use Rattle.places.specs.Cases.{below_or, equal_or}
use Rattle.survey.specs.Survey.{first_from}

-- none of the places from s up to a passes
abbrev pub None : (ℕ → Bool) → ℕ → ℕ → Type 0
None p s a = (j : ℕ) → s ≤ j → j < a → p j ≡ false

-- a is the first of the k places from s on that passes, or s + k
pub record First (p : ℕ → Bool) (s k a : ℕ) : Type 0 where
  pub from : s ≤ a
  pub to : a ≤ s + k
  pub passes : a < s + k → p a ≡ true
  pub before : None p s a

pub first_from_lem : (p : ℕ → Bool) (s k : ℕ) → First p s k (first_from p s k)
unfolding first_from
first_from_lem p s zero =
    record {
      from = omega arith;
      to = omega arith;
      passes = λ h. absurd (omega arith);
      before = λ j h b. absurd (omega arith);
    }
first_from_lem p s (suc k) = on (p s) refl (first_from_lem p (suc s) k)
  where
    on :
        (t : Bool)
        → p s ≡ t
        → First p (suc s) k (first_from p (suc s) k)
        → First p s (suc k) (pick t s (first_from p (suc s) k))
    on true e rest =
        record {
          from = omega arith;
          to = omega arith;
          passes = λ h. e;
          before = λ j h b. absurd (omega arith);
        }
    on false e rest =
        record {
          from = omega (arith, rest.from);
          to = omega (arith, rest.to);
          passes = λ h. rest.passes (omega arith);
          before = λ j h b. equal_or j s (λ q. rw q e) (λ ne. rest.before j (omega arith) b);
        }

-- there is but one
pub first_one : (p : ℕ → Bool) (s k a b : ℕ) → First p s k a → First p s k b → a ≡ b
first_one p s k a b fa fb =
    below_or
    a
    b
    (λ h. absurd (false≢true (sym (fb.before a fa.from h) ∙ fa.passes (omega (arith, fb.to)))))
    (λ h.
    below_or
    b
    a
    (λ g. absurd (false≢true (sym (fa.before b fb.from g) ∙ fb.passes (omega (arith, fa.to)))))
    (λ g. omega arith))

-- so a place that is first is the one that is found
pub first_is : (p : ℕ → Bool) (s k a : ℕ) → First p s k a → first_from p s k ≡ a
first_is p s k a f = first_one p s k (first_from p s k) a (first_from_lem p s k) f

-- if one of the places passes, so does the one that is found
pub first_passes :
    (p : ℕ → Bool) (s k a : ℕ)
    → s ≤ a
    → a < s + k
    → p a ≡ true
    → (first_from p s k < s + k) × (p (first_from p s k) ≡ true)
first_passes p s k a h b e =
    let f = first_from_lem p s k in
    below_or
    (first_from p s k)
    (s + k)
    (λ g. (g, f.passes g))
    (λ g. absurd (false≢true (sym (f.before a h (omega arith)) ∙ e)))
