-- Loop: the first slot that passes a test, and the one slot that does, among those before s, as a pass finds them; none
-- if no slot does. Assumes nothing.
use Rattle.std.specs.Prelude.{ℕ, ◌+◌, ◌≤◌, ◌<◌, ◌≡◌, refl, Bool, true, false, ◌⊎◌, Option, Some, None, IfSome, is_some}
use Rattle.std.specs.Option.{option_or, unwrap_or}
use Rattle.std.proofs.Common.{sym, ◌∙◌, inr, arith, below_more}
use Rattle.std.proofs.Math.Path.{ap}
use Rattle.std.proofs.Math.Logic.{inl}
use mir.Val.{bool_byte}
use Rattle.places.specs.Choice.{pick}
use Rattle.places.specs.Test.{count_to, count_more, count_still, count_grows}
use Rattle.survey.specs.Survey.{first_from}
use Rattle.survey.specs.First.{first_is}

abbrev pub NoneBefore : (ℕ → Bool) → ℕ → Type 0
NoneBefore p s = (j : ℕ) → j < s → p j ≡ false

-- what is found is the first of the slots before s that passes
abbrev pub FirstBefore : (ℕ → Bool) → ℕ → Option ℕ → Type 0
FirstBefore p s None = NoneBefore p s
FirstBefore p s (Some a) = (a < s) × (p a ≡ true) × NoneBefore p a

-- a is one of the slots before s that pass, if any does, and else n
abbrev pub SomeBefore : (ℕ → Bool) → ℕ → ℕ → ℕ → Type 0
SomeBefore p n s a = ((a ≡ n) × ((j : ℕ) → j < s → p j ≡ false)) ⊎ ((a < s) × (p a ≡ true))

-- what is found is the only one of them
abbrev pub OneBefore : (ℕ → Bool) → ℕ → Option ℕ → Type 0
OneBefore p s None = NoneBefore p s × (count_to s p ≡ 0)
OneBefore p s (Some a) = (a < s) × (p a ≡ true) × (count_to s p ≡ 1)

module _ (p : ℕ → Bool) where
  pub first_start : FirstBefore p 0 None
  first_start = λ j b. absurd (omega arith)

  pub one_start : OneBefore p 0 None
  unfolding count_to
  one_start = (λ j b. absurd (omega arith), refl)

  -- how many pass is told by whether one is found
  pub one_counted : (s : ℕ) (found : Option ℕ) → OneBefore p s found → count_to s p ≡ bool_byte (is_some found)
  one_counted s None f = f.1
  one_counted s (Some a) f = f.2

  module _ (s : ℕ) where
    -- slot s does not pass
    pub first_still : (found : Option ℕ) → p s ≡ false → FirstBefore p s found → FirstBefore p (s + 1) found
    first_still None e f = below_more (λ (j : ℕ). p j ≡ false) s f e
    first_still (Some a) e f = (omega (arith, f.0), f.1, f.2)

    -- slot s passes
    pub first_more :
        (found : Option ℕ) → p s ≡ true → FirstBefore p s found → FirstBefore p (s + 1) (option_or found (Some s))
    first_more None e f = (omega arith, e, f)
    first_more (Some a) e f = (omega (arith, f.0), f.1, f.2)

    -- slot s does not pass
    pub one_still : (found : Option ℕ) → p s ≡ false → OneBefore p s found → OneBefore p (s + 1) found
    one_still None e f =
        (below_more (λ (j : ℕ). p j ≡ false) s f.0 e, sym (count_still s (count_to s p) p refl e) ∙ f.1)
    one_still (Some a) e f =
        (omega (arith, f.0), f.1, sym (count_still s (count_to s p) p refl e) ∙ f.2)

    one_more : p s ≡ true → count_to s p + 1 ≡ count_to (s + 1) p
    one_more e = count_more s (count_to s p) 1 p refl (sym (ap (λ (t : Bool). pick {A = ℕ} t 1 0) e))

    -- slot s is the first that does
    pub one_here : p s ≡ true → OneBefore p s None → OneBefore p (s + 1) (Some s)
    one_here e f = (omega arith, e, omega (arith, f.1, one_more e))

    -- slot s is the second that does
    pub one_twice : (n a : ℕ) → s < n → p s ≡ true → OneBefore p s (Some a) → 2 ≤ count_to n p
    one_twice n a b e f = omega (arith, f.2, one_more e, count_grows (s + 1) n p (omega arith))

  -- all n slots seen, where n itself tells that none is found
  -- what is found is one of the slots
  pub first_found : (s : ℕ) (found : Option ℕ) → FirstBefore p s found → IfSome found (λ a. a < s)
  first_found s None f = tt
  first_found s (Some a) f = f.0

  pub one_found : (s : ℕ) (found : Option ℕ) → OneBefore p s found → IfSome found (λ a. a < s)
  one_found s None f = tt
  one_found s (Some a) f = f.0

  module _ (n : ℕ) where
    none_end : NoneBefore p n → n ≡ first_from p 0 n
    none_end f =
        sym
        (first_is p 0 n n
        (record {
          from = omega arith;
          to = omega arith;
          passes = λ l. absurd (omega arith);
          before = λ j l b. f j b;
        }))

    pub first_end : (found : Option ℕ) → FirstBefore p n found → unwrap_or found n ≡ first_from p 0 n
    first_end None f = none_end f
    first_end (Some a) f =
        sym
        (first_is p 0 n a
        (record {
          from = omega arith;
          to = omega (arith, f.0);
          passes = λ l. f.1;
          before = λ j l b. f.2 j b;
        }))

    -- where no two pass, one is the first
    pub some_end :
        (a : ℕ) → ((i j : ℕ) → i < n → j < n → p i ≡ true → p j ≡ true → i ≡ j) → SomeBefore p n n a
        → a ≡ first_from p 0 n
    some_end a one (inl h) =
        sym
        (first_is p 0 n a
        (record {
          from = omega arith;
          to = omega (arith, h.0);
          passes = λ l. absurd (omega (arith, h.0));
          before = λ j l b. h.1 j (omega (arith, h.0));
        }))
    some_end a one (inr h) =
        sym
        (first_is p 0 n a
        (record {
          from = omega arith;
          to = omega (arith, h.0);
          passes = λ l. h.1;
          before = λ j l b. other j b (p j) refl;
        }))
      where
        other : (j : ℕ) → j < a → (t : Bool) → p j ≡ t → t ≡ false
        other j b true e = absurd (omega (arith, one j a (omega (arith, h.0)) h.0 e h.1))
        other j b false e = refl

    -- the only one is one of them
    pub one_some : (s : ℕ) (found : Option ℕ) → OneBefore p s found → SomeBefore p n s (unwrap_or found n)
    one_some s None f = inl (refl, f.0)
    one_some s (Some a) f = inr (f.0, f.1)

    pub one_end :
        (found : Option ℕ)
        → ((i j : ℕ) → i < n → j < n → p i ≡ true → p j ≡ true → i ≡ j)
        → OneBefore p n found
        → unwrap_or found n ≡ first_from p 0 n
    one_end found one f = some_end (unwrap_or found n) one (one_some n found f)
