-- What stands in a key is read back; and keys rise with what decides first, among equals with what decides second.
-- Assumes nothing.
use Rattle.std.specs.Prelude.{ℕ, ◌^◌, ◌<◌, ◌≡◌, refl, Bool, true, false, ◌&&◌, ◌||◌, eqb, ltb}
use Rattle.std.proofs.Common.{arith, lt-ltb, le-ltb, ltb-true, ltb-false, eqb-true}
use Rattle.std.proofs.lemmas.Bool.{eqb-false}
use Rattle.places.specs.Cases.{equal_or}
use Rattle.waiting.specs.Key.{second_span, key, first_in, second_in, slot_in}

-- ---- read back

module _ (x y s : ℕ) (slot : s < second_span) where
  pub key_slot : slot_in (key x y s) ≡ s
  key_slot = omega arith

  module _ (fits : y < 2 ^ 32) where
    pub key_first : first_in (key x y s) ≡ x
    key_first = omega arith

    pub key_second : second_in (key x y s) ≡ y
    key_second = omega arith

-- ---- in order

-- keys compare by what decides first, then by what decides among equals, if these two have only one slot
pub key_below : (x y s a b t : ℕ) → s < second_span → t < second_span → y < 2 ^ 32 → b < 2 ^ 32
    → (x ≡ a → y ≡ b → s ≡ t) → ltb (key x y s) (key a b t) ≡ ltb x a || (eqb x a && ltb y b)
key_below x y s a b t hs ht hy hb one = go (ltb x a) refl (eqb x a) refl (ltb y b) refl
  where
    go : (l : Bool) → ltb x a ≡ l → (e : Bool) → eqb x a ≡ e → (m : Bool) → ltb y b ≡ m
        → ltb (key x y s) (key a b t) ≡ l || (e && m)
    go true f e g m h = lt-ltb (key x y s) (key a b t) (omega (arith, ltb-true x a f))
    go false f true g true h =
        lt-ltb (key x y s) (key a b t) (omega (arith, eqb-true x a g, ltb-true y b h))
    go false f true g false h =
        let same = eqb-true x a g in
        equal_or y b
        (λ e. le-ltb (key x y s) (key a b t) (omega (arith, one same e)))
        (λ ne. le-ltb (key x y s) (key a b t) (omega (arith, ltb-false y b h)))
    go false f false g m h =
        let other = eqb-false x a g in
        le-ltb (key x y s) (key a b t) (omega (arith, ltb-false x a f))
