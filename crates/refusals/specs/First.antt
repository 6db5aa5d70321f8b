-- The algebra of "tested in this order": two groups of tests one after the other, a row of which none holds, and the
-- number that is given where one holds after others that do not. Assumes nothing.
use Rattle.std.specs.Prelude.{ℕ, ◌≡◌, refl, Bool, true, false, ◌&&◌, ◌||◌, List, [], ◌∷◌, ◌++◌, leb, eqb}
use Rattle.std.proofs.Common.{sym, arith, leb-true, ne_eqb}
use Rattle.std.proofs.lemmas.Bool.{false≢true}
use Rattle.places.specs.Choice.{pick, and_left, and_right}
use Rattle.refusals.specs.Refusal.{Test, first_of, done}

-- no test has the number that means done
abbrev pub numbered : List Test → Bool
numbered [] = true
numbered (t ∷ ts) = leb 1 t.1 && numbered ts

-- one of the tests holds
abbrev pub any_holds : List Test → Bool
any_holds [] = false
any_holds (t ∷ ts) = t.0 || any_holds ts

-- one group after another: the second is asked where the first has nothing to say
pub first_append :
    (ts us : List Test)
    → numbered ts ≡ true
    → first_of (ts ++ us) ≡ pick (eqb (first_of ts) done) (first_of us) (first_of ts)
first_append [] us n = refl
first_append ((true, k) ∷ ts) us n =
    let some = leb-true 1 k (and_left (leb 1 k) (numbered ts) n) in
    sym (rw (ne_eqb k done (λ e. omega arith)))
first_append ((false, k) ∷ ts) us n = first_append ts us (and_right (leb 1 k) (numbered ts) n)

-- nothing is refused: none of the tests holds
pub first_none : (ts : List Test) → numbered ts ≡ true → first_of ts ≡ done → any_holds ts ≡ false
first_none [] n e = refl
first_none ((true, k) ∷ ts) n e = absurd (omega (arith, leb-true 1 k (and_left (leb 1 k) (numbered ts) n)))
first_none ((false, k) ∷ ts) n e = first_none ts (and_right (leb 1 k) (numbered ts) n) e

-- a test that holds, after others that do not, gives its number
pub first_given :
    (ts : List Test) (b : Bool) (k : ℕ) (us : List Test)
    → any_holds ts ≡ false
    → b ≡ true
    → first_of (ts ++ ((b, k) ∷ us)) ≡ k
first_given [] b k us none e = rw e
first_given ((true, j) ∷ ts) b k us none e = absurd (false≢true (sym none))
first_given ((false, j) ∷ ts) b k us none e = first_given ts b k us none e

-- and where none holds there is nothing to refuse
pub first_done : (ts : List Test) → any_holds ts ≡ false → first_of ts ≡ done
first_done [] none = refl
first_done ((true, j) ∷ ts) none = absurd (false≢true (sym none))
first_done ((false, j) ∷ ts) none = first_done ts none
