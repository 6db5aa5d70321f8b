-- An answer told in numbers: 0 or the refusal's number, and counts that are 0 where the call is refused.
use Rattle.std.specs.Prelude.{ℕ, ◌≡◌, Result, Ok, Err, IsErrAnd}
use Rattle.std.proofs.Common.{ap, arith}
use Rattle.refusals.specs.declared.Found.{Found}
use Rattle.refusals.specs.declared.Refusal.{Refusal}
use Rattle.refusals.specs.declared.Refusal.TheVariants as refusal
use Rattle.refusals.specs.Refusal.{done, SIZE, TABLE, ARGUMENT, KIND, TWICE, ABSENT, FULL, CLOCK, SHORT, LOOSE}

-- each refusal has its number in the paper
abbrev pub number_of : Refusal → ℕ
number_of refusal.Size = SIZE
number_of refusal.Table = TABLE
number_of refusal.Argument = ARGUMENT
number_of refusal.Kind = KIND
number_of refusal.Twice = TWICE
number_of refusal.Absent = ABSENT
number_of refusal.Full = FULL
number_of refusal.Clock = CLOCK
number_of refusal.Short = SHORT
number_of refusal.Loose = LOOSE

-- no refusal has the number that means done
pub number_some : (why : Refusal) → number_of why ≡ done → ⊥
number_some refusal.Size e = omega (arith, e)
number_some refusal.Table e = omega (arith, e)
number_some refusal.Argument e = omega (arith, e)
number_some refusal.Kind e = omega (arith, e)
number_some refusal.Twice e = omega (arith, e)
number_some refusal.Absent e = omega (arith, e)
number_some refusal.Full e = omega (arith, e)
number_some refusal.Clock e = omega (arith, e)
number_some refusal.Short e = omega (arith, e)
number_some refusal.Loose e = omega (arith, e)

-- "0 means done"
abbrev pub told : {A : Type 0} → Result A Refusal → ℕ
told (Ok x) = done
told (Err why) = number_of why

-- "A refusal returns zero counts"
abbrev pub counted : {A : Type 0} → (A → ℕ) → Result A Refusal → ℕ
counted f (Ok x) = f x
counted f (Err why) = 0

-- of a call that counts one thing, that count
abbrev pub count_in : Result ℕ Refusal → ℕ
count_in = counted (λ n. n)

-- of a search, the distances worked out and the cards found
abbrev pub distances_in : Result Found Refusal → ℕ
distances_in = counted (λ f. f.count)

abbrev pub found_in : Result Found Refusal → ℕ
found_in = counted (λ f. f.found)

-- a refusal that is passed on is told as it was
pub passed_on : {A : Type 0} {r : Result A Refusal} {why : Refusal} → IsErrAnd r (λ e. e ≡ why) → r ≡ Err why
passed_on {r = Ok x} h = absurd h
passed_on {r = Err e} h = ap Err h
