-- What an answer tells, and the list after its pairs are laid over it; a refused call counts nothing and leaves the
-- list.
use Rattle.std.specs.Prelude.{ℕ, List, take, Result, Ok, Err}
use Rattle.std.proofs.lemmas.List.Edits.{sets}
use Rattle.refusals.specs.declared.Refusal.{Refusal}
use Rattle.refusals.specs.Told.{counted}
use Rattle.pairs.specs.declared.Pair.{Pair}
use Rattle.pairs.specs.declared.Answer.{Answer}

-- the distances worked out
abbrev pub distances_told : Result Answer Refusal → ℕ
distances_told = counted (λ a. a.count)

-- the cards found
abbrev pub cards_told : Result Answer Refusal → ℕ
cards_told = counted (λ a. a.n)

-- the pairs stand from the list's start on
abbrev pub laid : Result Answer Refusal → List Pair → List Pair
laid (Ok a) list = sets list 0 (take a.n a.pairs)
laid (Err why) list = list
