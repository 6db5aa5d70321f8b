-- "Operation (1 insert, 2 delete, 3 search, 4 check)": what each number asks for.
use Rattle.std.specs.Prelude.{ℕ, ◌≡◌, Result, MatchResult}
use Rattle.refusals.specs.declared.Refusal.{Refusal}
use Rattle.refusals.specs.declared.Refusal.TheVariants as refusal
use Rattle.command.specs.declared.Operation.{Operation}
use Rattle.command.specs.declared.Operation.TheVariants.{Insert, Delete, Search, Check}

abbrev pub code_of : Operation → ℕ
code_of Insert = 1
code_of Delete = 2
code_of Search = 3
code_of Check = 4

-- the operation with this number, or else the refusal of a number that no operation has
abbrev pub Decodes : ℕ → Result Operation Refusal → Type 0
Decodes number r =
    MatchResult r (λ o. code_of o ≡ number)
    (λ why. (why ≡ refusal.Argument) × ((o : Operation) → code_of o ≡ number → ⊥))
