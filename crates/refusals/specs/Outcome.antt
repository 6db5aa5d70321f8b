-- What a call that changes the table leaves: its answer, its count, and the table's bytes.
use Rattle.std.specs.Prelude.{ℕ, List}

pub record Outcome : Type 0 where
  pub refusal : ℕ
  pub count : ℕ
  pub table : List ℕ

-- "A refusal returns zero counts and touches nothing lent"
unfoldable pub refused : ℕ → List ℕ → Outcome
refused k l = record { refusal = k; count = 0; table = l }
