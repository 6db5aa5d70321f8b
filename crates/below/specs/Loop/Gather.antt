-- Loop: what stands at or below a record, gathered as keys in walk order: the keys' row and the place after the last.
use Rattle.std.specs.Prelude.{ℕ, ◌+◌, List, map, length}
use Rattle.std.proofs.lemmas.List.Edits.{sets}
use Rattle.order.specs.Order.{in_order}
use Rattle.table.specs.Record.{Record, children}
use Rattle.tree.specs.View.{under}
use Rattle.age.specs.Key.{key_of}

pub record Gathered : Type 0 where
  pub keys : List ℕ
  pub at : ℕ

module _ (R : ℕ → Record) where
  -- the slots at or below a; left: the depth left
  abbrev pub slots_under : ℕ → ℕ → List ℕ
  slots_under left a = under (λ s. children (R s)) left a

  -- their keys in age order
  abbrev pub keys_under : ℕ → ℕ → List ℕ
  keys_under left a = in_order (map (key_of R) (slots_under left a))

  -- the keys of the slots ss stand in the row from place m on
  unfoldable pub gathered : List ℕ → ℕ → List ℕ → Gathered
  gathered keys m ss = record { keys = sets keys m (map (key_of R) ss); at = m + length ss }
