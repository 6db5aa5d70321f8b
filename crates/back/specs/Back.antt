-- "Put those back one at a time .. each in its own old slot": the records of the slots that wait go back, by the insert
-- rule, over rows in which these slots are free.
use Rattle.std.specs.Prelude.{ℕ, ◌+◌, ◌≡◌, refl, List, [], ◌∷◌}
use Rattle.std.proofs.Common.{ap, ◌∙◌}
use mathlib.Core.List.Memᴰ.{head as first}
use mathlib.Core.List.Memᴰ.{tail as later}
use Rattle.table.specs.Record.{Record}
use Rattle.table.specs.Table.{at}
use Rattle.tree.specs.Slots.{◌∈◌}
use Rattle.placing.specs.Place.{Placed, placed}
use Rattle.newcomer.specs.Newcomer.{Newcomer, brought}

-- slot s goes back "by the insert rule", with what its record in `old` brought. The counts add up
abbrev pub one_back : (List ℕ → List ℕ → ℕ) → ℕ → List Record → ℕ → Placed → Placed
one_back d arity old s p =
    record {
      rows = (placed d arity s (brought (at old s)) p.rows).rows;
      count = p.count + (placed d arity s (brought (at old s)) p.rows).count;
    }

-- the slots ss go back in their order; old: where their cards, kinds and signatures stand
unfoldable pub put_back : (List ℕ → List ℕ → ℕ) → ℕ → List Record → List ℕ → Placed → Placed
put_back d arity old [] p = p
put_back d arity old (s ∷ ss) p = put_back d arity old ss (one_back d arity old s p)

-- it asks of `old` only what the waiting records brought
pub put_back_same :
    (d : List ℕ → List ℕ → ℕ) (arity : ℕ) (old new : List Record) (ss : List ℕ) (p : Placed)
    → ((s : ℕ) → s ∈ ss → brought (at new s) ≡ brought (at old s))
    → put_back d arity new ss p ≡ put_back d arity old ss p
unfolding put_back
put_back_same d arity old new [] p h = refl
put_back_same d arity old new (s ∷ ss) p h =
    ap
    (λ (x : Newcomer).
    put_back d arity new ss
    (record { rows = (placed d arity s x p.rows).rows; count = p.count + (placed d arity s x p.rows).count }))
    (h s (first refl))
    ∙ put_back_same d arity old new ss (one_back d arity old s p) (λ a i. h a (later i))
