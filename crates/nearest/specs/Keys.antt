-- The keys that are held in the end, and the pairs that they tell. Assumes nothing.
use Rattle.std.specs.Prelude.{ℕ, zero, suc, ◌+◌, ◌<◌, ◌≡◌, refl, List, [], ◌∷◌, map, length, get_or, set, take, drop}
use Rattle.std.proofs.Common.{ap, ap₂, arith, add-one}
use Rattle.pairs.specs.declared.Pair.{Pair}
use Rattle.table.specs.Record.{Record}
use Rattle.waiting.specs.Key.{first_in, second_in}
use Rattle.waiting.specs.Same.{key_held, held_of}
use Rattle.nearest.specs.Nearest.{pair, compared_slots}

-- the card and the distance in a key
abbrev pub pair_in : ℕ → Pair
pair_in key = pair (second_in key) (first_in key)

-- the keys of the slots held in the end
unfoldable pub keys_held : ℕ → (ℕ → Record) → ℕ → List ℕ → ℕ → List ℕ
keys_held n R kind q k = map (key_held R kind q k) (held_of R kind q k (compared_slots n R kind q k))

-- ---- a row of pairs that a loop fills from the front

-- the first i pairs are those of the first i keys
abbrev pub Told : List ℕ → List Pair → ℕ → Type 0
Told keys ps i = take i ps ≡ map pair_in (take i keys)

told_suc : (keys : List ℕ) (ps : List Pair) (i : ℕ) → i < length ps → i < length keys → Told keys ps i
    → Told keys (set ps i (pair_in (get_or keys i 0))) (suc i)
told_suc [] ps i h b all = absurd (omega arith)
told_suc (x ∷ keys) [] i h b all = absurd (omega arith)
told_suc (x ∷ keys) (p ∷ ps) zero h b all = refl
told_suc (x ∷ keys) (p ∷ ps) (suc i) h b all =
    ap₂ ◌∷◌
    (ap (λ (l : List Pair). get_or l 0 p) all)
    (told_suc keys ps i (omega arith) (omega arith) (ap (λ (l : List Pair). drop 1 l) all))

-- one turn more
pub told_more : (keys : List ℕ) (ps : List Pair) (i : ℕ) (p : Pair) → i < length ps → i < length keys
    → p ≡ pair_in (get_or keys i 0) → Told keys ps i → Told keys (set ps i p) (i + 1)
told_more keys ps i p h b e all = rw (e, add-one i) (told_suc keys ps i h b all)
