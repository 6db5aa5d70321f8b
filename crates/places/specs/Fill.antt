-- A list that a loop fills from the front until it is another list; entries written one after another; zeros.
-- Assumes nothing.
use Rattle.std.specs.Prelude.{ℕ, zero, suc, ◌+◌, ◌≤◌, ◌<◌, ◌≡◌, refl, List, [], ◌∷◌, ◌++◌, get_or, set, length, drop}
use Rattle.std.specs.Prelude.{replicate}
use Rattle.std.proofs.Common.{ap, ◌∙◌, arith, zero-add, add-zero, add-suc, suc-add, below_more, get_or-set_same}
use Rattle.std.proofs.Common.{get_or-set_other, ext_get_or}
use Rattle.std.proofs.lemmas.List.Edits.{sets, sets-eq}

-- the first i places of l hold what m holds there
abbrev pub Filled : List ℕ → List ℕ → ℕ → Type 0
Filled m l i = (k : ℕ) → k < i → get_or l k 0 ≡ get_or m k 0

-- one turn: the next place is filled
pub filled_more :
    (m l : List ℕ) (i v : ℕ) → i < length l → Filled m l i → v ≡ get_or m i 0 → Filled m (set l i v) (i + 1)
filled_more m l i v h all e =
    below_more
    (λ (k : ℕ). get_or (set l i v) k 0 ≡ get_or m k 0)
    i
    (λ k b. get_or-set_other l i k v 0 (λ q. omega arith) ∙ all k b)
    (get_or-set_same l i v 0 h ∙ e)

-- the end: all places are filled
pub filled_all : (m l : List ℕ) (n : ℕ) → length l ≡ n → length m ≡ n → Filled m l n → l ≡ m
filled_all m l n el em all = ext_get_or 0 l m (cc) (λ k b. all k (omega arith))

-- a run of entries written, and then another
pub sets_append : (a b l : List ℕ) (i : ℕ) → sets l i (a ++ b) ≡ sets (sets l i a) (i + length a) b
sets_append [] b l i = rw (add-zero i)
sets_append (x ∷ a) b l i = sets_append a b (set l i x) (suc i) ∙ rw (add-suc i (length a), suc-add i (length a))

-- a run of entries from the start: the list is these, and then what it was
pub from_start : {A : Type 0} (cs l : List A) → length cs ≤ length l → sets l 0 cs ≡ cs ++ drop (length cs) l
from_start cs l h = sets-eq cs l 0 (omega arith) ∙ ap (λ (k : ℕ). cs ++ drop k l) (zero-add (length cs))

-- a list of zeros reads as 0 at every place
pub zeros_at : (n k : ℕ) → ◌≡◌ {A = ℕ} (get_or (replicate n 0) k 0) 0
zeros_at zero k = refl
zeros_at (suc n) zero = refl
zeros_at (suc n) (suc k) = zeros_at n k

-- and behind a list they read as what is not there
pub zeros_behind : (l : List ℕ) (n k : ℕ) → get_or (l ++ replicate n 0) k 0 ≡ get_or l k 0
zeros_behind [] n k = zeros_at n k
zeros_behind (x ∷ l) n zero = refl
zeros_behind (x ∷ l) n (suc k) = zeros_behind l n k
