-- The first entries of one list laid over another from its start, one after another. Assumes nothing.
use Rattle.std.specs.Prelude.{ℕ, zero, suc, ◌+◌, ◌<◌, ◌≡◌, List, [], ◌∷◌, length, get_or, set, take}
use Rattle.std.proofs.Common.{sym, ap, ◌∙◌, zero-add, add-zero, add-suc, suc-add, not-suc-le-zero, le_of_suc-le-suc}
use Rattle.std.proofs.lemmas.List.Edits.{sets}

-- after i entries from a place on, the next one
laid_on :
    {A : Type 0} (ps l : List A) (at i : ℕ) (d : A) → i < length ps
    → set (sets l at (take i ps)) (at + i) (get_or ps i d) ≡ sets l at (take (suc i) ps)
laid_on [] l at i d h = absurd (not-suc-le-zero h)
laid_on (p ∷ ps) l at zero d h = ap (λ (k : ℕ). set l k p) (add-zero at)
laid_on (p ∷ ps) l at (suc i) d h =
    ap
    (λ (k : ℕ). set (sets (set l at p) (suc at) (take i ps)) k (get_or ps i d))
    (add-suc at i ∙ sym (suc-add at i))
    ∙ laid_on ps (set l at p) (suc at) i d (le_of_suc-le-suc h)

-- the same from the start: one entry more stands behind those laid already
pub one_more :
    {A : Type 0} (ps l : List A) (i : ℕ) (d : A) → i < length ps
    → set (sets l 0 (take i ps)) i (get_or ps i d) ≡ sets l 0 (take (suc i) ps)
one_more ps l i d h =
    ap (λ (k : ℕ). set (sets l 0 (take i ps)) k (get_or ps i d)) (sym (zero-add i)) ∙ laid_on ps l 0 i d h
