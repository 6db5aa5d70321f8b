-- What goes from record to record in the counting form: kinds that agree with the last one agree with all, and
-- timestamps that rise from child to child are all different. Assumes nothing.
use Rattle.std.specs.Prelude.{ℕ, zero, suc, ◌≤◌, ◌<◌, ◌≡◌, refl, Bool, true, false, ◌⊎◌}
use Rattle.std.proofs.Common.{sym, ap, ◌∙◌, inl, inr, ⊎_elim, arith, eq-or-lt_of_le, le_of_suc-le-suc}
use Rattle.std.proofs.lemmas.Bool.{false≢true}
use Rattle.places.specs.Choice.{pick}
use Rattle.distance.specs.Kind.{known_between}
use Rattle.table.specs.Record.{Record, Used, used}
use Rattle.judge.specs.WellFormed.{WellFormed}
use Rattle.judge.specs.OneDecided.{used_decided}
use Rattle.judge.specs.Counted.{kind_before}

-- ---- kinds

-- the kind before s is that of a used record before s, or 0
pub kind_from :
    (R : ℕ → Record) (s : ℕ)
    → (kind_before R s ≡ 0 → ⊥)
    → (b : ℕ) × (b < s) × Used (R b) × (kind_before R s ≡ (R b).kind)
unfolding kind_before
kind_from R zero f = absurd (f refl)
kind_from R (suc s) f = go (used (R s)) refl (kind_from R s)
  where
    go :
        (t : Bool)
        → used (R s) ≡ t
        → ((kind_before R s ≡ 0 → ⊥) → (b : ℕ) × (b < s) × Used (R b) × (kind_before R s ≡ (R b).kind))
        → (b : ℕ) × (b < suc s) × Used (R b) × (kind_before R (suc s) ≡ (R b).kind)
    go true e earlier =
        (s, omega arith, (used_decided (R s)).shows e, ap (λ (t : Bool). pick t (R s).kind (kind_before R s)) e)
    go false e earlier =
        let same : kind_before R (suc s) ≡ kind_before R s = ap (λ (t : Bool). pick t (R s).kind (kind_before R s)) e in
        let r = earlier (λ z. f (same ∙ z)) in (r.0, omega (arith, r.1), r.2, same ∙ r.3)

-- where each used record has the kind before it, all used records before s have that kind
pub kinds_before :
    (R : ℕ → Record) (s : ℕ)
    → ((a : ℕ) → a < s → Used (R a) → 1 ≤ (R a).kind)
    → ((a : ℕ) → a < s → Used (R a) → (kind_before R a ≡ 0 → ⊥) → kind_before R a ≡ (R a).kind)
    → (a : ℕ)
    → a < s
    → Used (R a)
    → kind_before R s ≡ (R a).kind
unfolding kind_before
kinds_before R zero least same a b u = absurd (omega arith)
kinds_before R (suc s) least same a b u =
    go
    (used (R s))
    refl
    (kinds_before R s (λ k l. least k (omega arith)) (λ k l. same k (omega arith)) a)
    (eq-or-lt_of_le (le_of_suc-le-suc b))
  where
    go :
        (t : Bool)
        → used (R s) ≡ t
        → (a < s → Used (R a) → kind_before R s ≡ (R a).kind)
        → (a ≡ s) ⊎ (a < s)
        → pick t (R s).kind (kind_before R s) ≡ (R a).kind
    go true e earlier (inl q) = ap (λ (k : ℕ). (R k).kind) (sym q)
    go true e earlier (inr l) =
        let k : kind_before R s ≡ (R a).kind = earlier l u in
        sym (same s (omega arith) ((used_decided (R s)).shows e) (λ z. omega (arith, least a b u))) ∙ k
    go false e earlier (inl q) = absurd (false≢true (sym e ∙ (used_decided (R s)).passes (rw q at u)))
    go false e earlier (inr l) = earlier l u

-- where no record is used, there is no kind before s
pub kind_none : (R : ℕ → Record) (s : ℕ) → ((a : ℕ) → a < s → used (R a) ≡ false) → kind_before R s ≡ 0
unfolding kind_before
kind_none R zero none = refl
kind_none R (suc s) none = rw (none s (omega arith)) (kind_none R s (λ a b. none a (omega arith)))

-- in a well-formed table the last kind is the kind of every used record
pub kind_all :
    (n : ℕ) (R : ℕ → Record) → WellFormed n R → (a : ℕ) → a < n → Used (R a) → kind_before R n ≡ (R a).kind
kind_all n R w =
    kinds_before R n
    (λ a b u. (known_between (R a).kind (w.filled a b u).kind_known).0)
    (λ s b u f. let k = kind_from R s f in k.3 ∙ w.kinds k.0 s (omega (arith, k.1)) b k.2 u)

-- ---- timestamps

-- what rises at each step rises over any distance
pub rises :
    (g : ℕ → ℕ) (k : ℕ)
    → ((i : ℕ) → i < k → g i < g (suc i))
    → (i j : ℕ)
    → i < j
    → j ≤ k
    → g i < g j
rises g k h i zero l m = absurd (omega arith)
rises g k h i (suc j) l m =
    ⊎_elim
    (λ e. rw e (h j (omega arith)))
    (λ b. omega (arith, h j (omega arith), rises g k h i j b (omega arith)))
    (eq-or-lt_of_le (le_of_suc-le-suc l))
