-- The answers to the small questions together, as one pass over a table finds them.
use Rattle.std.specs.Prelude.{ℕ, ◌≡◌, ◌<◌, Option, None, Some, IfSome}
use Rattle.std.specs.Option.{unwrap_or}
use Rattle.std.proofs.Common.{subst}
use Rattle.table.specs.Record.{Record}
use Rattle.survey.specs.declared.Findings.{Findings}
use Rattle.survey.specs.Survey.{used_in, lowest_free, root_of, kind_of, largest_timestamp}

-- the slot that is told; n, past the last, if none is
abbrev pub slot_or : ℕ → Option ℕ → ℕ
slot_or n o = unwrap_or o n

-- o tells the slot s of n, or none if s is n
abbrev pub Tells : ℕ → ℕ → Option ℕ → Type 0
Tells n s o = (slot_or n o ≡ s) × IfSome o (λ a. a < n)

-- the answers for n records
pub record Answers (n : ℕ) (R : ℕ → Record) (f : Findings) : Type 0 where
  pub used : f.used ≡ used_in n R
  pub lowest : Tells n (lowest_free n R) f.lowest
  pub largest : f.largest ≡ largest_timestamp n R
  pub root : Tells n (root_of n R) f.root
  pub kind : f.kind ≡ kind_of n R

-- ---- what is known where an answer is looked at

pub tells_some : {n s : ℕ} {o : Option ℕ} (a : ℕ) → Tells n s o → o ≡ Some a → (a ≡ s) × (a < n)
tells_some {n} {s} a t e = subst (λ (o : Option ℕ). Tells n s o) e t

pub tells_none : {n s : ℕ} {o : Option ℕ} → Tells n s o → o ≡ None → n ≡ s
tells_none {n} {s} t e = (subst (λ (o : Option ℕ). Tells n s o) e t).0
