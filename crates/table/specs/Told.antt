-- What a parent as it is read (`slot_told`) says of the number in the record's bytes: whether there is one.
-- Assumes nothing.
use Rattle.std.specs.Prelude.{ℕ, ◌<◌, ◌≡◌, true, false, Option, Some, None, is_some, IfSome}
use Rattle.std.proofs.Common.{sym, arith}
use Rattle.std.proofs.Math.Path.{refl}
use Rattle.std.proofs.lemmas.Bool.{false≢true}
use Rattle.table.specs.Record.{no_slot, slot_told}

pub told_some : (p : Option ℕ) → IfSome p (λ s. s < no_slot) → is_some p ≡ true → slot_told p ≡ no_slot → ⊥
told_some None h e q = false≢true e
told_some (Some s) h e q = omega (arith, h, q)

pub told_none : (p : Option ℕ) → is_some p ≡ false → slot_told p ≡ no_slot
told_none None e = refl
told_none (Some s) e = absurd (false≢true (sym e))
