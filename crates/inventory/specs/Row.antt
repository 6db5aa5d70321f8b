-- The row that a signature is put into: sixteen readings written one after the other are their bytes laid from the
-- row's start, and they are read back. Assumes nothing.
use Rattle.std.specs.Prelude.{ℕ, zero, suc, ◌+◌, ◌*◌, ◌≤◌, ◌≡◌, refl, List, [], ◌∷◌, ◌++◌, length, take, drop, get_or}
use Rattle.std.proofs.Common.{sym, ap, ap₂, subst, ◌∙◌, arith, add-one, take-suc, take_all, length-take-le}
use Rattle.std.proofs.lemmas.List.Edits.{sets}
use Rattle.std.proofs.Math.Seq.{drop-append_seam}
use Rattle.places.specs.Fill.{from_start, sets_append}
use Rattle.number.specs.Number.{digits, with_number}
use Rattle.distance.specs.Signature.{Fit, readings_at}
use Rattle.refusals.specs.Limits.{signature_length}
use Rattle.table.specs.Table.{numbers}
use Rattle.table.specs.RoundTrip.{numbers_length}
use Rattle.writing.specs.Put.{put_readings}
use Rattle.writing.specs.Run.{readings_put}

-- ---- bytes laid from the row's start

numbers_last : (vs : List ℕ) (v : ℕ) → numbers 2 (vs ++ (v ∷ [])) ≡ numbers 2 vs ++ digits 2 v
numbers_last [] v = refl
numbers_last (x ∷ vs) v = ap (λ (bs : List ℕ). digits 2 x ++ bs) (numbers_last vs v)

two_bytes : (l : List ℕ) (at v : ℕ) → with_number 2 l at v ≡ sets l at (digits 2 v)
unfolding with_number
two_bytes l at v = rw (add-one at)

laid_to : (n : ℕ) (row vs : List ℕ) → n ≤ length vs → put_readings n row 0 vs ≡ sets row 0 (numbers 2 (take n vs))
unfolding put_readings
laid_to zero row vs h = refl
laid_to (suc n) row vs h =
    let v = get_or vs n 0 in
    let before = numbers 2 (take n vs) in
    let place : 0 + 2 * n ≡ 0 + length before =
    omega (arith, numbers_length (take n vs), length-take-le n vs (omega arith)) in
    two_bytes (put_readings n row 0 vs) (0 + 2 * n) v
    ∙ ap₂ (λ (l : List ℕ) (at : ℕ). sets l at (digits 2 v)) (laid_to n row vs (omega arith)) place
    ∙ sym (sets_append before (digits 2 v) row 0)
    ∙ ap (λ (bs : List ℕ). sets row 0 bs)
    (sym (numbers_last (take n vs) v) ∙ ap (numbers 2) (sym (take-suc vs n 0 (omega arith))))

module _ (row vs : List ℕ) (sixteen : length vs ≡ 16) where
  pub row_laid : put_readings 16 row 0 vs ≡ sets row 0 (numbers 2 vs)
  row_laid =
      laid_to 16 row vs (omega arith)
      ∙ ap (λ (k : List ℕ). sets row 0 (numbers 2 k)) (take_all 16 vs (omega arith))

  -- they are read back
  pub row_read : Fit vs → signature_length ≤ length row → readings_at (sets row 0 (numbers 2 vs)) 0 ≡ vs
  row_read fit h =
      ap (λ (l : List ℕ). readings_at l 0) (sym row_laid) ∙ readings_put row 0 vs sixteen fit (omega arith)

  -- later bytes stay
  pub row_later :
      signature_length ≤ length row → drop signature_length (sets row 0 (numbers 2 vs)) ≡ drop signature_length row
  row_later h =
      let bs = numbers 2 vs in
      let long : length bs ≡ signature_length = omega (arith, numbers_length vs) in
      subst (λ (k : ℕ). drop k (sets row 0 bs) ≡ drop k row) long
      (ap (drop (length bs)) (from_start bs row (omega arith)) ∙ drop-append_seam bs (drop (length bs) row))
