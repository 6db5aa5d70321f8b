-- `table::is_free` meets its contract. The loop's invariant: the first k words are zero. Assumes nothing.
use Rattle.std.specs.Prelude.{ℕ, ◌+◌, ◌*◌, ◌≡◌, refl}
use Rattle.std.proofs.Common.{sym, ◌∙◌, below_more, arith}
use Rattle.std.proofs.lemmas.Bool.{false≢true}
use Rattle.number.specs.Number.{number_at}
use Rattle.number.specs.Frame.{Bytes}
use Rattle.table.specs.Record.{place_of}
use Rattle.table.specs.Same.{zero_words_free, free_zero_words}
use Rattle.table.proofs.read.is_free.Goals.{At-loop-k}
use Rattle.table.proofs.read.is_free.Goals as goal

-- the lent bytes are bytes
bytes : (c : At-loop-k) → Bytes c.args.t.now
bytes c i = omega (arith, c.type_inv.t i)

pub returns-then-field-ne0 : goal.returns-then-field-ne0
returns-then-field-ne0 c =
    let a = c.args in
    let words = free_zero_words a.t.now a.s (bytes (goal.at.returns-then-field-ne0 c).At-loop-k) in
    record {
      shows = λ e. absurd (false≢true e);
      passes = λ e. absurd (c.if-field-ne0.true (c.field.ensures ∙ words e c.loop-k.k (omega arith)));
    }

pub loop-k-preserved : goal.loop-k-preserved
loop-k-preserved c =
    let a = c.args in
    let word : ℕ → ℕ = λ k. number_at 8 a.t.now (place_of a.s + 8 * k) in
    below_more (λ (k : ℕ). word k ≡ 0) c.loop-k.k c.loop-k.invariant (sym c.field.ensures ∙ c.if-field-ne0.false)

pub returns : goal.returns
returns c =
    let a = c.args in
    record {
      shows =
          λ e. zero_words_free a.t.now a.s (bytes (goal.at.returns c).At-loop-k)
          (λ k p. c.loop-k.invariant k (omega arith));
      passes = λ e. refl;
    }
