-- `writing::zero` meets its contract: a part filled with zeros is its bytes made zero one by one. Assumes nothing.
use Rattle.std.specs.Prelude.{ℕ, ◌+◌, ◌-◌, ◌≡◌, length, take, drop, replicate}
use Rattle.std.proofs.Common.{ap, sym, ◌∙◌, arith}
use Rattle.std.proofs.lemmas.Grind.{common_steps}
use Rattle.std.proofs.lemmas.List.{length-replicate}
use Rattle.std.proofs.lemmas.Slice.{put_mid-paste}
use Rattle.writing.specs.Run.{zeroed_at_once}
use Rattle.writing.proofs.zero.Goals as goal

pub returns : goal.returns
returns c =
    let a = c.args in
    let size : length (take (a.from + a.n - a.from) (drop a.from a.t.now)) ≡ a.n = grind (arith, common_steps) in
    let zeros = c.fill.ensures.after (λ y e. e) ∙ ap (λ (m : ℕ). replicate m 0) size in
    put_mid-paste a.from _ a.t.now _ (replicate a.n 0) a.n zeros (omega arith) (sym (length-replicate a.n 0))
    ∙ zeroed_at_once a.t.now a.from a.n (omega arith)
