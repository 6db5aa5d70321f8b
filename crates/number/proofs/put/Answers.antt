-- `number::put` meets its contract: the bytes put in at once are the number written. Assumes nothing.
use Rattle.std.proofs.Common.{sym, ◌∙◌, arith}
use Rattle.std.proofs.lemmas.Slice.{put_mid-paste}
use Rattle.number.specs.Number.{digits}
use Rattle.number.specs.Frame.{digits_length, written_at_once}
use Rattle.number.proofs.put.Goals as goal

pub returns : goal.returns
returns g c =
    let a = c.args in
    let v = g.T.LowByteFirst.value a.v in
    put_mid-paste _ _ _ _ (digits g.row.N v) g.row.N (c.copy_from_slice.ensures.after ∙ c.to_bytes.ensures)
    (omega arith)
    (sym (digits_length g.row.N v))
    ∙ written_at_once g.row.N a.t.now a.at v (omega arith)
