-- `nearest::accepted` meets its contract: the keys held in the end tell the pairs. Assumes nothing.
use Rattle.std.specs.Prelude.{◌≤◌, ◌≡◌, refl, map, take, length, get_or}
use Rattle.std.proofs.Common.{Fits, w16, ap, ◌∙◌, arith, length-take, rules}
use Rattle.distance.specs.Signature.{Fit}
use Rattle.number.specs.Frame.{Bytes}
use Rattle.table.specs.Record.{record_of}
use Rattle.table.specs.Table.{records_in}
use Rattle.survey.specs.Survey.{used_in, root_of}
use Rattle.waiting.specs.Same.{Given, readable_given}
use Rattle.nearest.specs.Nearest.{nearest_pairs, distances}
use Rattle.nearest.specs.Keys.{pair_in, keys_held}
use Rattle.nearest.proofs.Laws.{pairs_told, listing_is}
use Rattle.nearest.proofs.accepted.Goals.{After-pairs_of}
use Rattle.nearest.proofs.accepted.Goals as goal

some : (c : After-pairs_of) → let l = c.args.t.now in 1 ≤ used_in (records_in l) (record_of l)
some c = omega (arith, c.requires.there.0, c.requires.there.1)

-- each reading of the query is a 16-bit number, by its type
fit : (c : After-pairs_of) → Fit c.args.q.signature.readings
fit c = λ i.
    let number : Fits w16 (get_or c.args.q.signature.readings i 0) = search rules in
    number.fits

given : (c : After-pairs_of) →
    let l = c.args.t.now in
    Given (records_in l) (record_of l) (root_of (records_in l) (record_of l)) c.args.q.signature.readings
given c = let bytes : Bytes c.args.t.now = λ i. omega (arith, c.type_inv.t i) in
    readable_given c.requires.readable.0 bytes (some c) (fit c)

-- the keys held are those of the definition
keys : (c : After-pairs_of) →
    let a = c.args in
    c.held-held.result.now ≡ keys_held (records_in a.t.now) (record_of a.t.now) a.q.kind a.q.signature.readings a.k
keys c = let a = c.args in
    c.held-held.ensures
    ∙ c.search_from.ensures.held
    ∙ ap (keys_held (records_in a.t.now) (record_of a.t.now) a.q.kind a.q.signature.readings) c.new-front.ensures.1

-- the first pairs of the row are the nearest ones
told : (c : After-pairs_of)
    (some : 1 ≤ used_in (records_in c.args.t.now) (record_of c.args.t.now))
    (given : Given (records_in c.args.t.now) (record_of c.args.t.now)
    (root_of (records_in c.args.t.now) (record_of c.args.t.now)) c.args.q.signature.readings) →
    let a = c.args in
    take (length c.held-held.result.now) c.pairs_of.result
    ≡ nearest_pairs (records_in a.t.now) (record_of a.t.now) a.q.kind a.q.signature.readings a.k
told c some given = c.pairs_of.ensures.0
    ∙ ap (map pair_in) (keys c)
    ∙ pairs_told c.args.q.kind c.args.k some given

-- no more than k are held
few : (c : After-pairs_of) → length c.held-held.result.now ≤ c.args.k
few c = let f = c.search_from.new.front in
    omega (
      arith,
      ap length c.held-held.ensures,
      length-take f.holding f.held,
      f.few,
      c.search_from.ensures.same_k,
      c.new-front.ensures.1,
    )

pub returns : goal.returns
returns c =
    let a = c.args in
    let l = a.t.now in
    let p = (goal.at.returns c).After-pairs_of in
    let n = length c.held-held.result.now in (
      listing_is l a.q.kind a.q.signature.readings a.k 0 c.search_from.new.front.count n n c.pairs_of.result
          refl
          (c.search_from.ensures.count
          ∙ ap (distances (records_in l) (record_of l) a.q.kind a.q.signature.readings) c.new-front.ensures.1)
          (told p (some p) (given p))
          (omega (arith, few p, c.pairs_of.ensures.1, c.requires.readable.2))
          refl,
      few p,
    )
