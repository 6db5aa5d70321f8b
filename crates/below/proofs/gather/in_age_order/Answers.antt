-- `below::gather::in_age_order` meets its contract: the keys are gathered, and put in order where they stand. Assumes
-- nothing.
use Rattle.std.specs.Prelude.{ℕ, ◌≡◌, List, map, length, take, drop}
use Rattle.std.proofs.Common.{sym, ap, ◌∙◌, arith, take_at}
use Rattle.std.proofs.Math.ListN.{length-map}
use Rattle.order.specs.Order.{in_order}
use Rattle.order.specs.InOrder.{in_order_length}
use Rattle.table.specs.Record.{record_of}
use Rattle.age.specs.Key.{key_of}
use Rattle.below.specs.Loop.Gather.{slots_under}
use Rattle.below.proofs.Gathering
use Rattle.below.proofs.gather.in_age_order.Goals.{After-gather-m}
use Rattle.below.proofs.gather.in_age_order.Goals as goal

-- the slots, the row of keys, and those that are written
abbrev slots : After-gather-m → List ℕ
slots c = let a = c.args in slots_under (record_of a.t.now) a.used a.v

-- the keys of v and of all below it are written
whole : (c : After-gather-m) →
    (c.gather-m.result ≡ length (slots c))
    × (length c.gather-m.new.keys ≡ length c.args.keys.now)
    × (take c.gather-m.result c.gather-m.new.keys ≡ (map (key_of (record_of c.args.t.now)) (slots c)))
whole c =
    Gathering.gathered_whole (record_of c.args.t.now) c.args.keys.now (slots c) c.gather-m.new.keys c.gather-m.result
    c.requires.3 c.gather-m.ensures

long : (c : After-gather-m) → length (take c.gather-m.result c.gather-m.new.keys) ≡ length (slots c)
long c = ap length (whole c).2 ∙ length-map (slots c) (key_of (record_of c.args.t.now))

pub slice_bounds-oldest_first-end : goal.slice_bounds-oldest_first-end
slice_bounds-oldest_first-end c =
    let w = whole (goal.at.slice_bounds-oldest_first-end c).After-gather-m in
    omega (arith, w.0, w.1, c.requires.3)

pub slice_bounds-oldest_first-end-2 : goal.slice_bounds-oldest_first-end-2
slice_bounds-oldest_first-end-2 c =
    let p = (goal.at.slice_bounds-oldest_first-end-2 c).After-gather-m in
    (whole p).0 ∙ sym (long p)

pub returns : goal.returns
returns c =
    let p = (goal.at.returns c).After-gather-m in
    let w = whole p in
    let m = c.gather-m.result in
    let sorted = c.oldest_first.new.keys in
    let key = key_of (record_of c.args.t.now) in
    let is : sorted ≡ in_order (map key (slots p)) = c.oldest_first.ensures ∙ ap in_order w.2 in
    let many : length sorted ≡ m =
    ap length is
    ∙ in_order_length (map key (slots p))
    ∙ length-map (slots p) key
    ∙ sym w.0 in
    (w.0, take_at sorted (drop m c.gather-m.new.keys) m many ∙ is)
