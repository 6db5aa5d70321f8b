-- What the newcomer's changes of a record come to: one write after others, a radius, a child, and the eight child
-- slots. Assumes nothing.
use Prim.Native.Nat.{ℕ, zero, suc, ◌+◌, ◌^◌, ◌≤◌, ◌<◌, max}
use mathlib.Core.Path.{◌≡◌, refl, sym, ap, ◌∙◌}
use mathlib.Core.List.{List}
use native.Mathlib.Omega.{arith}
use native.Mathlib.Numerals.{add-one}
use lib.ListN.{length, set, replicate, length-set, length-replicate, get_or-replicate}
use Rattle.refusals.specs.Limits.{most_children}
use Rattle.places.specs.Fill.{Filled, filled_more, filled_all}
use Rattle.table.specs.Record.{Record, record_of, no_slot}
use Rattle.writing.specs.Put.{put_radius, with_radius, parts, with_slot, with_count}
use Rattle.table.specs.Stands.{Stands, stands_same}
use Rattle.writing.specs.Laws.{Became, became_by, put_radius_lem, then_with}
use Rattle.newcomer.specs.Newcomer.{raised, adopting}

-- ---- one write after others

-- the slot that was written stands still, and may be written again
pub wrote_then :
    {l m k : List ℕ} {s : ℕ} {r : Record} (f : Record → Record)
    → Became l s r m
    → Stands l s
    → (Stands m s → Became m s (f (record_of m s)) k)
    → Became l s (f r) k
wrote_then {l} {m} {s = s} f before stands write =
    then_with f before (write (stands_same l m before.same_length s stands))

-- ---- a radius, and a child

pub raised_more : (r : Record) (away : ℕ) → r.radius < away → with_radius r away ≡ raised away r
unfolding raised
raised_more r away h = let e : away ≡ max r.radius away = omega arith in ap (with_radius r) e

pub raised_not : (r : Record) (away : ℕ) → away ≤ r.radius → r ≡ raised away r
unfolding raised
raised_not r away h = let e : r.radius ≡ max r.radius away = omega arith in ap (with_radius r) e

-- the larger of the radius and the distance, written as the radius
pub raised_by :
    (l m : List ℕ) (a away k : ℕ)
    → m ≡ put_radius l a k
    → Stands l a
    → k ≡ max (record_of l a).radius away
    → k < 256 ^ 4
    → Became l a (raised away (record_of l a)) m
unfolding raised
raised_by l m a away k e h larger fits =
    became_by (put_radius_lem l a h k fits) (ap (with_radius (record_of l a)) larger) e

pub adopting_is : (r : Record) (n s : ℕ) → n ≡ r.count → with_count (with_slot r n s) (n + 1) ≡ adopting s r
unfolding adopting
adopting_is r n s e = rw e

-- ---- the eight child slots

-- the first i of the slots made 65,535
unfoldable pub cleared : ℕ → List ℕ → List ℕ
cleared zero ss = ss
cleared (suc i) ss = set (cleared i ss) i no_slot

abbrev pub with_slots : Record → List ℕ → Record
with_slots r ss = parts r.card r.timestamp r.radius r.parent r.count r.kind ss r.readings

cleared_length : (i : ℕ) (ss : List ℕ) → length (cleared i ss) ≡ length ss
unfolding cleared
cleared_length zero ss = refl
cleared_length (suc i) ss = length-set (cleared i ss) i no_slot ∙ cleared_length i ss

pub cleared_none : (ss : List ℕ) → cleared 0 ss ≡ ss
unfolding cleared
cleared_none ss = refl

pub cleared_more : (i : ℕ) (ss : List ℕ) → set (cleared i ss) i no_slot ≡ cleared (i + 1) ss
unfolding cleared
cleared_more i ss = rw (add-one i)

cleared_filled :
    (i : ℕ) (ss : List ℕ)
    → i ≤ most_children
    → length ss ≡ most_children
    → Filled (replicate most_children no_slot) (cleared i ss) i
unfolding cleared
cleared_filled zero ss h e k b = absurd (omega arith)
cleared_filled (suc i) ss h e k b =
    filled_more
    (replicate most_children no_slot)
    (cleared i ss)
    i
    no_slot
    (omega (arith, cleared_length i ss))
    (cleared_filled i ss (omega arith) e)
    (sym (get_or-replicate most_children i no_slot 0 (omega arith)))
    k
    (omega arith)

pub cleared_all : (ss : List ℕ) → length ss ≡ most_children → cleared most_children ss ≡ replicate most_children no_slot
cleared_all ss e =
    filled_all
    (replicate most_children no_slot)
    (cleared most_children ss)
    most_children
    (cleared_length most_children ss ∙ e)
    (length-replicate most_children no_slot)
    (cleared_filled most_children ss (omega arith) e)
