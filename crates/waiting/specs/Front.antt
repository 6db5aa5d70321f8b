-- Loop: how far a search for the nearest cards has come, as the code has it: two lists of keys in rising order, and the
-- distances counted. Rows says how they stand in the code's rows; `Lean` of the tree's Nearest has the same work over
-- slots.
use Rattle.std.specs.Prelude.{ℕ, zero, suc, ◌+◌, ◌-◌, ◌/◌, min, max, Bool, ◌&&◌, ◌||◌, cond, List, [], ◌∷◌, eqb, leb}
use Rattle.std.specs.Prelude.{ltb, length, get_or, take}
use Rattle.order.specs.Order.{put_among}
use Rattle.distance.specs.Laws.{farthest}
use Rattle.table.specs.Record.{Record, children}
use Rattle.steps.specs.Step.{away_from}
use Rattle.waiting.specs.Key.{key, first_in, slot_in}

pub record State : Type 0 where
  pub waits : List ℕ
  pub held : List ℕ
  pub count : ℕ

abbrev pub state : List ℕ → List ℕ → ℕ → State
state waits held count = record { waits = waits; held = held; count = count }

-- ---- the cards held

-- one key more, of which the first k are held
abbrev pub holds : ℕ → ℕ → List ℕ → List ℕ
holds k x held = take k (put_among x held)

-- k are held, and this bound exceeds the k-th distance
abbrev pub exceeds : ℕ → List ℕ → ℕ → Bool
exceeds k held bound = leb k (length held) && ltb (first_in (get_or held (k - 1) 0)) bound

-- ---- the lower bound

-- of a record at the distance `away` under a parent's bound p; near is the smallest distance of its older siblings, and
-- no smaller than `away` if there is none
abbrev pub lower_from : Record → ℕ → ℕ → ℕ → ℕ
lower_from r p near away = max p (max (away - r.radius) ((away - near + 1) / 2))

-- ---- one record is compared, in slot s at the distance `away`

-- its key if its card is held: "nearest first, equal distances by smaller card"
abbrev pub held_key : (ℕ → Record) → ℕ → ℕ → ℕ
held_key R s away = key away (R s).card s

-- and if it waits: "the least lower bound .. the older among equals"
abbrev pub wait_key : (ℕ → Record) → ℕ → ℕ → ℕ
wait_key R s lower = key lower (R s).timestamp s

module _ (R : ℕ → Record) (k : ℕ) where
  -- those that wait then, if the keys `held` are held: it need not wait if it has no children, or if its bound exceeds
  -- the k-th distance
  unfoldable pub waits_with : ℕ → ℕ → List ℕ → List ℕ → List ℕ
  waits_with s lower held ws =
      cond (eqb (R s).count 0 || exceeds k held lower) ws (put_among (wait_key R s lower) ws)

  -- its card is held if it is among the first k, and it waits if it need
  unfoldable pub meet_one : ℕ → ℕ → ℕ → State → State
  meet_one s away lower S =
      let held = holds k (held_key R s away) S.held in
      state (waits_with s lower held S.waits) held (S.count + 1)

-- ---- the work, for the k nearest of a query with the readings q

module _ (R : ℕ → Record) (kind : ℕ) (q : List ℕ) (k : ℕ) where
  -- the children bs under the bound p; near is the smallest distance of those before them
  unfoldable pub meet_all : ℕ → ℕ → List ℕ → State → State
  meet_all p near [] S = S
  meet_all p near (b ∷ bs) S =
      let away = away_from R kind q b in
      meet_all p (min near away) bs (meet_one R k b away (lower_from (R b) p near away) S)

  -- all children of the record in slot s, whose bound is p
  abbrev pub meet_children : ℕ → ℕ → State → State
  meet_children s p S = meet_all p farthest (children (R s)) S

  -- the first that waits is taken, if the work is not over
  unfoldable pub take_next : (State → State) → List ℕ → State → State
  take_next go [] S = S
  take_next go (x ∷ ws) S =
      cond (exceeds k S.held (first_in x)) S
      (go (meet_children (slot_in x) (first_in x) (state ws S.held S.count)))

  -- to the end; left: how many may still be taken
  unfoldable pub finish : ℕ → State → State
  finish zero S = S
  finish (suc left) S = take_next (finish left) S.waits S

  -- the root is compared, and that is the beginning
  abbrev pub start_at : ℕ → State
  start_at root =
      let away = away_from R kind q root in
      meet_one R k root away (lower_from (R root) 0 farthest away) (state [] [] 0)
