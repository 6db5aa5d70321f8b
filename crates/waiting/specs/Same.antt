-- The rows of keys as images of the tree's lean work: what each record that waits and each card held is as a key.
-- The theorem is in proofs/Same/Finish, and what it stands on in proofs/Same/Steps: each step of the one is the same
-- step of the other.
use Rattle.std.specs.Prelude.{ℕ, ◌≤◌, ◌<◌, length}
use mathlib.Core.List.{List, map, Memᴰ}
use Rattle.std.proofs.Common.{arith}
use Rattle.number.specs.Frame.{Bytes}
use Rattle.distance.specs.Kind.{apart}
use Rattle.distance.specs.Signature.{Fit}
use Rattle.refusals.specs.Limits.{most_records}
use Rattle.table.specs.Record.{Record, Used, record_of}
use Rattle.table.specs.Table.{records_in}
use Rattle.table.specs.Stands.{right_most}
use Rattle.table.specs.Fitting.{Fitting, record_fits}
use Rattle.survey.specs.Survey.{used_in, root_of}
use Rattle.judge.specs.WellFormed.{WellFormed}
use Rattle.judge.specs.Readable.{Readable}
use Rattle.tree.specs.Slots.{◌∈◌}
use Rattle.tree.specs.View.{Formed}
use Rattle.tree.specs.Nearest.{Waiting, held}
use Rattle.tree.specs.Nearest.Lean.{Work}
use Rattle.view.specs.View.{view_of}
use Rattle.view.specs.Readable.{readable_formed, readable_seen}
use Rattle.steps.specs.Step.{away_from}
use Rattle.waiting.specs.Key.{second_span}
use Rattle.waiting.specs.Front.{State, state, held_key, wait_key}
pub mod Image

-- what is known of n records with this root, and of the query's readings q
pub record Given (n : ℕ) (R : ℕ → Record) (root : ℕ) (q : List ℕ) : Type 0 where
  pub small : n ≤ most_records
  pub formed : WellFormed n R
  pub seen : Formed (view_of R) n root
  pub fields : (s : ℕ) → Fitting (R s)
  pub readings : Fit q

-- a table that a call may read, if it is used
pub readable_given :
    {l : List ℕ} → Readable l → Bytes l → 1 ≤ used_in (records_in l) (record_of l)
    → {q : List ℕ} → Fit q → Given (records_in l) (record_of l) (root_of (records_in l) (record_of l)) q
readable_given {l} ok bytes some fit =
    record {
      small = right_most l ok.size;
      formed = readable_formed ok;
      seen = readable_seen ok some;
      fields = λ s. record_fits l s bytes;
      readings = fit;
    }

-- a used slot has room in a key
pub used_slot : {n : ℕ} {R : ℕ → Record} {root : ℕ} {q : List ℕ} → Given n R root q
    → (s : ℕ) → Used (R s) → s < second_span
used_slot given s u = omega (arith, given.seen.within s u, given.small)

-- all these slots are used
abbrev pub AllUsed : (ℕ → Record) → List ℕ → Type 0
AllUsed R ss = (s : ℕ) → s ∈ ss → Used (R s)

-- and so are those of all that wait
abbrev pub AllWait : (ℕ → Record) → List Waiting → Type 0
AllWait R ws = (w : Waiting) → Memᴰ w ws → Used (R w.slot)

module _ (R : ℕ → Record) (kind : ℕ) (q : List ℕ) (k : ℕ) where
  -- the key of the record in slot s, if its card is held
  abbrev pub key_held : ℕ → ℕ
  key_held s = held_key R s (away_from R kind q s)

  -- and of one that waits
  abbrev pub key_waiting : Waiting → ℕ
  key_waiting w = wait_key R w.slot w.lower

  -- the slots held, where those of cs were compared
  abbrev pub held_of : List ℕ → List ℕ
  held_of cs = held (apart kind) (view_of R) q k cs

  -- the rows that stand for this work
  abbrev pub image_of : Work → State
  image_of W = state (map key_waiting W.waits) (map key_held (held_of W.met)) (length W.met)
