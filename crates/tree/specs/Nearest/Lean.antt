-- The same work with less waiting, as the code does it. A record without children, taken, would change nothing; one
-- whose bound exceeds the k-th distance held is never taken, for that distance only falls. So neither need wait.
use Rattle.std.specs.Prelude.{ℕ, suc, zero, Bool, ◌||◌, cond, List, [], ◌∷◌, eqb, length}
use Rattle.tree.specs.Sorted.{put_by}
use Rattle.tree.specs.View.{View}
use Rattle.tree.specs.Nearest.{Waiting, waiting, lower_bound, sooner, is_over}

-- how far the work has come: those that wait, and the slots compared, the last one first
pub record Work : Type 0 where
  pub waits : List Waiting
  pub met : List ℕ

abbrev pub work : List Waiting → List ℕ → Work
work ws cs = record { waits = ws; met = cs }

module _ {Sig : Type 0} (d : Sig → Sig → ℕ) (v : View Sig) (q : Sig) (k : ℕ) where
  -- need this record not wait, where those of cs were compared?
  unfoldable pub is_idle : List ℕ → Waiting → Bool
  is_idle cs w = eqb (length (v.children w.slot)) 0 || is_over d v q k cs w.lower

  -- one record is compared, and waits if it need
  unfoldable pub meet : Waiting → Work → Work
  meet w W = work
      (cond (is_idle (w.slot ∷ W.met) w) W.waits (put_by (sooner v) w W.waits))
      (w.slot ∷ W.met)

  -- the children bs of a record with the bound p; os are those before them
  unfoldable pub meets : ℕ → List ℕ → List ℕ → Work → Work
  meets p os [] W = W
  meets p os (b ∷ bs) W = meets p (b ∷ os) bs (meet (waiting b (lower_bound d v q p os b)) W)

  -- one that waits is taken, if the work is not over
  unfoldable pub onward : (Work → Work) → List ℕ → List Waiting → Work
  onward go cs [] = work [] cs
  onward go cs (w ∷ ws) = cond (is_over d v q k cs w.lower) (work (w ∷ ws) cs)
      (go (meets w.lower [] (v.children w.slot) (work ws cs)))

  -- to the end; fuel: how many may still be taken
  unfoldable pub goes_on : ℕ → Work → Work
  goes_on zero W = W
  goes_on (suc f) W = onward (goes_on f) W.met W.waits

  -- the root is compared, and that is the beginning
  abbrev pub begins : ℕ → Work
  begins root = meet (waiting root (lower_bound d v q 0 [] root)) (work [] [])
