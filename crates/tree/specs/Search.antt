-- "Range search (001, Algorithm 2)" as the list of entered slots in walk order. The cards listed, the slots compared
-- (`compared` of View) and the distance count (`distance_count` of View) are functions of that list.
use Rattle.std.specs.Prelude.{ℕ, suc, zero, ◌+◌, ◌*◌, min, Bool, true, false, ◌&&◌, ◌≡◌, List, [], ◌∷◌, ◌++◌, leb, ltb}
use Rattle.tree.specs.Slots.{keep}
use Rattle.tree.specs.View.{View, Used, away, used_count}
pub mod Turn

-- the smaller of the two if the test holds, and the second if not
unfoldable pub least : Bool → ℕ → ℕ → ℕ
least true a b = min a b
least false a b = b

module _ {Sig : Type 0} (d : Sig → Sig → ℕ) (v : View Sig) (q : Sig) (r : ℕ) where
  -- 1. "a is entered if its timestamp is below t and its distance to the query is at most its covering radius plus r"
  unfoldable pub enters : ℕ → ℕ → Bool
  enters a t = ltb (v.timestamp a) t && leb (away d v q a) (v.radius a + r)

  -- 3. "each child is visited .. if its distance is at most the smallest distance of its older siblings plus 2r (the
  -- first child always)": at most the distance of every older sibling plus 2r
  unfoldable pub is_visited : List ℕ → ℕ → Bool
  is_visited [] b = true
  is_visited (o ∷ os) b = leb (away d v q b) (away d v q o + 2 * r) && is_visited os b

  -- 3. "Its bound is the smallest of t and the timestamps of younger siblings c where the child's distance exceeds c's
  -- distance plus 2r": of child b, whose younger siblings are the list
  unfoldable pub bound : ℕ → ℕ → List ℕ → ℕ
  bound t b [] = t
  bound t b (c ∷ cs) = least (ltb (away d v q c + 2 * r) (away d v q b)) (v.timestamp c) (bound t b cs)

  -- 3. the children's turn, "in rising timestamp order": os are the older siblings, and `go` visits a child with its
  -- bound
  unfoldable pub turn : (ℕ → ℕ → List ℕ) → ℕ → List ℕ → List ℕ → List ℕ
  turn go t os [] = []
  turn go t os (b ∷ bs) = keep (is_visited os b) (go b (bound t b bs)) ++ turn go t (b ∷ os) bs

  -- "Visiting a with bound t": the slots entered; fuel: the depth left
  unfoldable pub visit : ℕ → ℕ → ℕ → List ℕ
  visit zero a t = []
  visit (suc f) a t = keep (enters a t) (a ∷ turn (visit f) t [] (v.children a))

  -- the walk from a with bound t in a table of n slots: "Depth never exceeds the number of used records"
  abbrev pub walk : ℕ → ℕ → ℕ → List ℕ
  walk n a t = visit (used_count v n) a t

  -- "Visiting a with bound t" by the paper's text alone, with no word of depth: w tells what is entered, and each child
  -- is visited "by the same walk". `Fuel` shows that there is one such walk and no other, and that it is `visit`
  abbrev pub IsWalk : (ℕ → ℕ → List ℕ) → Type 0
  IsWalk w = (a t : ℕ) → Used v a → w a t ≡ keep (enters a t) (a ∷ turn w t [] (v.children a))

  -- 2. "If that distance is at most r, a's card is listed": the cards listed of the slots entered
  unfoldable pub listed : List ℕ → List ℕ
  listed [] = []
  listed (a ∷ l) = keep (leb (away d v q a) r) (v.card a ∷ []) ++ listed l
