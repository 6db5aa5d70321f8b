-- "Insert (001, Algorithm 1)": the records that the walk visits, and what the table is afterwards. The distance count
-- is `distance_count` of View at the records visited, in the table before the call.
use Rattle.std.specs.Prelude.{ℕ, suc, zero, ◌≤◌, ◌<◌, max, Bool, ◌&&◌, not, cond, ◌≡◌, List, [], ◌∷◌, ◌++◌, ltb, length}
use Rattle.tree.specs.Slots.{◌∈◌, keep}
use Rattle.tree.specs.View.{View, Used, Late, away, used_count}

-- the last of a and what follows it
unfoldable pub last : ℕ → List ℕ → ℕ
last a [] = a
last a (b ∷ l) = last b l

-- ---- the walk of the new card's signature x

-- 2. "Find a's child c nearest to x. Among children equally near, the oldest is taken": of c and the younger ones
-- after it
unfoldable pub nearest : {Sig : Type 0} → (Sig → Sig → ℕ) → View Sig → Sig → ℕ → List ℕ → ℕ
nearest d v x c [] = c
nearest d v x c (e ∷ l) = nearest d v x (cond (ltb (away d v x e) (away d v x c)) e c) l

module _ {Sig : Type 0} (d : Sig → Sig → ℕ) (v : View Sig) (x : Sig) (arity : ℕ) where
  -- 3. "x is strictly nearer to a than to c and a has fewer children than the arity given"
  unfoldable pub hangs : ℕ → ℕ → Bool
  hangs a c = ltb (away d v x a) (away d v x c) && ltb (length (v.children a)) arity

  -- 3. "If a has no child, or .., x becomes a's last child .. Otherwise repeat at c": what is visited after a, whose
  -- children the list is; `go` walks on from a child
  unfoldable pub onward : (ℕ → List ℕ) → ℕ → List ℕ → List ℕ
  onward go a [] = []
  onward go a (c ∷ l) = keep (not (hangs a (nearest d v x c l))) (go (nearest d v x c l))

  -- the records visited from a on; fuel: the depth left
  unfoldable pub path : ℕ → ℕ → List ℕ
  path zero a = []
  path (suc f) a = a ∷ onward (path f) a (v.children a)

  -- the same by the paper's text alone, with no word of depth: a is visited, and then "repeat at c" or nothing. `Fuel`
  -- shows that there is one such walk and no other, and that it is `path`
  abbrev pub IsWalk : (ℕ → List ℕ) → Type 0
  IsWalk w = (a : ℕ) → Used v a → w a ≡ a ∷ onward w a (v.children a)

  -- the walk from a in a table of n slots
  abbrev pub walk : ℕ → ℕ → List ℕ
  walk n a = path (used_count v n) a

  -- the record whose last child x becomes
  unfoldable pub attach : ℕ → ℕ → ℕ
  attach f root = last root (path f root)

-- ---- the table afterwards

-- s is a free slot of the table, c a new card, and t above every timestamp in use
pub record Fresh {Sig : Type 0} (v : View Sig) (n s c t : ℕ) : Type 0 where
  pub slot_within : s < n
  pub slot_free : Used v s → ⊥
  pub card_some : 1 ≤ c
  pub card_new : (a : ℕ) → Used v a → v.card a ≡ c → ⊥
  pub late : Late v t

-- w is v with card c, signature x and timestamp t in slot s, as last child of `on`, after a walk that visited p
pub record Inserted {Sig : Type 0} (d : Sig → Sig → ℕ) (v w : View Sig)
    (c : ℕ) (x : Sig) (s t on : ℕ) (p : List ℕ) : Type 0 where
  -- "x becomes a's last child, with radius 0 and no child"
  pub card_new : w.card s ≡ c
  pub timestamp_new : w.timestamp s ≡ t
  pub radius_new : w.radius s ≡ 0
  pub parent_new : w.parent s ≡ on
  pub children_new : w.children s ≡ []
  pub signature_new : w.signature s ≡ x
  pub children_on : w.children on ≡ v.children on ++ (s ∷ [])
  -- 1. "a's covering radius becomes the larger of itself and the distance from a to x"
  pub radius_path : (a : ℕ) → a ∈ p → w.radius a ≡ max (v.radius a) (away d v x a)
  -- all else is as it was
  pub card_old : (a : ℕ) → (a ≡ s → ⊥) → w.card a ≡ v.card a
  pub timestamp_old : (a : ℕ) → (a ≡ s → ⊥) → w.timestamp a ≡ v.timestamp a
  pub radius_old : (a : ℕ) → (a ≡ s → ⊥) → (a ∈ p → ⊥) → w.radius a ≡ v.radius a
  pub parent_old : (a : ℕ) → (a ≡ s → ⊥) → w.parent a ≡ v.parent a
  pub children_old : (a : ℕ) → (a ≡ s → ⊥) → (a ≡ on → ⊥) → w.children a ≡ v.children a
  pub signature_old : (a : ℕ) → (a ≡ s → ⊥) → w.signature a ≡ v.signature a

-- "In a free table it becomes the root, with radius 0 and no child": s alone is used, and no slot has a child
pub record Alone {Sig : Type 0} (w : View Sig) (n s : ℕ) : Type 0 where
  pub within : s < n
  pub used : Used w s
  pub only : (a : ℕ) → Used w a → a ≡ s
  pub childless : (a : ℕ) → w.children a ≡ []
