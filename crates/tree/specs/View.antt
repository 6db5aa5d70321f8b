-- A table as the tree sees it: functions of the slot; what a well-formed table is, and a sound one, in the paper's
-- words; and the distance count, which search and insert share.
use Rattle.std.specs.Prelude.{ℕ, suc, zero, ◌+◌, ◌≤◌, ◌<◌, min, ◌≡◌, length}
use mathlib.Core.List.{List, [], ◌∷◌, flat_map}
use Rattle.tree.specs.Slots.{◌∈◌}
pub mod Shape
pub mod Count
pub mod Under
pub mod Above

-- "The record": what the tree reads of each slot; children are the counted child slots, in their order
pub record View (Sig : Type 0) : Type 0 where
  pub card : ℕ → ℕ
  pub timestamp : ℕ → ℕ
  pub radius : ℕ → ℕ
  pub parent : ℕ → ℕ
  pub children : ℕ → List ℕ
  pub signature : ℕ → Sig

-- a slot is used if it holds a card
abbrev pub Used : {Sig : Type 0} → View Sig → ℕ → Type 0
Used v a = 1 ≤ v.card a

-- how many of the first n slots are used; a used slot counts 1, a free one 0
unfoldable pub used_count : {Sig : Type 0} → View Sig → ℕ → ℕ
used_count v zero = 0
used_count v (suc n) = min 1 (v.card n) + used_count v n

-- no slot is used
abbrev pub Free : {Sig : Type 0} → View Sig → Type 0
Free v = (a : ℕ) → Used v a → ⊥

-- every used record is older than t
abbrev pub Late : {Sig : Type 0} → View Sig → ℕ → Type 0
Late v t = (a : ℕ) → Used v a → v.timestamp a < t

-- ---- distances

-- the distance of slot a's record to the signature x
abbrev pub away : {Sig : Type 0} → (Sig → Sig → ℕ) → View Sig → Sig → ℕ → ℕ
away d v x a = d (v.signature a) x

-- "the cards compared are the root and the children of entered records": by a walk that enters these slots
unfoldable pub compared : {Sig : Type 0} → View Sig → ℕ → List ℕ → List ℕ
compared v root l = root ∷ flat_map v.children l

-- the child counts of these slots, added up
unfoldable pub child_counts : {Sig : Type 0} → View Sig → List ℕ → ℕ
child_counts v [] = 0
child_counts v (a ∷ l) = length (v.children a) + child_counts v l

-- "1 plus the child counts" of the slots that a walk enters (search) or visits (insert)
unfoldable pub distance_count : {Sig : Type 0} → View Sig → List ℕ → ℕ
distance_count v l = 1 + child_counts v l

-- ---- the tree

-- x stands k levels below a; at level 0 it is a itself
pub data Below (children : ℕ → List ℕ) (x : ℕ) : ℕ → ℕ → Type 0 where
  here : {a : ℕ} → x ≡ a → Below children x zero a
  down : {k a b : ℕ} → b ∈ children a → Below children x k b → Below children x (suc k) a

-- all that stands at or below a slot, in walk order: the slot, then for each child in turn what stands at or below it;
-- fuel: the levels left
unfoldable pub under : (ℕ → List ℕ) → ℕ → ℕ → List ℕ
under children zero a = []
under children (suc f) a = a ∷ flat_map (under children f) (children a)

-- nothing stands f or more levels below a
abbrev pub Shallow : (ℕ → List ℕ) → ℕ → ℕ → Type 0
Shallow children f a = (k x : ℕ) → Below children x k a → k < f

-- "in rising timestamp order": each is older than all that follow it
abbrev pub Rising : (ℕ → ℕ) → List ℕ → Type 0
Rising timestamp [] = Unit {0}
Rising timestamp (a ∷ l) = ((c : ℕ) → c ∈ l → timestamp a < timestamp c) × Rising timestamp l

-- "Well formed": a used table of n slots whose root this is
pub record Formed {Sig : Type 0} (v : View Sig) (n root : ℕ) : Type 0 where
  -- used slots are slots of the table
  pub within : (a : ℕ) → Used v a → a < n
  -- "cards are distinct; timestamps are distinct"
  pub cards : (a b : ℕ) → Used v a → Used v b → v.card a ≡ v.card b → a ≡ b
  pub timestamps : (a b : ℕ) → Used v a → Used v b → v.timestamp a ≡ v.timestamp b → a ≡ b
  -- "exactly one is a root": it is used, and no record's child
  pub root_used : Used v root
  pub root_top : (a : ℕ) → root ∈ v.children a → ⊥
  -- "every other used record names a used parent .. and stands .. in that parent's child slots"
  pub hung : (a : ℕ) → Used v a → (a ≡ root → ⊥) → Used v (v.parent a) × a ∈ v.children (v.parent a)
  -- "with a smaller timestamp"
  pub older : (a b : ℕ) → b ∈ v.children a → v.timestamp a < v.timestamp b
  -- "every child slot within the count names a used record whose parent is this one"
  pub child_used : (a b : ℕ) → b ∈ v.children a → Used v b
  pub child_parent : (a b : ℕ) → b ∈ v.children a → v.parent b ≡ a
  -- "children stand in rising timestamp order", so each of them once
  pub rising : (a : ℕ) → Rising v.timestamp (v.children a)
  -- a free record has no child
  pub parent_used : (a b : ℕ) → b ∈ v.children a → Used v a

-- "Sound", beyond well formed: (a) and (b)
pub record Sound {Sig : Type 0} (d : Sig → Sig → ℕ) (v : View Sig) : Type 0 where
  -- (a) "each record's covering radius is at least its distance to every record below it"
  pub cover : (k a x : ℕ) → Used v a → Below v.children x (suc k) a
      → d (v.signature a) (v.signature x) ≤ v.radius a
  -- (b) "if b and c are children of one record, and x stands below b with c older than x, then x is no farther from b
  -- than from c"
  pub near : (k a b c x : ℕ) → Used v a → b ∈ v.children a → c ∈ v.children a → Below v.children x (suc k) b
      → v.timestamp c < v.timestamp x → d (v.signature x) (v.signature b) ≤ d (v.signature x) (v.signature c)
