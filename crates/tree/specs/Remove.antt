-- "Delete": what the removal of a record, and of every record below it, leaves of a table.
use Rattle.std.specs.Prelude.{ℕ, cond, ◌≡◌, List, [], ◌∷◌, eqb}
use Rattle.tree.specs.Slots.{◌∈◌}
use Rattle.tree.specs.View.{View, Used, Below}

-- "the parent's later children move up one place": the list without b
unfoldable pub except : ℕ → List ℕ → List ℕ
except b [] = []
except b (a ∷ l) = cond (eqb a b) (except b l) (a ∷ except b l)

-- w is v without b and all that stood below it
pub record Removed {Sig : Type 0} (v w : View Sig) (b : ℕ) : Type 0 where
  -- "Remove the card's record and every record below it", and no other
  pub was_used : (a : ℕ) → Used w a → Used v a
  pub removed : (a k : ℕ) → Below v.children a k b → Used w a → ⊥
  pub stays : (a : ℕ) → Used v a → ((k : ℕ) → Below v.children a k b → ⊥) → Used w a
  -- what stays is as it was; "no radius shrinks"
  pub card : (a : ℕ) → Used w a → w.card a ≡ v.card a
  pub timestamp : (a : ℕ) → Used w a → w.timestamp a ≡ v.timestamp a
  pub radius : (a : ℕ) → Used w a → w.radius a ≡ v.radius a
  pub parent : (a : ℕ) → Used w a → w.parent a ≡ v.parent a
  pub signature : (a : ℕ) → Used w a → w.signature a ≡ v.signature a
  pub children : (a : ℕ) → Used w a → w.children a ≡ except b (v.children a)
  -- a slot without a card has no child
  pub parent_used : (a c : ℕ) → c ∈ w.children a → Used w a
