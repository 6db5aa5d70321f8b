-- Lists put in order by a comparison: `before x y` says that x goes before y.
use Rattle.std.specs.Prelude.{Bool, cond, List, [], ◌∷◌}
pub mod Front
pub mod Laws

module _ {A : Type 0} (before : A → A → Bool) where
  -- x put before the first of l that does not go before it
  unfoldable pub put_by : A → List A → List A
  put_by x [] = x ∷ []
  put_by x (y ∷ l) = cond (before y x) (y ∷ put_by x l) (x ∷ y ∷ l)

  -- l in order: its first is put among the others in order
  unfoldable pub sort_by : List A → List A
  sort_by [] = []
  sort_by (x ∷ l) = put_by x (sort_by l)
