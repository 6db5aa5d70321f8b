-- The definitions at work on the paper's listing: the table after its line 6 (cards 11 to 16, reading 0 alone, arity
-- 2). Line 7 comes out as printed, and the search that "Errors that look right" gives first finds its card. The edges
-- themselves, on the listing's own table, are in the crate `listing`.
use Rattle.std.specs.Prelude.{ℕ, ◌+◌, ◌-◌, ◌≡◌, refl, List, [], ◌∷◌, get_or}
use Rattle.tree.specs.Slots.{keep}
use Rattle.tree.specs.View.{View, used_count, child_counts, distance_count}
use Rattle.tree.specs.Search.{least, enters, is_visited, bound, turn, visit, walk, listed}
use Rattle.tree.specs.Insert.{nearest, hangs, onward, path}
use Rattle.tree.specs.Insert as Insert

distance : ℕ → ℕ → ℕ
distance a b = (a - b) + (b - a)

six : View ℕ
six = record {
  card = λ a. get_or (11 ∷ 12 ∷ 13 ∷ 14 ∷ 15 ∷ 16 ∷ []) a 0;
  timestamp = λ a. get_or (1 ∷ 2 ∷ 3 ∷ 4 ∷ 5 ∷ 6 ∷ []) a 0;
  radius = λ a. get_or (30 ∷ 28 ∷ 20 ∷ 0 ∷ 0 ∷ 0 ∷ []) a 0;
  parent = λ a. get_or (65535 ∷ 0 ∷ 0 ∷ 1 ∷ 2 ∷ 1 ∷ []) a 0;
  children = λ a. get_or ((1 ∷ 2 ∷ []) ∷ (3 ∷ 5 ∷ []) ∷ (4 ∷ []) ∷ []) a [];
  signature = λ a. get_or (50 ∷ 80 ∷ 20 ∷ 52 ∷ 40 ∷ 78 ∷ []) a 0;
}

-- what a search for q with radius r lists, and its distance count
abbrev found : ℕ → ℕ → List ℕ × ℕ
found q r = (listed distance six q r (walk distance six q r 8 0 7), distance_count six (walk distance six q r 8 0 7))

line_7 : found 48 5 ≡ (11 ∷ 14 ∷ [], 5)
unfolding distance six keep used_count child_counts distance_count least enters is_visited bound turn visit listed
line_7 = refl

below_13 : found 40 0 ≡ (15 ∷ [], 4)
unfolding distance six keep used_count child_counts distance_count least enters is_visited bound turn visit listed
below_13 = refl

-- "a search for 52 with radius 0": card 11 is nearer to it than card 12, below which card 14 stands
nearer_parent : listed distance six 52 0 (walk distance six 52 0 8 0 7) ≡ 14 ∷ []
unfolding distance six keep used_count least enters is_visited bound turn visit listed
nearer_parent = refl

-- a seventh card at 41 would be compared with four, and hang below card 15
seventh :
    (Insert.walk distance six 41 2 8 0 ≡ 0 ∷ 2 ∷ 4 ∷ [])
    × (distance_count six (Insert.walk distance six 41 2 8 0) ≡ 4)
unfolding distance six keep used_count child_counts distance_count nearest hangs onward path
seventh = (refl, refl)
