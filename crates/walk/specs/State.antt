-- Loop: how far a walk has come, in the lent list, the cards found and the distances counted, and what it leaves.
use Rattle.std.specs.Prelude.{ℕ, ◌+◌, ◌^◌, ◌≤◌, ◌<◌, List, length}
use Rattle.std.proofs.lemmas.List.Edits.{sets}
use Rattle.distance.specs.Kind.{apart}
use Rattle.tree.specs.View.{child_counts}
use Rattle.tree.specs.Search.{listed}
use Rattle.view.specs.View.{view_of}
use Rattle.walk.specs.declared.Reached.{Reached}
use Rattle.steps.specs.Step.{Query, away_in, card_within}
use Rattle.steps.specs.Loop.Children.{entered_from}

pub record State : Type 0 where
  pub list : List ℕ
  pub found : ℕ
  pub count : ℕ

abbrev pub state : List ℕ → ℕ → ℕ → State
state list found count = record { list = list; found = found; count = count }

-- a list, and how far the code has come with it
abbrev pub state_of : List ℕ → Reached → State
state_of list r = state list r.found r.count

-- the code can hold what is found and counted: the cards in a list as long as l, and the count in four bytes
abbrev pub Fits : List ℕ → State → Type 0
Fits l S = (S.found ≤ length l) × (S.count < 2 ^ 32)

module _ (Q : Query) where
  -- the cards listed of the slots entered
  abbrev pub listed_of : List ℕ → List ℕ
  listed_of es = listed (apart Q.kind) (view_of Q.records) Q.readings Q.radius es

  -- the slots es are entered: their cards within r go into the list after those found, and their child counts are added
  unfoldable pub after : State → List ℕ → State
  after S es =
      state
      (sets S.list S.found (listed_of es))
      (S.found + length (listed_of es))
      (S.count + child_counts (view_of Q.records) es)

  -- steps 2 and 3 of slot a: its card is listed if it is within r, and its children are counted
  abbrev pub noted : ℕ → State → State
  noted a S =
      let own = card_within (Q.records a) (away_in Q a) Q.radius in
      state (sets S.list S.found own) (S.found + length own) (S.count + (Q.records a).count)

  -- what the walk from slot a with the bound t leaves; left: the depth left
  abbrev pub walked : ℕ → ℕ → ℕ → State → State
  walked left a t S = after S (entered_from Q left a t)
