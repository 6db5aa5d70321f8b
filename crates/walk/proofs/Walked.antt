-- Laws of what a walk leaves: nothing entered, one slot, one walk after another, and what fits. Assumes nothing.
use Prim.Native.Nat.{ℕ, ◌-◌, ◌≤◌}
use mathlib.Core.Path.{◌≡◌, sym, ap, ◌∙◌}
use mathlib.Core.Bool.{true}
use mathlib.Core.List.{List, [], ◌∷◌, ◌++◌}
use native.Mathlib.Omega.{arith}
use native.Mathlib.Nat.{add-zero, add_assoc}
use lib.ListN.{length, length-append}
use lib.Seq.{length-sets}
use Rattle.places.specs.Fill.{sets_append}
use Rattle.distance.specs.Kind.{apart}
use Rattle.tree.specs.View.{child_counts}
use Rattle.tree.specs.View.Count.{child_counts_append}
use Rattle.tree.specs.Search.{listed}
use Rattle.tree.proofs.Search.Finds.{listed_append}
use Rattle.view.specs.View.{view_of}
use Rattle.walk.specs.declared.Reached.{Reached}
use Rattle.steps.specs.Step.{Query, away_in, card_within}
use Rattle.steps.specs.Loop.Children.{rest_from}
use Rattle.walk.specs.State.{State, state, state_of, Fits, listed_of, after, noted, walked}
use Rattle.steps.specs.Loop.Laws.{enters_at, count_length, visit_in}

pub same_parts :
    {l l' : List ℕ} {f f' c c' : ℕ}
    → l ≡ l'
    → f ≡ f'
    → c ≡ c'
    → state l f c ≡ state l' f' c'
same_parts p q r = rw (p, q, r)

pub same_state : {l l' : List ℕ} {r r' : Reached} → l ≡ l' → r ≡ r' → state_of l r ≡ state_of l' r'
same_state p q i = state_of (p i) (q i)

module _ (Q : Query) where
  after_none : (S : State) → after Q S [] ≡ S
  unfolding after listed child_counts
  after_none S = rw (add-zero S.found, add-zero S.count)

  -- nothing is entered
  pub stays : (S : State) (es : List ℕ) → es ≡ [] → S ≡ after Q S es
  stays S es e = rw e (sym (after_none S))

  after_append : (S : State) (es fs : List ℕ) → after Q S (es ++ fs) ≡ after Q (after Q S es) fs
  unfolding after
  after_append S es fs =
      rw (
        listed_append (apart Q.kind) (view_of Q.records) Q.readings Q.radius es fs,
        child_counts_append (view_of Q.records) es fs,
        sets_append,
        length-append,
        ← add_assoc S.found (length (listed_of Q es)) (length (listed_of Q fs)),
        ← add_assoc S.count (child_counts (view_of Q.records) es) (child_counts (view_of Q.records) fs),
      )

  pub after_length : (S : State) (es : List ℕ) → length (after Q S es).list ≡ length S.list
  unfolding after
  after_length S es = length-sets S.list S.found (listed_of Q es)

  -- ---- what fits at the end fits on the way

  pub fits_start : (l : List ℕ) (S : State) (es : List ℕ) → Fits l (after Q S es) → Fits l S
  unfolding after
  fits_start l S es h = (omega arith, omega arith)

  pub fits_first : (l : List ℕ) (S : State) (es fs : List ℕ) → Fits l (after Q S (es ++ fs)) → Fits l (after Q S es)
  fits_first l S es fs h = fits_start l (after Q S es) fs (rw (after_append S es fs) at h)

  -- ---- a turn of the loop from the state S to the state T, where `rest` is left before it and `later` after it

  module _ (S T : State) (rest later : List ℕ) where
    -- a child's walk went first
    pub turn_walked :
        (es : List ℕ)
        → T ≡ after Q S es
        → rest ≡ es ++ later
        → (length T.list ≡ length S.list) × (after Q T later ≡ after Q S rest)
    turn_walked es e f = (
      ap (λ (z : State). length z.list) e ∙ after_length S es,
      ap (λ (z : State). after Q z later) e ∙ sym (after_append S es later) ∙ ap (after Q S) (sym f),
    )

    -- the child was passed over
    pub turn_passed :
        T ≡ S → rest ≡ later → (length T.list ≡ length S.list) × (after Q T later ≡ after Q S rest)
    turn_passed e f = (
      ap (λ (z : State). length z.list) e,
      ap (λ (z : State). after Q z later) e ∙ ap (after Q S) (sym f),
    )

  -- ---- slot a is entered: its card, its child count, and then its children

  module _ (a : ℕ) (few : (Q.records a).count ≤ length (Q.records a).slots) where
    after_own : (S : State) (es : List ℕ) → after Q S (a ∷ es) ≡ after Q (noted Q a S) es
    unfolding after listed child_counts
    after_own S es =
        let own = card_within (Q.records a) (away_in Q a) Q.radius in
        rw (
          count_length Q a few,
          sets_append own (listed_of Q es) S.list S.found,
          length-append own (listed_of Q es),
          ← add_assoc S.found (length own) (length (listed_of Q es)),
          ← add_assoc S.count (Q.records a).count (child_counts (view_of Q.records) es),
        )

    pub entered_after :
        (S : State) (left t : ℕ)
        → (left ≡ 0 → ⊥)
        → enters_at Q a t ≡ true
        → after Q (noted Q a S) (rest_from Q (left - 1) a t 0) ≡ walked Q left a t S
    entered_after S left t h e =
        sym (ap (after Q S) (visit_in Q left a t h e) ∙ after_own S (rest_from Q (left - 1) a t 0))
