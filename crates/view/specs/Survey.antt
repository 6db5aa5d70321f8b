-- What the survey's answers say of a well-formed table, and that the tree counts as the survey does. Assumes nothing.
use Prim.Native.Nat.{ℕ, zero, suc, ◌≤◌, ◌<◌, min}
use Rattle.std.specs.Prelude.{◌≡◌, refl, true, false, leb}
use Rattle.std.proofs.Math.Bool.{Bool}
use Rattle.std.proofs.Common.{arith, leb-true, leb-false, le-leb}
use Rattle.places.specs.Count.{one}
use Rattle.places.specs.Test.{count_to}
use Rattle.table.specs.Record.{Record, Used, used, no_slot}
use Rattle.places.specs.Cases.{below_or}
use Rattle.judge.specs.WellFormed.{WellFormed}
use Rattle.survey.specs.Survey.{first_from, used_in, root_of, kind_of}
use Rattle.survey.specs.First.{first_passes}
use Rattle.survey.specs.Laws.{used_in_some, root_used, root_no_parent, no_root_before}
use Rattle.tree.specs.View.{used_count}
use Rattle.view.specs.View.{view_of}

-- ---- how many are used

one_used : (c : ℕ) → min 1 c ≡ one (leb 1 c)
one_used c = go (leb 1 c) refl
  where
    go : (t : Bool) → leb 1 c ≡ t → min 1 c ≡ one t
    go true y = omega (arith, leb-true 1 c y)
    go false y = omega (arith, leb-false 1 c y)

-- the tree counts the same
pub used_in_used_count : (n : ℕ) (R : ℕ → Record) → used_count (view_of R) n ≡ used_in n R
unfolding used_in used_count count_to
used_in_used_count zero R = refl
used_in_used_count (suc n) R = omega (arith, used_in_used_count n R, one_used (R n).card)

-- ---- the root, and the kind

module _ (n : ℕ) (R : ℕ → Record) where
  pub root_of_is :
      WellFormed n R → 1 ≤ used_in n R
      → (root_of n R < n) × Used (R (root_of n R)) × ((R (root_of n R)).parent ≡ no_slot)
  root_of_is wf some =
      let w = used_in_some n R some in
      let z = wf.a_root w.0 w.1 w.2 in
      let found =
      below_or
      (root_of n R)
      n
      (λ b. b)
      (λ b. absurd (no_root_before n R z.0 (omega (arith, z.1)) z.2 z.3)) in
      (found, root_used n R found, root_no_parent n R found)

  pub kind_of_is : WellFormed n R → (s : ℕ) → s < n → Used (R s) → kind_of n R ≡ (R s).kind
  unfolding kind_of
  kind_of_is wf s b u =
      let isUsed : ℕ → Bool = λ a. used (R a) in
      let y = first_passes isUsed 0 n s (omega arith) (omega arith) (le-leb 1 (R s).card u) in
      let r = first_from isUsed 0 n in
      wf.kinds r s (omega (arith, y.0)) b (leb-true 1 (R r).card y.1) u
