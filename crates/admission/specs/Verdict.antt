-- What the pass has seen and the two tests of keys give the verdict: the counting form, which is proved to say what the
-- paper's clauses say. And of a well-formed table the pass has found what calls ask of it. Assumes nothing.
use Rattle.std.specs.Prelude.{ℕ, zero, suc, ◌+◌, ◌*◌, ◌≤◌, ◌<◌, ◌≡◌, refl, Bool, true, false, ◌&&◌, not}
use Rattle.std.specs.Prelude.{Option, MatchOption, is_some}
use Rattle.std.specs.Option.{unwrap_or}
use Rattle.std.specs.Bool.{then_some}
use Rattle.std.proofs.Math.Path.{sym, ap}
use Rattle.std.proofs.Common.{◌∙◌, arith, leb-true, eqb-true}
use Rattle.std.proofs.Math.Dec.{eqb}
use mir.Val.{bool_byte}
use Rattle.places.specs.Choice.{pick, and_left, and_right}
use Rattle.places.specs.Test.{all_to}
use Rattle.distinct.specs.Distinct.{distinct_to}
use Rattle.refusals.specs.Limits.{most_records}
use Rattle.places.specs.Cases.{below_or}
use Rattle.table.specs.Record.{Record, Used, used, no_slot}
use Rattle.judge.specs.WellFormed.{WellFormed, if_any, is_root, well_formed}
use Rattle.judge.specs.Decided.{formed_decided}
use Rattle.judge.specs.Counted.{kind_before, used_count, fits, agree, counted}
use Rattle.judge.specs.Passing.{kind_none, kind_all}
use Rattle.judge.specs.Counting.{counted_same}
use Rattle.survey.specs.Survey.{first_from, used_in, lowest_free, root_of, kind_of}
use Rattle.survey.specs.First.{first_from_lem}
use Rattle.survey.specs.Answers.{Answers}
use Rattle.links.specs.Loop.Found.{first_end, first_found, one_end, one_found, one_counted}
use Rattle.links.specs.declared.Seen.{Seen}
use Rattle.links.specs.Loop.Seen.{SeenBefore, Misfit, is_empty, kind_found, largest_byte}

-- what is asked of the numbers at the end
abbrev pub numbers_agree : Seen → Bool
numbers_agree seen =
    let roots = bool_byte (is_some seen.root) in
    eqb roots (if_any seen.used) && eqb (seen.children + roots) seen.used

pub byte_most : (t : Bool) → bool_byte t ≤ 1
byte_most true = omega arith
byte_most false = omega arith

pub any_byte : (used : ℕ) → bool_byte (not (eqb used 0)) ≡ if_any used
any_byte used = go (eqb used 0)
  where
    go : (t : Bool) → bool_byte (not t) ≡ pick {A = ℕ} t 0 1
    go true = refl
    go false = refl

-- the records are well formed, and all of them were seen, or they are not
abbrev pub Judged : ℕ → (ℕ → Record) → Option Seen → Type 0
Judged n R seen =
    MatchOption seen (well_formed n R ≡ false) (λ all. (well_formed n R ≡ true) × SeenBefore n R n all)

module _ (n : ℕ) (R : ℕ → Record) (small : n ≤ no_slot) where
  abbrev keys : Bool
  keys = distinct_to n (λ s. (R s).card) && distinct_to n (λ s. (R s).timestamp)

  -- by the records and the numbers, and then by the keys
  by_parts : (t : Bool) → all_to n (fits n R) && agree n R ≡ t → well_formed n R ≡ t && keys
  unfolding counted
  by_parts t e = sym (counted_same n R small) ∙ ap (λ (b : Bool). b && keys) e

  -- the pass refuses the table
  pub misfit_not : Misfit n R → well_formed n R ≡ false
  misfit_not e = by_parts false e

  module _ (seen : Seen) (all : SeenBefore n R n seen) where
    pub children_few : n ≤ most_records → seen.children ≤ largest_byte * most_records
    children_few most = omega (arith, all.few)

    passed_agree : all_to n (fits n R) && agree n R ≡ numbers_agree seen
    unfolding agree
    passed_agree =
        let all_used : seen.used ≡ used_count n R = omega (arith, all.used) in
        let roots = one_counted (is_root R) n seen.root all.root in
        λ i.
        sym all.fit i
        && (eqb (roots i) (if_any (sym all_used i)) && eqb (sym all.children i + roots i) (sym all_used i))

    -- the numbers refuse it
    pub numbers_not : numbers_agree seen ≡ false → well_formed n R ≡ false
    numbers_not e = by_parts false (passed_agree ∙ e)

    -- they do not, and the keys decide
    pub keys_decide : numbers_agree seen ≡ true → well_formed n R ≡ keys
    keys_decide e = by_parts true (passed_agree ∙ e)

    pub cards_not : numbers_agree seen ≡ true → distinct_to n (λ s. (R s).card) ≡ false → well_formed n R ≡ false
    cards_not e c =
        keys_decide e ∙ ap (λ (t : Bool). t && distinct_to n (λ s. (R s).timestamp)) c

    pub timestamps_decide :
        numbers_agree seen ≡ true
        → distinct_to n (λ s. (R s).card) ≡ true
        → well_formed n R ≡ distinct_to n (λ s. (R s).timestamp)
    timestamps_decide e c =
        keys_decide e ∙ ap (λ (t : Bool). t && distinct_to n (λ s. (R s).timestamp)) c

    -- timestamps that rise are all different
    pub rising_apart : seen.rising ≡ true → true ≡ distinct_to n (λ s. (R s).timestamp)
    rising_apart up = sym (all.apart up)

    -- what was seen is told if the last test says so
    pub judged : (t : Bool) → well_formed n R ≡ t → Judged n R (then_some t seen)
    judged true e = (e, all)
    judged false e = e

-- ---- what the pass found for the calls

-- a table has one root at most, so the one that the pass met is the first
one_root_lem :
    (n : ℕ) (R : ℕ → Record)
    → WellFormed n R
    → (i j : ℕ)
    → i < n
    → j < n
    → is_root R i ≡ true
    → is_root R j ≡ true
    → i ≡ j
one_root_lem n R wf i j bi bj ri rj =
    wf.one_root_lem i j bi bj (in_use i ri) (in_use j rj) (no_parent i ri) (no_parent j rj)
  where
    in_use : (s : ℕ) → is_root R s ≡ true → Used (R s)
    in_use s e = leb-true 1 (R s).card (and_left (used (R s)) (eqb (R s).parent no_slot) e)

    no_parent : (s : ℕ) → is_root R s ≡ true → (R s).parent ≡ no_slot
    no_parent s e = eqb-true (R s).parent no_slot (and_right (used (R s)) (eqb (R s).parent no_slot) e)

-- all kinds are equal, so the last is the first; past its slots a table has kind 0
kind_first : (n : ℕ) (R : ℕ → Record) → WellFormed n R → (R n).kind ≡ 0 → kind_before R n ≡ kind_of n R
unfolding kind_of
kind_first n R wf past =
    let p : ℕ → Bool = λ s. used (R s) in
    let a = first_from p 0 n in
    let first = first_from_lem p 0 n in
    below_or a n
    (λ h. kind_all n R wf a h (leb-true 1 (R a).card (first.passes (omega arith))))
    (λ h.
    let end : a ≡ n = omega (arith, first.to) in
    kind_none R n (λ j b. first.before j (omega arith) (omega arith)) ∙ sym past ∙ sym (ap (λ (k : ℕ). (R k).kind) end))

-- one found is the kind, and none is kind 0
found_kind : (k : ℕ) → unwrap_or (kind_found k) 0 ≡ k
found_kind zero = refl
found_kind (suc k) = refl

module _ (n : ℕ) (R : ℕ → Record) (seen : Seen) (all : SeenBefore n R n seen) (yes' : well_formed n R ≡ true) where
  pub seen_answers :
      (R n).kind ≡ 0
      → Answers n R
      (record {
        used = seen.used;
        lowest = seen.lowest;
        largest = seen.largest;
        root = seen.root;
        kind = unwrap_or seen.kind 0;
      })
  unfolding used_in lowest_free root_of
  seen_answers past =
      let wf = (formed_decided n R).shows yes' in
      record {
        used = omega (arith, all.used);
        lowest = (
          first_end (is_empty R) n seen.lowest all.lowest,
          first_found (is_empty R) n seen.lowest all.lowest,
        );
        largest = all.largest;
        root = (
          one_end (is_root R) n seen.root (one_root_lem n R wf) all.root,
          one_found (is_root R) n seen.root all.root,
        );
        kind =
            ap (λ (k : Option ℕ). unwrap_or k 0) all.kind
            ∙ found_kind (kind_before R n)
            ∙ kind_first n R wf past;
      }
