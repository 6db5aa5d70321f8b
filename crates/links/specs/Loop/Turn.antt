-- Loop: how the record in slot s adds to what the pass has seen, free or used, and where it shows that the table is not
-- well formed. Assumes nothing.
use Prim.Native.Nat.{ℕ, zero, suc, ◌+◌, ◌≤◌, ◌<◌, max}
use Rattle.std.specs.Prelude.{◌≡◌, Bool, ◌&&◌, List, Option, Some, None, is_some}
use Rattle.std.specs.Option.{unwrap_or}
use Rattle.std.proofs.Math.Path.{refl, sym, ap}
use Rattle.std.proofs.Common.{◌∙◌}
use Rattle.std.proofs.Math.Bool.{true, false, not}
use native.Mathlib.Omega.{arith}
use Rattle.std.proofs.Math.Numerals.{add-one}
use Rattle.std.proofs.Math.Dec.{eqb, ltb}
use borrow.Author.Count.{below_more}
use borrow.Author.Tests.{le-leb, lt-leb, ltb-true, eq-eqb, ne_eqb}
use Rattle.std.proofs.lemmas.Bool.{false≢true}
use Rattle.places.specs.Choice.{pick, implies, and_left, and_right}
use Rattle.places.specs.Test.{all_to, all_none, all_fails, all_more, count_to, count_more, count_still}
use Rattle.places.specs.Sum.{sum_to, sum_more, sum_still}
use Rattle.places.specs.Decides.{Decides, decides_same}
use Rattle.distinct.specs.Distinct.{distinct_to, distinct_none, distinct_more}
use Rattle.distance.specs.Kind.{known_kind}
use Rattle.table.specs.Record.{Record, Used, used, free, no_slot, record_of}
use Rattle.judge.specs.WellFormed.{is_free, is_filled, is_root}
use Rattle.judge.specs.OneDecided.{free_decided, filled_decided}
use Rattle.judge.specs.Counted.{kind_before, same_kind, all_linked, fits, used_count, root_count, child_count, agree}
use Rattle.survey.specs.Survey.{largest_timestamp}
use Rattle.links.specs.declared.Seen.{Seen}
use Rattle.links.specs.Loop.Found.{OneBefore, first_start, first_still, first_more}
use Rattle.links.specs.Loop.Found.{one_start, one_still, one_here, one_twice}
use Rattle.links.specs.Loop.Seen.{is_empty, kind_found, with_free, with_used, SeenBefore, Misfit}

and_no : (t : Bool) → t && false ≡ false
and_no true = refl
and_no false = refl

both_not : (a b : Bool) → not b && not a ≡ not (implies (not a) b)
both_not true true = refl
both_not true false = refl
both_not false true = refl
both_not false false = refl

-- where there is a kind before, the test holds a record's own kind to it
kind_told : (k own : ℕ) → eqb (unwrap_or (kind_found k) own) own ≡ implies (not (eqb k 0)) (eqb k own)
kind_told zero own = eq-eqb own own refl
kind_told (suc k) own =
    sym (ap (λ (t : Bool). implies (not t) (eqb (suc k) own)) (ne_eqb (suc k) 0 (λ e. omega arith)))

-- a known kind is found as such
known_found : (k : ℕ) → known_kind k ≡ true → Some k ≡ kind_found k
known_found zero e = absurd (false≢true e)
known_found (suc k) e = refl

-- the read of a free record is the test of one
pub told : (l : List ℕ) (s : ℕ) (ok : Bool) → Decides ok (record_of l s ≡ free) → ok ≡ is_free (record_of l s)
told l s ok h = decides_same h (free_decided (record_of l s))

module _ (n : ℕ) (R : ℕ → Record) where
  -- one record more: the largest timestamp by whether it is used
  largest_turn :
      (s : ℕ) (t : Bool)
      → used (R s) ≡ t
      → largest_timestamp (s + 1) R ≡ max (pick t (R s).timestamp 0) (largest_timestamp s R)
  unfolding largest_timestamp
  largest_turn s t e =
      rw add-one (ap (λ (u : Bool). max (pick u (R s).timestamp 0) (largest_timestamp s R)) e)

  unused : (s : ℕ) → (R s).card ≡ 0 → used (R s) ≡ false
  unused s z = lt-leb 1 (R s).card (omega arith)

  in_use : (s : ℕ) → Used (R s) → used (R s) ≡ true
  in_use s u = le-leb 1 (R s).card u

  -- what is asked of the record in slot s goes by whether it is used
  by_use :
      (s : ℕ) {t : Bool}
      → used (R s) ≡ t
      → fits n R s ≡ pick t (same_kind R s && (is_filled (R s) && all_linked n R s)) (is_free (R s))
  unfolding fits
  by_use s = ap (λ (t : Bool). pick t (same_kind R s && (is_filled (R s) && all_linked n R s)) (is_free (R s)))

  -- ---- where the table is not well formed

  misfits : (s : ℕ) → s < n → fits n R s ≡ false → Misfit n R
  misfits s b e = ap (λ (t : Bool). t && agree n R) (all_fails n (fits n R) s b e)

  pub free_unfit : (s : ℕ) → s < n → (R s).card ≡ 0 → is_free (R s) ≡ false → Misfit n R
  free_unfit s b z e = misfits s b (by_use s (unused s z) ∙ e)

  pub record_unfit : (s : ℕ) → s < n → Used (R s) → is_filled (R s) && all_linked n R s ≡ false → Misfit n R
  record_unfit s b u e =
      misfits s b (by_use s (in_use s u) ∙ ap (λ (t : Bool). same_kind R s && t) e ∙ and_no (same_kind R s))

  -- two roots are more than one
  two_roots : 2 ≤ root_count n R → Misfit n R
  unfolding agree
  two_roots h =
      ap (λ (t : Bool). all_to n (fits n R) && t)
      (many (eqb (used_count n R) 0) (eqb (child_count n R + root_count n R) (used_count n R)))
      ∙ and_no (all_to n (fits n R))
    where
      many : (t rest : Bool) → eqb (root_count n R) (pick t 0 1) && rest ≡ false
      many true rest = rw (ne_eqb (root_count n R) 0 (λ e. omega arith))
      many false rest = rw (ne_eqb (root_count n R) 1 (λ e. omega arith))

  pub seen_none :
      SeenBefore n R 0
      (record {
        kind = None;
        used = n;
        children = 0;
        rising = true;
        lowest = None;
        largest = 0;
        root = None;
      })
  unfolding kind_before count_to sum_to largest_timestamp
  seen_none =
      record {
        fit = all_none (fits n R);
        kind = refl;
        used = omega arith;
        children = refl;
        few = omega arith;
        apart = λ _. distinct_none (λ a. (R a).timestamp);
        within = λ a b. absurd (omega arith);
        lowest = first_start (is_empty R);
        largest = refl;
        root = one_start (is_root R);
      }

  module _ (s : ℕ) (seen : Seen) (before : SeenBefore n R s seen) where
    -- the record in slot s is counted still
    pub seen_left : s < n → 1 ≤ seen.used
    seen_left b = omega (arith, before.used)

    -- a record without card
    pub seen_free :
        s < n
        → (R s).card ≡ 0
        → is_free (R s) ≡ true
        → SeenBefore n R (s + 1) (with_free seen s)
    unfolding kind_before
    seen_free b z e =
        let off : used (R s) ≡ false = unused s z in
        let no-root : is_root R s ≡ false = ap (λ (t : Bool). t && eqb (R s).parent no_slot) off in
        let no-time : (R s).timestamp ≡ 0 = ap (λ (r : Record). r.timestamp) ((free_decided (R s)).shows e) in
        record {
          fit = all_more s true true (fits n R) before.fit (sym (by_use s off ∙ e));
          kind =
              rw add-one
              (before.kind
              ∙ ap kind_found (sym (ap (λ (t : Bool). pick t (R s).kind (kind_before R s)) off)));
          used =
              omega (
                arith,
                before.used,
                seen_left b,
                count_still s (used_count s R) (λ a. used (R a)) refl off,
              );
          children =
              sum_still s seen.children (λ a. pick (used (R a)) (R a).count 0) before.children
              (ap (λ (t : Bool). pick t (R s).count 0) off);
          few = omega (arith, before.few);
          apart = λ up. distinct_more s (λ a. (R a).timestamp) (before.apart up) (λ a h k q. omega arith);
          within = below_more (λ (a : ℕ). (R a).timestamp ≤ seen.largest) s before.within (omega arith);
          lowest = first_more (is_empty R) s seen.lowest (ap not off) before.lowest;
          largest = omega (arith, before.largest, largest_turn s false off);
          root = one_still (is_root R) s seen.root no-root before.root;
        }

    -- the code's test of the kind says whether it is the one before
    same_told : (own : ℕ) → own ≡ (R s).kind → eqb (unwrap_or seen.kind own) own ≡ same_kind R s
    unfolding same_kind
    same_told own its-kind =
        ap (λ (k : Option ℕ). eqb (unwrap_or k own) own) before.kind
        ∙ kind_told (kind_before R s) own
        ∙ ap (λ (k : ℕ). implies (not (eqb (kind_before R s) 0)) (eqb (kind_before R s) k)) its-kind

    pub kind_unfit :
        (own : ℕ)
        → s < n
        → Used (R s)
        → own ≡ (R s).kind
        → (unwrap_or seen.kind own ≡ own → ⊥)
        → Misfit n R
    kind_unfit own b u its-kind ne =
        misfits s b
        (by_use s (in_use s u)
        ∙ ap (λ (t : Bool). t && (is_filled (R s) && all_linked n R s))
        (sym (same_told own its-kind) ∙ ne_eqb (unwrap_or seen.kind own) own ne))

    -- a used record is a root by its parent alone
    root_by : (parent : ℕ) {t : Bool} → Used (R s) → parent ≡ (R s).parent → eqb parent no_slot ≡ t → is_root R s ≡ t
    root_by parent u parent_is e = (λ i. in_use s u i && eqb (sym parent_is i) no_slot) ∙ e

    -- the root stays where it was, or it is this, or there are two
    pub root_still :
        (parent : ℕ)
        → Used (R s)
        → parent ≡ (R s).parent
        → (parent ≡ no_slot → ⊥)
        → OneBefore (is_root R) (s + 1) seen.root
    root_still parent u p ne =
        one_still (is_root R) s seen.root (root_by parent u p (ne_eqb parent no_slot ne)) before.root

    pub root_here :
        (parent : ℕ)
        → Used (R s)
        → parent ≡ (R s).parent
        → parent ≡ no_slot
        → is_some seen.root ≡ false
        → OneBefore (is_root R) (s + 1) (Some s)
    root_here parent u p e none = go seen.root before.root none
      where
        go : (found : Option ℕ) → OneBefore (is_root R) s found → is_some found ≡ false
            → OneBefore (is_root R) (s + 1) (Some s)
        go None f q = one_here (is_root R) s (root_by parent u p (eq-eqb parent no_slot e)) f
        go (Some a) f q = absurd (false≢true (sym q))

    pub root_twice :
        (parent : ℕ)
        → s < n
        → Used (R s)
        → parent ≡ (R s).parent
        → parent ≡ no_slot
        → is_some seen.root ≡ true
        → Misfit n R
    root_twice parent b u p e some = go seen.root before.root some
      where
        go : (found : Option ℕ) → OneBefore (is_root R) s found → is_some found ≡ true → Misfit n R
        go None f q = absurd (false≢true q)
        go (Some a) f q = two_roots (one_twice (is_root R) s n a b (root_by parent u p (eq-eqb parent no_slot e)) f)

    -- a used record that fits
    pub seen_used :
        (own : ℕ) (root : Option ℕ)
        → s < n
        → Used (R s)
        → own ≡ (R s).kind
        → unwrap_or seen.kind own ≡ own
        → is_filled (R s) && all_linked n R s ≡ true
        → OneBefore (is_root R) (s + 1) root
        → SeenBefore n R (s + 1) (with_used seen (R s) root)
    unfolding kind_before
    seen_used own root b u own_is k e one =
        let on : used (R s) ≡ true = in_use s u in
        let same : same_kind R s ≡ true = sym (same_told own own_is) ∙ eq-eqb (unwrap_or seen.kind own) own k in
        let filled = (filled_decided (R s)).shows (and_left (is_filled (R s)) (all_linked n R s) e) in
        record {
          fit = all_more s true true (fits n R) before.fit (sym (by_use s on ∙ (λ i. same i && e i)));
          kind =
              rw add-one
              (known_found (R s).kind filled.kind_known
              ∙ ap kind_found (sym (ap (λ (t : Bool). pick t (R s).kind (kind_before R s)) on)));
          used =
              omega (
                arith,
                before.used,
                count_more s (used_count s R) 1 (λ a. used (R a)) refl (sym (ap (λ (t : Bool). pick {A = ℕ} t 1 0) on)),
              );
          children =
              sum_more s seen.children (R s).count (λ a. pick (used (R a)) (R a).count 0) before.children
              (sym (ap (λ (t : Bool). pick t (R s).count 0) on));
          few = omega (arith, before.few, filled.count_to_8);
          apart = rises;
          within =
              below_more
              (λ (a : ℕ). (R a).timestamp ≤ max (R s).timestamp seen.largest)
              s
              (λ a h. omega (arith, before.within a h))
              (omega arith);
          lowest = first_still (is_empty R) s seen.lowest (ap not on) before.lowest;
          largest = omega (arith, before.largest, largest_turn s true on);
          root = one;
        }
      where
        rises :
            seen.rising && ltb seen.largest (R s).timestamp ≡ true
            → distinct_to (s + 1) (λ a. (R a).timestamp) ≡ true
        rises up =
            let time = (R s).timestamp in
            let above = ltb-true seen.largest time (and_right seen.rising (ltb seen.largest time) up) in
            distinct_more s (λ a. (R a).timestamp)
            (before.apart (and_left seen.rising (ltb seen.largest time) up))
            (λ a h j q. omega (arith, before.within a h))
