-- Loop: one turn of the descent, to the walk's end at a record with no child (`descended_leaf`), or to its end or its
-- next record by the nearest child (`descended_turn`). Assumes nothing.
use Prim.Native.Nat.{ℕ, zero, suc, ◌+◌}
use Rattle.std.specs.Prelude.{Bool, ◌&&◌, ◌||◌, not, ◌≡◌, eqb, set}
use Rattle.std.proofs.Math.Bool.{true, false}
use Rattle.std.proofs.Math.Path.{refl, sym, ap, ap₂}
use Rattle.std.proofs.Common.{◌∙◌}
use mathlib.Core.List.{List, [], ◌∷◌}
use native.Mathlib.Omega.{arith}
use Rattle.std.proofs.Math.Dec.{ltb}
use Rattle.std.proofs.Math.ListN.{length}
use borrow.Author.Tests.{eq-eqb, ne_eqb}
use Rattle.places.specs.Choice.{pick}
use Rattle.table.specs.Record.{Record, children}
use Rattle.table.specs.Table.{at}
use Rattle.tree.specs.Slots.{keep}
use Rattle.tree.specs.View.{View, away, child_counts, distance_count}
use Rattle.tree.specs.Insert.{nearest, hangs, onward, path, last}
use Rattle.tree.proofs.Insert.Same.{path_same, count_same}
use Rattle.view.specs.View.{view_of}
use Rattle.newcomer.specs.Newcomer.{raised}
use Rattle.descent.specs.declared.Near.{Near}
use Rattle.descent.specs.Loop.Nearest.{near, nearest_of}
use Rattle.descent.specs.Descent.{raised_along, Descended, descent, descended}

-- ---- the walk's next record, or its end

-- what a record's change leaves of it, it leaves of every record of the row
kept_by :
    {A : Type 0} (f : Record → A) (rows : List Record) (a : ℕ) (r : Record)
    → f r ≡ f (at rows a)
    → (b : ℕ)
    → f (at (set rows a r) b) ≡ f (at rows b)
kept_by f [] a r e b = refl
kept_by f (q ∷ rows) zero r e zero = e
kept_by f (q ∷ rows) zero r e (suc b) = refl
kept_by f (q ∷ rows) (suc a) r e zero = refl
kept_by f (q ∷ rows) (suc a) r e (suc b) = kept_by f rows a r e b

-- the loop's test, of two parts: by whether the first of them holds
pick_first : {A : Type 0} (p t : Bool) (y z : A) → p ≡ true → pick (p || t) y z ≡ y
pick_first p t y z e = rw e

pick_second : {A : Type 0} (p t : Bool) (y z : A) → p ≡ false → pick (p || t) y z ≡ pick t y z
pick_second p t y z e = rw e

-- the same of three parts, where the second holds
pick_either : {A : Type 0} (p q t : Bool) (y z : A) → q ≡ true → pick ((p || q) || t) y z ≡ y
pick_either true q t y z e = refl
pick_either false q t y z e = rw e

-- and where neither of the first two holds
pick_third : {A : Type 0} (p q t : Bool) (y z : A) → p ≡ false → q ≡ false → pick ((p || q) || t) y z ≡ pick t y z
pick_third p q t y z e f = rw (e, f)

keep_none : (b : Bool) → keep b [] ≡ []
unfolding keep
keep_none true = refl
keep_none false = refl

module _ (d : List ℕ → List ℕ → ℕ) (x : List ℕ) (arity : ℕ) (rows : List Record) (a : ℕ) where
  -- the distance of the record in slot a, and the rows with its radius raised
  abbrev pub apart_at : ℕ
  apart_at = d (at rows a).readings x

  abbrev pub lifted : List Record
  lifted = set rows a (raised apart_at (at rows a))

  -- a raised radius changes neither children nor signatures, and so no walk
  lifted_children : (b : ℕ) → children (at lifted b) ≡ children (at rows b)
  unfolding raised
  lifted_children b = kept_by children rows a (raised apart_at (at rows a)) refl b

  lifted_readings : (b : ℕ) → (at lifted b).readings ≡ (at rows b).readings
  unfolding raised
  lifted_readings b = kept_by (λ r. r.readings) rows a (raised apart_at (at rows a)) refl b

  lifted_path : (f b : ℕ) → path d (view_of (at lifted)) x arity f b ≡ path d (view_of (at rows)) x arity f b
  lifted_path f b =
      path_same d (view_of (at rows)) (view_of (at lifted)) x arity (λ _. Unit {0}) (λ b c _ _. tt)
      (λ c _. lifted_children c)
      (λ c _. lifted_readings c)
      f
      b
      tt

  lifted_counts : (p : List ℕ) → child_counts (view_of (at lifted)) p ≡ child_counts (view_of (at rows)) p
  unfolding distance_count
  lifted_counts p =
      let same =
      count_same d (view_of (at rows)) (view_of (at lifted)) x arity (λ _. Unit {0}) (λ b c _ _. tt)
      (λ c _. lifted_children c)
      (λ c _. lifted_readings c)
      p
      (λ _ _. tt) in
      omega (arith, same)

  module _ (count n : ℕ) (children-n : n ≡ length (children (at rows a))) where
    abbrev view : View (List ℕ)
    view = view_of (at rows)

    -- what is left after a, if p is visited then
    abbrev rest : List ℕ → Descended
    rest p = descent (raised_along d x p lifted) (last a p) (count + n + child_counts view p)

    rest_end : rest [] ≡ descent lifted a (count + n)
    unfolding raised_along last child_counts
    rest_end = let z : count + n + 0 ≡ count + n = omega arith in ap (descent lifted a) z

    rest_on :
        (g b : ℕ)
        → rest (path d view x arity (suc g) b) ≡ descended d x arity lifted (suc g) b (count + n)
    unfolding descended path last
    rest_on g b =
        let p = path d view x arity (suc g) b in
        let same = sym (lifted_path (suc g) b) in
        λ i. descent
        (raised_along d x (same i) lifted)
        (last b (same i))
        (count + n + (sym (lifted_counts p) ∙ ap (child_counts (view_of (at lifted))) same) i)

    -- a is visited, and then what the rule finds
    opened :
        (f : ℕ) (cs : List ℕ)
        → children (at rows a) ≡ cs
        → descended d x arity rows (suc f) a count ≡ rest (onward d view x arity (path d view x arity f) a cs)
    unfolding descended path raised_along last child_counts
    opened f cs h =
        let q = onward d view x arity (path d view x arity f) a (children (at rows a)) in
        let sum : count + (length (children (at rows a)) + child_counts view q) ≡ count + n + child_counts view q =
        omega arith in
        ap (descent (raised_along d x q lifted) (last a q)) sum
        ∙ ap (λ (l : List ℕ). rest (onward d view x arity (path d view x arity f) a l)) h

    -- a record with no child
    pub descended_leaf :
        (f : ℕ)
        → children (at rows a) ≡ []
        → descended d x arity rows (suc f) a count ≡ descent lifted a (count + n)
    descended_leaf f h = opened f [] h ∙ unfold onward in rest_end

    -- the nearest of its children, at the distance e
    module _ (c : ℕ) (cs : List ℕ) (some : children (at rows a) ≡ c ∷ cs) (best e : ℕ)
        (found : near best e ≡ nearest_of d view x c cs) where
      best_is : best ≡ nearest d view x c cs
      best_is = ap (λ (q : Near). q.slot) found

      e_is : e ≡ away d view x best
      e_is = ap (λ (q : Near). q.away) found ∙ ap (away d view x) (sym best_is)

      abbrev test : ℕ → Bool
      test f = eqb f 0 || (ltb apart_at e && ltb n arity)

      hangs_as : ltb apart_at e && ltb n arity ≡ hangs d view x arity a best
      unfolding hangs
      hangs_as = ap₂ (λ (i j : ℕ). ltb apart_at i && ltb j arity) e_is children-n

      -- x hangs on a, or is on its way to the nearest child
      parts_here : (g : ℕ) (b : Bool)
          → rest (keep (not b) (path d view x arity (suc g) best))
          ≡ pick b (descent lifted a (count + n)) (descended d x arity lifted (suc g) best (count + n))
      unfolding keep
      parts_here g true = rest_end
      parts_here g false = rest_on g best

      turned :
          (f : ℕ)
          → rest (keep (not (hangs d view x arity a best)) (path d view x arity f best))
          ≡ pick (test f) (descent lifted a (count + n)) (descended d x arity lifted f best (count + n))
      turned zero =
          let none : path d view x arity zero best ≡ [] = unfold path in refl in
          ap (λ (p : List ℕ). rest (keep (not (hangs d view x arity a best)) p)) none
          ∙ ap rest (keep_none (not (hangs d view x arity a best)))
          ∙ rest_end
          ∙ sym
          (pick_first (eqb 0 0) (ltb apart_at e && ltb n arity) (descent lifted a (count + n))
          (descended d x arity lifted 0 best (count + n)) refl)
      turned (suc g) =
          parts_here g (hangs d view x arity a best)
          ∙ ap
          (λ (b : Bool). pick b (descent lifted a (count + n)) (descended d x arity lifted (suc g) best (count + n)))
          (sym hangs_as)
          ∙ sym (pick_second (eqb (suc g) 0) (ltb apart_at e && ltb n arity) _ _ (ne_eqb (suc g) 0 (λ z. omega arith)))

      -- the walk ends at a, or goes on from the nearest child with one level less
      pub descended_turn :
          (f : ℕ)
          → descended d x arity rows (suc f) a count
          ≡ pick
          (eqb f 0 || (ltb apart_at e && ltb n arity))
          (descent lifted a (count + n))
          (descended d x arity lifted f best (count + n))
      unfolding onward
      descended_turn f =
          opened f (c ∷ cs) some
          ∙ ap
          (λ (b : ℕ). rest (keep (not (hangs d view x arity a b)) (path d view x arity f b)))
          (sym best_is)
          ∙ turned f

    -- the same whether a has a child or none: `best`, at the distance e, is the nearest if there is one
    pub descended_either :
        (best e : ℕ)
        → ((c : ℕ) (l : List ℕ) → children (at rows a) ≡ c ∷ l → near best e ≡ nearest_of d view x c l)
        → (f : ℕ)
        → descended d x arity rows (suc f) a count
        ≡ pick
        ((eqb n 0 || eqb f 0) || (ltb apart_at e && ltb n arity))
        (descent lifted a (count + n))
        (descended d x arity lifted f best (count + n))
    descended_either best e found f = go (children (at rows a)) refl
      where
        go :
            (cs : List ℕ)
            → children (at rows a) ≡ cs
            → descended d x arity rows (suc f) a count
            ≡ pick
            ((eqb n 0 || eqb f 0) || (ltb apart_at e && ltb n arity))
            (descent lifted a (count + n))
            (descended d x arity lifted f best (count + n))
        go [] h =
            let none : eqb n 0 ≡ true = eq-eqb n 0 (children-n ∙ ap length h) in
            rw none (descended_leaf f h)
        go (c ∷ l) h =
            let some : n ≡ 0 → ⊥ = λ z. omega (arith, children-n ∙ ap length h) in
            let one : eqb n 0 ≡ false = ne_eqb n 0 some in
            rw one (descended_turn c l h best e (found c l h) f)
