-- Records that wait for their turn change nothing: two rows that agree outside slots that nothing links to are walked
-- alike, and a newcomer hung in both leaves them agreeing again, in its own slot too (`hanging_agree`,
-- `hanging_count`). Insert and delete write a newcomer's card into its slot before they hang it; the definitions have
-- the slot free. Assumes nothing.
use Rattle.std.specs.Prelude.{ℕ, suc, ◌<◌, ◌≤◌, ◌≡◌, refl, set}
use Rattle.std.proofs.Math.Path.{sym, ap}
use Rattle.std.proofs.Common.{◌∙◌, arith}
use mathlib.Core.List.Memᴰ.{head as first}
use mathlib.Core.List.Memᴰ.{tail as later}
use mathlib.Core.List.{List, [], ◌∷◌}
use Rattle.std.proofs.Math.Decide.{ℕ_discrete, dec_le}
use Rattle.std.proofs.Math.ListN.{length, length-set}
use Rattle.std.proofs.Math.Seq.{get_or-set_same, get_or-set_other, set_out}
use Rattle.table.specs.Record.{Record, free, children}
use Rattle.table.specs.Table.{at}
use Rattle.tree.specs.Slots.{◌∈◌}
use Rattle.tree.specs.View.{distance_count}
use Rattle.tree.specs.Insert.{path, last, attach}
use Rattle.tree.proofs.Insert.Path.{attach_∈}
use Rattle.tree.proofs.Insert.Same.{path_same, path_in, count_same}
use Rattle.view.specs.View.{view_of}
use Rattle.placing.specs.Place.Row.{along_length}
use Rattle.descent.specs.Descent.{raised_along}
use Rattle.placing.specs.Place.{hanging, hanging_from}
use Rattle.newcomer.specs.Newcomer.{Newcomer, raised, adopting, fresh}

-- the rows are of one length, and agree in every slot but those that wait
pub record Agree (waits : ℕ → Type 0) (C D : List Record) : Type 0 where
  pub long : length C ≡ length D
  pub same : (a : ℕ) → (waits a → ⊥) → at C a ≡ at D a

-- no slot that waits is linked from one that does not
pub record Unlinked (waits : ℕ → Type 0) (D : List Record) (root : ℕ) : Type 0 where
  pub root_stays : waits root → ⊥
  pub children_stay : (a b : ℕ) → (waits a → ⊥) → b ∈ children (at D a) → waits b → ⊥

-- ---- one record written in both rows

pub set_agree :
    {waits : ℕ → Type 0} {C D : List Record} (b : ℕ) (r q : Record)
    → r ≡ q
    → Agree waits C D
    → Agree waits (set C b r) (set D b q)
set_agree {waits} {C} {D} b r q e h =
    record {
      long = length-set C b r ∙ h.long ∙ sym (length-set D b q);
      same = λ a n. each a n (ℕ_discrete a b) (dec_le (suc b) (length C));
    }
  where
    each : (a : ℕ) → (waits a → ⊥) → Dec (a ≡ b) → Dec (suc b ≤ length C) → at (set C b r) a ≡ at (set D b q) a
    each a n (no ne) w = get_or-set_other C b a r free ne ∙ h.same a n ∙ sym (get_or-set_other D b a q free ne)
    each a n (yes f) (yes w) =
        ap (λ (i : ℕ). at (set C b r) i) f
        ∙ get_or-set_same C b r free w
        ∙ e
        ∙ sym (get_or-set_same D b q free (omega (arith, h.long)))
        ∙ ap (λ (i : ℕ). at (set D b q) i) (sym f)
    each a n (yes f) (no w) =
        ap (λ (l : List Record). at l a) (set_out C b r (omega arith))
        ∙ h.same a n
        ∙ ap (λ (l : List Record). at l a) (sym (set_out D b q (omega (arith, h.long))))

module _ (d : List ℕ → List ℕ → ℕ) (x : List ℕ) (waits : ℕ → Type 0) where
  along_agree :
      (p : List ℕ) → ((y : ℕ) → y ∈ p → waits y → ⊥)
      → (C D : List Record) → Agree waits C D → Agree waits (raised_along d x p C) (raised_along d x p D)
  unfolding raised_along
  along_agree [] n C D h = h
  along_agree (a ∷ p) n C D h =
      let here = h.same a (n a (first refl)) in
      let rc = raised (d (at C a).readings x) (at C a) in
      let rd = raised (d (at D a).readings x) (at D a) in
      let e : rc ≡ rd = ap (λ (r : Record). raised (d r.readings x) r) here in
      along_agree p (λ y i. n y (later i)) (set C a rc) (set D a rd) (set_agree a rc rd e h)

-- ---- a newcomer hung in both rows

module _ (d : List ℕ → List ℕ → ℕ) (arity s : ℕ) (x : Newcomer) (t depth root : ℕ) (waits : ℕ → Type 0)
    (C D : List Record) (h : Agree waits C D) (u : Unlinked waits D root)
  where
    pub walked :
        path d (view_of (at C)) x.readings arity depth root ≡ path d (view_of (at D)) x.readings arity depth root
    walked =
        path_same d (view_of (at D)) (view_of (at C)) x.readings arity (λ a. waits a → ⊥) u.children_stay
        (λ a n. ap children (h.same a n))
        (λ a n. ap (λ (r : Record). r.readings) (h.same a n))
        depth root u.root_stays

    pub stays : (y : ℕ) → y ∈ path d (view_of (at D)) x.readings arity depth root → waits y → ⊥
    stays y i =
        path_in d (view_of (at D)) (view_of (at C)) x.readings arity (λ a. waits a → ⊥) u.children_stay
        (λ a n. ap children (h.same a n))
        (λ a n. ap (λ (r : Record). r.readings) (h.same a n))
        depth root y u.root_stays i

    pub hanging_count : (hanging d arity s x C t depth root).count ≡ (hanging d arity s x D t depth root).count
    unfolding hanging hanging_from attach
    hanging_count =
        ap (λ (p : List ℕ). distance_count (view_of (at C)) p) walked
        ∙ count_same d (view_of (at D)) (view_of (at C)) x.readings arity (λ a. waits a → ⊥) u.children_stay
        (λ a n. ap children (h.same a n))
        (λ a n. ap (λ (r : Record). r.readings) (h.same a n))
        (path d (view_of (at D)) x.readings arity depth root)
        stays

    -- afterwards the rows agree in s too, and still outside the slots that wait
    pub hanging_agree :
        s < length D
        → (depth-some : 0 < depth)
        → Agree (λ a. waits a × (a ≡ s → ⊥))
        (hanging d arity s x C t depth root).rows
        (hanging d arity s x D t depth root).rows
    unfolding hanging hanging_from attach
    hanging_agree in-range some =
        let p = path d (view_of (at D)) x.readings arity depth root in
        let on = last root p in
        let raise = along_agree d x.readings waits p stays C D h in
        let on-stays : waits on → ⊥ = stays on (attach_∈ d (view_of (at D)) x.readings arity depth root some) in
        let host = ap (adopting s) (raise.same on on-stays) in
        let C₁ = raised_along d x.readings p C in
        let D₁ = raised_along d x.readings p D in
        let both = set_agree on (adopting s (at C₁ on)) (adopting s (at D₁ on)) host raise in
        rw walked
        (newly (set C₁ on (adopting s (at C₁ on))) (set D₁ on (adopting s (at D₁ on))) (fresh x t on) both
        (omega (arith, length-set D₁ on (adopting s (at D₁ on)), along_length d x.readings p D)))
      where
        newly : (C' D' : List Record) (r : Record) → Agree waits C' D' → s < length D'
            → Agree (λ a. waits a × (a ≡ s → ⊥)) (set C' s r) (set D' s r)
        newly C' D' r g w =
            record {
              long = length-set C' s r ∙ g.long ∙ sym (length-set D' s r);
              same = λ a n. each a n (ℕ_discrete a s);
            }
          where
            each : (a : ℕ) → (waits a × (a ≡ s → ⊥) → ⊥) → Dec (a ≡ s) → at (set C' s r) a ≡ at (set D' s r) a
            each a n (yes e) =
                ap (λ (i : ℕ). at (set C' s r) i) e
                ∙ get_or-set_same C' s r free (omega (arith, g.long))
                ∙ sym (get_or-set_same D' s r free w)
                ∙ ap (λ (i : ℕ). at (set D' s r) i) (sym e)
            each a n (no ne) =
                get_or-set_other C' s a r free ne
                ∙ g.same a (λ m. n (m, ne))
                ∙ sym (get_or-set_other D' s a r free ne)
