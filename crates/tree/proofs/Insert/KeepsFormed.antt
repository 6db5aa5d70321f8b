-- An insertion keeps a well-formed table well formed, for every arity and fuel: all that it takes is that the new
-- record hangs on a used one, in a free slot, with a new card and a later timestamp than all. Assumes nothing.
use Rattle.std.specs.Prelude.{ℕ, ◌<◌, ◌≡◌, refl, ◌⊎◌, List, [], ◌∷◌, ◌++◌}
use Rattle.std.proofs.Common.{sym, ap, ◌∙◌, inl, inr, arith}
use mathlib.Core.List.Memᴰ
use mathlib.Core.List.Memᴰ.{head as first}
use mathlib.Core.List.Memᴰ.{tail as later}
use Rattle.std.proofs.Math.Decide.{ℕ_discrete}
use Rattle.tree.specs.Slots.{◌∈◌}
use Rattle.places.specs.Cases.{either}
use Rattle.tree.specs.View.{View, Used, Rising, Formed}
use Rattle.tree.specs.View.Shape.{rising_same}
use Rattle.tree.specs.Insert.{Fresh, Inserted, path, attach}
use Rattle.tree.proofs.Insert.Path.{attach_used}
use Rattle.tree.proofs.Insert.After.{fresh_slot, fresh_child, inserted_child, inserted_child_old}
use Rattle.tree.proofs.Insert.After.{inserted_new_used, inserted_old_used, inserted_used_cases}

-- a later one at the end
rising_last : (timestamp : ℕ → ℕ) (l : List ℕ) (s : ℕ) → Rising timestamp l
    → ((a : ℕ) → a ∈ l → timestamp a < timestamp s) → Rising timestamp (l ++ (s ∷ []))
rising_last timestamp [] s r f = (λ c i. absurd (Memᴰ.not-nil i), tt)
rising_last timestamp (a ∷ l) s r f = (
  λ c i. either (Memᴰ.append_cases l i) (r.0 c) (λ j. rw (Memᴰ.eq_of_singleton j) (f a (first refl))),
  rising_last timestamp l s r.1 (λ b i. f b (later i)),
)

-- ---- hung on any used record

module _ {Sig : Type 0} {d : Sig → Sig → ℕ} {v w : View Sig} {n root c s t on : ℕ} {x : Sig} {p : List ℕ}
    (wf : Formed v n root) (new : Fresh v n s c t) (done : Inserted d v w c x s t on p) (on_used : Used v on) where
  rising_old : (a : ℕ) → Rising w.timestamp (v.children a)
  rising_old a = rising_same v.timestamp w.timestamp (v.children a)
      (λ b i. done.timestamp_old b (fresh_child new wf a b i)) (wf.rising a)

  rising_new : (a : ℕ) → Rising w.timestamp (w.children a)
  rising_new a = elim (ℕ_discrete a s) [
    | yes e ↦ rw (e, done.children_new) tt
    | no ns ↦ elim (ℕ_discrete a on) [
      | yes e ↦ rw (e, done.children_on) (rising_last w.timestamp (v.children on) s (rising_old on)
          (λ b i. rw (done.timestamp_old b (fresh_child new wf on b i), done.timestamp_new)
          (new.late b (wf.child_used on b i))))
      | no no' ↦ rw (done.children_old a ns no') (rising_old a)
    ]
  ]

  -- a field that told the used slots apart still does, if the new slot's value is none of the old ones
  still_apart : (g h : ℕ → ℕ) → ((a : ℕ) → (a ≡ s → ⊥) → h a ≡ g a) → ((a : ℕ) → Used v a → g a ≡ h s → ⊥)
      → ((a b : ℕ) → Used v a → Used v b → g a ≡ g b → a ≡ b) → (a b : ℕ) → Used w a → Used w b → h a ≡ h b → a ≡ b
  still_apart g h same apart before a b ua ub e = go (inserted_used_cases done a ua) (inserted_used_cases done b ub)
    where
      go : (a ≡ s) ⊎ ((a ≡ s → ⊥) × Used v a) → (b ≡ s) ⊎ ((b ≡ s → ⊥) × Used v b) → a ≡ b
      go (inl i) (inl j) = i ∙ sym j
      go (inl i) (inr z) = absurd (apart b z.1 (sym (same b z.0) ∙ sym e ∙ ap h i))
      go (inr y) (inl j) = absurd (apart a y.1 (sym (same a y.0) ∙ e ∙ ap h j))
      go (inr y) (inr z) = before a b y.1 z.1 (sym (same a y.0) ∙ e ∙ same b z.0)

  hung_formed : Formed w n root
  hung_formed = record {
    within = λ a u. either (inserted_used_cases done a u) (λ e. rw e new.slot_within) (λ z. wf.within a z.1);
    cards =
        still_apart v.card w.card done.card_old (λ a u e. new.card_new a u (e ∙ done.card_new)) wf.cards;
    timestamps = still_apart v.timestamp w.timestamp done.timestamp_old
        (λ a u e. omega (arith, new.late a u, done.timestamp_new)) wf.timestamps;
    root_used = inserted_old_used new done root wf.root_used;
    root_top = λ a i. either (inserted_child done a root i)
        (λ z. fresh_slot new root wf.root_used z.0) (λ z. wf.root_top a z.1);
    hung = λ a u ne. either (inserted_used_cases done a u)
        (λ e. rw (e, done.parent_new, done.children_on)
        (inserted_old_used new done on on_used, Memᴰ.append_right (v.children on) (first refl)))
        (λ z.
        let h = wf.hung a z.1 ne in
        let up = fresh_slot new (v.parent a) h.0 in
        rw (done.parent_old a z.0)
        (inserted_old_used new done (v.parent a) h.0, inserted_child_old done (v.parent a) a up h.1));
    older = λ a b i. either (inserted_child done a b i)
        (λ z.
        rw (z.0, z.1, done.timestamp_new, done.timestamp_old on (fresh_slot new on on_used)) (new.late on on_used))
        (λ z.
        let nb = fresh_child new wf a b z.1 in
        rw (done.timestamp_old a z.0, done.timestamp_old b nb) (wf.older a b z.1));
    child_used = λ a b i. either (inserted_child done a b i)
        (λ z. rw z.0 (inserted_new_used new done)) (λ z. inserted_old_used new done b (wf.child_used a b z.1));
    child_parent = λ a b i. either (inserted_child done a b i)
        (λ z. ap w.parent z.0 ∙ done.parent_new ∙ sym z.1)
        (λ z. done.parent_old b (fresh_child new wf a b z.1) ∙ wf.child_parent a b z.1);
    rising = rising_new;
    parent_used = λ a b i. either (inserted_child done a b i)
        (λ z. rw z.1 (inserted_old_used new done on on_used))
        (λ z. inserted_old_used new done a (wf.parent_used a b z.1));
  }

-- ---- hung where the walk ends

pub inserted_formed : {Sig : Type 0} {d : Sig → Sig → ℕ} {v w : View Sig} {n root c s t : ℕ} {x : Sig} (arity f : ℕ)
    → 0 < f → Formed v n root → Fresh v n s c t
    → Inserted d v w c x s t (attach d v x arity f root) (path d v x arity f root) → Formed w n root
inserted_formed {d} {v} {x} arity f some wf new done = hung_formed wf new done (attach_used d v x arity wf f some)
