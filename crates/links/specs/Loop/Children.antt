-- Loop: what the loop over a record's children learns at each turn, of `all_linked` (judge/Counted). Assumes nothing.
use Rattle.std.specs.Prelude.{ℕ, ◌+◌, ◌≤◌, ◌<◌, ◌≡◌, Bool, false, ◌&&◌, ◌||◌, not, leb, eqb}
use Rattle.std.proofs.Math.Path.{refl, sym, ap}
use Rattle.std.proofs.Common.{◌∙◌, arith, le-ltb, lt-ltb}
use Rattle.std.proofs.Math.Bool.{true}
use Rattle.std.proofs.Math.Numerals.{add-one}
use Rattle.std.proofs.Math.Dec.{ltb}
use Rattle.std.proofs.lemmas.Bool.{not-true, not-false}
use Rattle.places.specs.Choice.{not_and, le_not_lt}
use Rattle.places.specs.Test.{all_to, all_fails, all_none, all_more}
use Rattle.table.specs.Record.{Record, slot}
use Rattle.judge.specs.Counted.{time_before, is_linked, all_linked}

module _ (n : ℕ) (R : ℕ → Record) (a : ℕ) where
  -- the i children passed are linked to a, and `before` is the last one's timestamp
  pub record LinkedTo (i before : ℕ) : Type 0 where
    pub all_linked : true ≡ all_to i (is_linked n R a)
    pub time : before ≡ time_before R a i

  pub linked_start : LinkedTo 0 (R a).timestamp
  unfolding time_before
  linked_start = record { all_linked = all_none (is_linked n R a); time = refl }

  pub linked_end : (i before : ℕ) → i ≡ (R a).count → LinkedTo i before → true ≡ all_linked n R a
  unfolding all_linked
  linked_end i before e h = h.all_linked ∙ ap (λ (k : ℕ). all_to k (is_linked n R a)) e

  module _ (i before c : ℕ) (child : c ≡ slot (R a) i) where
    -- a child slot past the table
    pub linked_out : i < (R a).count → n ≤ c → false ≡ all_linked n R a
    unfolding all_linked
    linked_out b out =
        sym
        (all_fails
        (R a).count
        (is_linked n R a)
        i
        b
        (ap
        (λ (t : Bool).
        t && (eqb (R (slot (R a) i)).parent a && ltb (time_before R a i) (R (slot (R a) i)).timestamp))
        (le-ltb (slot (R a) i) n (omega arith))))

    module _ (parent time : ℕ)
        (inside : c < n)
        (its-parent : parent ≡ (R c).parent)
        (its-time : time ≡ (R c).timestamp)
        (so_far : LinkedTo i before) where
      found : eqb parent a && ltb before time ≡ is_linked n R a i
      found =
          let p : parent ≡ (R (slot (R a) i)).parent = its-parent ∙ ap (λ (k : ℕ). (R k).parent) child in
          let q : time ≡ (R (slot (R a) i)).timestamp = its-time ∙ ap (λ (k : ℕ). (R k).timestamp) child in
          (λ k. eqb (p k) a && ltb (so_far.time k) (q k))
          ∙ sym
          (ap
          (λ (t : Bool).
          t && (eqb (R (slot (R a) i)).parent a && ltb (time_before R a i) (R (slot (R a) i)).timestamp))
          (lt-ltb (slot (R a) i) n (omega arith)))

      refused : (not (eqb parent a) || leb time before) ≡ not (is_linked n R a i)
      refused =
          ap (λ (t : Bool). not (eqb parent a) || t) (le_not_lt time before)
          ∙ not_and (eqb parent a) (ltb before time)
          ∙ ap not found

      -- a child of another record, or one that is no younger
      pub linked_not : i < (R a).count → (not (eqb parent a) || leb time before) ≡ true → false ≡ all_linked n R a
      unfolding all_linked
      linked_not b t =
          sym (all_fails (R a).count (is_linked n R a) i b (not-true (is_linked n R a i) (sym refused ∙ t)))

      -- a child that is linked
      pub linked_turn : (not (eqb parent a) || leb time before) ≡ false → LinkedTo (i + 1) time
      unfolding time_before
      linked_turn t =
          record {
            all_linked =
                all_more
                i
                true
                true
                (is_linked n R a)
                so_far.all_linked
                (sym (not-false (is_linked n R a i) (sym refused ∙ t)));
            time = rw add-one (its-time ∙ ap (λ (k : ℕ). (R k).timestamp) child);
          }
