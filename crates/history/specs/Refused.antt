-- Each call's outcome by its two cases: accepted, it is what the rule gives; refused, it is the refusal alone. The
-- refusal is the definition's chain of tests. Assumes nothing.
use Rattle.std.specs.Prelude.{ℕ, ◌≡◌, refl, Bool, true, false, not, List, [], ◌∷◌, length}
use Rattle.std.proofs.Common.{sym, ◌∙◌, eq-eqb, ne_eqb}
use Rattle.std.proofs.Math.Path.{ap}
use Rattle.std.proofs.Math.Decide.{ℕ_discrete}
use Rattle.table.specs.Record.{record_of}
use Rattle.table.specs.Table.{right_size, records_in, records_of, bytes_of}
use Rattle.writing.specs.Clear.{clear_of, clear_done, clear_refused}
use Rattle.survey.specs.Survey.{slot_of_card}
use Rattle.refusals.specs.Refusal.{SIZE, done, first_of}
use Rattle.insert.specs.Insert.{inserted, insert_of}
use Rattle.placing.specs.Changed.{changed}
use Rattle.refusals.specs.Outcome.{Outcome, refused}
use Rattle.insert.specs.Insert as Insert
use Rattle.delete.specs.Delete.{deleted, delete_of}
use Rattle.delete.specs.Delete as Delete
use Rattle.search.specs.Search.{search_of}
use Rattle.search.specs.Promises.{refusal_is, refused_leaves}

-- ---- clear

module _ (l : List ℕ) where
  -- its size is right or wrong
  by_size : (P : Type 0) → (right_size (length l) ≡ true → P) → (right_size (length l) ≡ false → P) → P
  by_size P f g = go (right_size (length l)) refl
    where
      go : (b : Bool) → right_size (length l) ≡ b → P
      go true e = f e
      go false e = g e

  pub clear_refusal : (clear_of l).refusal ≡ first_of ((not (right_size (length l)), SIZE) ∷ [])
  clear_refusal =
      by_size ((clear_of l).refusal ≡ first_of ((not (right_size (length l)), SIZE) ∷ []))
      (λ e. rw (clear_done l e, e))
      (λ e. rw (clear_refused l e, e))

  pub clear_untouched : ((clear_of l).refusal ≡ done → ⊥) → (clear_of l).table ≡ l
  clear_untouched ne =
      by_size ((clear_of l).table ≡ l) (λ e. absurd (ne (rw (clear_done l e)))) (λ e. rw (clear_refused l e))

-- ---- insert

module _ (l : List ℕ) (card kind arity : ℕ) (s : List ℕ) where
  pub insert_accepted :
      Insert.refusal_of l card kind arity s ≡ done
      → insert_of l card kind arity s ≡ changed (inserted l card kind arity s)
  unfolding insert_of
  insert_accepted e = rw (eq-eqb _ _ e)

  pub insert_refused :
      (Insert.refusal_of l card kind arity s ≡ done → ⊥)
      → insert_of l card kind arity s ≡ refused (Insert.refusal_of l card kind arity s) l
  unfolding insert_of
  insert_refused ne = rw (ne_eqb _ _ ne)

  pub insert_refusal_lem : (insert_of l card kind arity s).refusal ≡ Insert.refusal_of l card kind arity s
  unfolding changed refused
  insert_refusal_lem = elim (ℕ_discrete (Insert.refusal_of l card kind arity s) done) [
    | yes e ↦ rw (insert_accepted e) (sym e)
    | no ne ↦ rw (insert_refused ne)
  ]

  module _ (e : (insert_of l card kind arity s).refusal ≡ done) where
    pub insert_none : Insert.refusal_of l card kind arity s ≡ done
    insert_none = sym insert_refusal_lem ∙ e

    -- the table is then the bytes of the records that the rule gives
    pub insert_bytes : (insert_of l card kind arity s).table ≡ bytes_of (inserted l card kind arity s).rows
    unfolding changed
    insert_bytes = ap (λ (o : Outcome). o.table) (insert_accepted insert_none)

-- ---- delete

module _ (l : List ℕ) (card arity : ℕ) where
  pub delete_accepted :
      Delete.refusal_of l card arity ≡ done
      → delete_of l card arity ≡ changed (deleted arity (records_of l) (slot_of_card (records_in l) (record_of l) card))
  unfolding delete_of
  delete_accepted e = rw (eq-eqb _ _ e)

  pub delete_refused :
      (Delete.refusal_of l card arity ≡ done → ⊥) → delete_of l card arity ≡ refused (Delete.refusal_of l card arity) l
  unfolding delete_of
  delete_refused ne = rw (ne_eqb _ _ ne)

  pub delete_refusal_lem : (delete_of l card arity).refusal ≡ Delete.refusal_of l card arity
  unfolding changed refused
  delete_refusal_lem = elim (ℕ_discrete (Delete.refusal_of l card arity) done) [
    | yes e ↦ rw (delete_accepted e) (sym e)
    | no ne ↦ rw (delete_refused ne)
  ]

  module _ (e : (delete_of l card arity).refusal ≡ done) where
    pub delete_none : Delete.refusal_of l card arity ≡ done
    delete_none = sym delete_refusal_lem ∙ e

    pub delete_bytes :
        (delete_of l card arity).table
        ≡ bytes_of (deleted arity (records_of l) (slot_of_card (records_in l) (record_of l) card)).rows
    unfolding changed
    delete_bytes = ap (λ (o : Outcome). o.table) (delete_accepted delete_none)

-- ---- search

module _ (l : List ℕ) (kind : ℕ) (s : List ℕ) (r : ℕ) (list : List ℕ) where
  pub search_untouched :
      ((search_of l kind s r list).refusal ≡ done → ⊥)
      → ((search_of l kind s r list).count ≡ 0)
      × ((search_of l kind s r list).found ≡ 0)
      × ((search_of l kind s r list).list ≡ list)
  search_untouched ne =
      rw (refused_leaves l kind s r list (λ e. ne (refusal_is l kind s r list ∙ e))) (refl, refl, refl)
