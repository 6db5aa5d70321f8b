-- Each C function's contract fixes all that a caller can see: two outcomes that it allows are equal, part by part. The
-- hypotheses are the contract's own equation, said twice. Assumes nothing.
use Rattle.std.specs.Prelude.{ℕ, ◌≡◌, List}
use Rattle.std.proofs.Common.{sym, ap, ◌∙◌}
use Rattle.writing.specs.Clear.{Cleared, clear_of}
use Rattle.insert.specs.Insert.{insert_of}
use Rattle.refusals.specs.Outcome.{Outcome}
use Rattle.delete.specs.Delete.{delete_of}
use Rattle.search.specs.Search.{search_of, Outcome as Listing}
use Rattle.pairs.specs.declared.Pair.{Pair}
use Rattle.nearest.specs.Nearest.{nearest_of, Outcome as Nearest}
use Rattle.soundness.specs.Soundness.{check_of}
use Rattle.inventory.specs.Cards.{all_cards_of, Outcome as Cards}
use Rattle.inventory.specs.Card.{one_card_of, Outcome as Card}

-- a part of two outcomes that are one
part : {A B : Type 0} {one other fixed : A} (f : A → B) → one ≡ fixed → other ≡ fixed → f one ≡ f other
part f e g = ap f (e ∙ sym g)

-- of the table's bytes l before the call; what stands without a mark is of one outcome, with a mark of the other
module _ (l : List ℕ) {r r' : ℕ} where
  pub clear_fixed :
      {table table' : List ℕ}
      → ◌≡◌ {A = Cleared} (record { refusal = r; table = table }) (clear_of l)
      → ◌≡◌ {A = Cleared} (record { refusal = r'; table = table' }) (clear_of l)
      → (r ≡ r') × (table ≡ table')
  clear_fixed e g = (part (λ (o : Cleared). o.refusal) e g, part (λ (o : Cleared). o.table) e g)

  -- of a call that changes the table
  changed_fixed :
      {fixed : Outcome} {count count' : ℕ} {table table' : List ℕ}
      → ◌≡◌ {A = Outcome} (record { refusal = r; count = count; table = table }) fixed
      → ◌≡◌ {A = Outcome} (record { refusal = r'; count = count'; table = table' }) fixed
      → (r ≡ r') × (count ≡ count') × (table ≡ table')
  changed_fixed e g = (
    part (λ (o : Outcome). o.refusal) e g,
    part (λ (o : Outcome). o.count) e g,
    part (λ (o : Outcome). o.table) e g,
  )

  pub insert_fixed :
      (card kind arity : ℕ) (signature : List ℕ) {count count' : ℕ} {table table' : List ℕ}
      → ◌≡◌ {A = Outcome}
      (record { refusal = r; count = count; table = table })
      (insert_of l card kind arity signature)
      → ◌≡◌ {A = Outcome}
      (record { refusal = r'; count = count'; table = table' })
      (insert_of l card kind arity signature)
      → (r ≡ r') × (count ≡ count') × (table ≡ table')
  insert_fixed card kind arity signature e g = changed_fixed e g

  pub delete_fixed :
      (card arity : ℕ) {count count' : ℕ} {table table' : List ℕ}
      → ◌≡◌ {A = Outcome} (record { refusal = r; count = count; table = table }) (delete_of l card arity)
      → ◌≡◌ {A = Outcome} (record { refusal = r'; count = count'; table = table' }) (delete_of l card arity)
      → (r ≡ r') × (count ≡ count') × (table ≡ table')
  delete_fixed card arity e g = changed_fixed e g

  pub search_fixed :
      (kind : ℕ) (signature : List ℕ) (radius : ℕ) (list : List ℕ)
      {count count' found found' : ℕ} {after after' : List ℕ}
      → ◌≡◌ {A = Listing}
      (record { refusal = r; count = count; found = found; list = after })
      (search_of l kind signature radius list)
      → ◌≡◌ {A = Listing}
      (record { refusal = r'; count = count'; found = found'; list = after' })
      (search_of l kind signature radius list)
      → (r ≡ r') × (count ≡ count') × (found ≡ found') × (after ≡ after')
  search_fixed kind signature radius list e g = (
    part (λ (o : Listing). o.refusal) e g,
    part (λ (o : Listing). o.count) e g,
    part (λ (o : Listing). o.found) e g,
    part (λ (o : Listing). o.list) e g,
  )

  pub nearest_fixed :
      (kind : ℕ) (signature : List ℕ) (k : ℕ) (list : List Pair)
      {count count' found found' : ℕ} {after after' : List Pair}
      → ◌≡◌ {A = Nearest}
      (record { refusal = r; count = count; found = found; list = after })
      (nearest_of l kind signature k list)
      → ◌≡◌ {A = Nearest}
      (record { refusal = r'; count = count'; found = found'; list = after' })
      (nearest_of l kind signature k list)
      → (r ≡ r') × (count ≡ count') × (found ≡ found') × (after ≡ after')
  nearest_fixed kind signature k list e g = (
    part (λ (o : Nearest). o.refusal) e g,
    part (λ (o : Nearest). o.count) e g,
    part (λ (o : Nearest). o.found) e g,
    part (λ (o : Nearest). o.list) e g,
  )

  pub check_fixed : r ≡ check_of l → r' ≡ check_of l → r ≡ r'
  check_fixed e g = e ∙ sym g

  pub cards_fixed :
      (list : List ℕ) {found found' : ℕ} {after after' : List ℕ}
      → ◌≡◌ {A = Cards} (record { refusal = r; found = found; list = after }) (all_cards_of l list)
      → ◌≡◌ {A = Cards} (record { refusal = r'; found = found'; list = after' }) (all_cards_of l list)
      → (r ≡ r') × (found ≡ found') × (after ≡ after')
  cards_fixed list e g = (
    part (λ (o : Cards). o.refusal) e g,
    part (λ (o : Cards). o.found) e g,
    part (λ (o : Cards). o.list) e g,
  )

  pub card_fixed :
      (card : ℕ) (row : List ℕ) {kind kind' : ℕ} {after after' : List ℕ}
      → ◌≡◌ {A = Card} (record { refusal = r; kind = kind; row = after }) (one_card_of l card row)
      → ◌≡◌ {A = Card} (record { refusal = r'; kind = kind'; row = after' }) (one_card_of l card row)
      → (r ≡ r') × (kind ≡ kind') × (after ≡ after')
  card_fixed card row e g = (
    part (λ (o : Card). o.refusal) e g,
    part (λ (o : Card). o.kind) e g,
    part (λ (o : Card). o.row) e g,
  )
