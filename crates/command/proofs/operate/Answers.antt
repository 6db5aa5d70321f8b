-- `command::operate` meets its contract: each operation's call has the outcome that the definition gives for its
-- number. Assumes nothing.
use Rattle.std.specs.Prelude.{ℕ, ◌≡◌}
use Rattle.std.proofs.Common.{sym, ap, ◌∙◌}
use Rattle.insert.specs.Insert.{insert_of}
use Rattle.refusals.specs.Outcome.{Outcome}
use Rattle.refusals.specs.Told.{passed_on}
use Rattle.delete.specs.Delete.{delete_of}
use Rattle.search.specs.Search.{search_of, Outcome as Listing}
use Rattle.command.specs.Command.{
  operation,
  kind,
  arity,
  signature,
  of_change,
  of_listing,
  of_number,
  operation_insert,
  operation_delete,
  operation_search,
  operation_check,
  operation_other,
}
use Rattle.command.specs.declared.Operation.TheVariants.{Insert, Delete, Search, Check}
use Rattle.command.specs.Operation.{code_of}
use Rattle.command.proofs.operate.Goals.{In-Insert, In-Delete, In-Search, In-Check}
use Rattle.command.proofs.operate.Goals as goal

-- the number of the operation that is run
insert_number : (c : In-Insert) → operation c.args.command.now ≡ 1
insert_number c = sym c.in_ok-try_from.ensures ∙ ap code_of c.in-Insert.is

delete_number : (c : In-Delete) → operation c.args.command.now ≡ 2
delete_number c = sym c.in_ok-try_from.ensures ∙ ap code_of c.in-Delete.is

search_number : (c : In-Search) → operation c.args.command.now ≡ 3
search_number c = sym c.in_ok-try_from.ensures ∙ ap code_of c.in-Search.is

check_number : (c : In-Check) → operation c.args.command.now ≡ 4
check_number c = sym c.in_ok-try_from.ensures ∙ ap code_of c.in-Check.is

pub returns-in_err-try_from : goal.returns-in_err-try_from
returns-in_err-try_from c =
    let a = c.args in
    let e = c.in_err-try_from.ensures in
    rw (passed_on {why = c.in_err-try_from.field-0.0} c.from_residual.ensures.1, e.0)
    (sym (operation_other a.command.now a.table.now a.list.now
    (λ z. e.1 Insert (sym z)) (λ z. e.1 Delete (sym z)) (λ z. e.1 Search (sym z)) (λ z. e.1 Check (sym z))))

pub returns-in_err-count-in-Insert : goal.returns-in_err-count-in-Insert
returns-in_err-count-in-Insert c =
    let a = c.args in
    let n = insert_number (goal.at.returns-in_err-count-in-Insert c).In-Insert in
    rw (passed_on {why = c.in_err-count-in-Insert.field-0.0} c.from_residual-in_err-count-in-Insert.ensures.1)
    (ap (λ (o : Outcome). of_change o a.list.now)
    (c.in_err-count-in-Insert.ensures
    ∙ ap (λ (k : ℕ). insert_of a.table.now k (kind a.command.now) (arity a.command.now) (signature a.command.now))
    c.get-card.ensures)
    ∙ sym (operation_insert a.command.now a.table.now a.list.now n))

pub returns-in_ok-count-in-Insert : goal.returns-in_ok-count-in-Insert
returns-in_ok-count-in-Insert c =
    let a = c.args in
    let n = insert_number (goal.at.returns-in_ok-count-in-Insert c).In-Insert in
    ap (λ (o : Outcome). of_change o a.list.now)
    (c.in_ok-count-in-Insert.ensures
    ∙ ap (λ (k : ℕ). insert_of a.table.now k (kind a.command.now) (arity a.command.now) (signature a.command.now))
    c.get-card.ensures)
    ∙ sym (operation_insert a.command.now a.table.now a.list.now n)

pub returns-in_err-count-in-Delete : goal.returns-in_err-count-in-Delete
returns-in_err-count-in-Delete c =
    let a = c.args in
    let n = delete_number (goal.at.returns-in_err-count-in-Delete c).In-Delete in
    rw (passed_on {why = c.in_err-count-in-Delete.field-0.0} c.from_residual-in_err-count-in-Delete.ensures.1)
    (ap (λ (o : Outcome). of_change o a.list.now)
    (c.in_err-count-in-Delete.ensures
    ∙ ap (λ (k : ℕ). delete_of a.table.now k (arity a.command.now)) c.get-card.ensures)
    ∙ sym (operation_delete a.command.now a.table.now a.list.now n))

pub returns-in_ok-count-in-Delete : goal.returns-in_ok-count-in-Delete
returns-in_ok-count-in-Delete c =
    let a = c.args in
    let n = delete_number (goal.at.returns-in_ok-count-in-Delete c).In-Delete in
    ap (λ (o : Outcome). of_change o a.list.now)
    (c.in_ok-count-in-Delete.ensures ∙ ap (λ (k : ℕ). delete_of a.table.now k (arity a.command.now)) c.get-card.ensures)
    ∙ sym (operation_delete a.command.now a.table.now a.list.now n)

pub returns-in-Search : goal.returns-in-Search
returns-in-Search c =
    let a = c.args in
    let n = search_number (goal.at.returns-in-Search c).In-Search in
    ap (λ (o : Listing). of_listing o a.table.now)
    (c.search.ensures
    ∙ ap (λ (r : ℕ). search_of a.table.now (kind a.command.now) (signature a.command.now) r a.list.now)
    c.get-radius.ensures)
    ∙ sym (operation_search a.command.now a.table.now a.list.now n)

pub returns-in_err-check-in-Check : goal.returns-in_err-check-in-Check
returns-in_err-check-in-Check c =
    let a = c.args in
    let n = check_number (goal.at.returns-in_err-check-in-Check c).In-Check in
    rw (passed_on {why = c.in_err-check-in-Check.field-0.0} c.from_residual-in_err-check-in-Check.ensures.1)
    (ap (λ (k : ℕ). of_number k a.table.now a.list.now) c.in_err-check-in-Check.ensures
    ∙ sym (operation_check a.command.now a.table.now a.list.now n))

pub returns-in_ok-check-in-Check : goal.returns-in_ok-check-in-Check
returns-in_ok-check-in-Check c =
    let a = c.args in
    let n = check_number (goal.at.returns-in_ok-check-in-Check c).In-Check in
    ap (λ (k : ℕ). of_number k a.table.now a.list.now) c.in_ok-check-in-Check.ensures
    ∙ sym (operation_check a.command.now a.table.now a.list.now n)
