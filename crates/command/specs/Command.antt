-- "The bench program": a command of 48 bytes, and what it does to the program's table and list.
use Rattle.std.specs.Prelude.{ℕ, ◌≡◌, List, eqb, length, get_or, take, drop}
use Rattle.std.proofs.Common.{sym, ◌∙◌}
use borrow.Author.Tests.{eq-eqb, ne_eqb}
use Rattle.places.specs.Choice.{pick}
use Rattle.number.specs.Number.{number_at}
use Rattle.refusals.specs.Refusal.{ARGUMENT}
use Rattle.insert.specs.Insert.{insert_of}
use Rattle.refusals.specs.Outcome.{Outcome}
use Rattle.delete.specs.Delete.{delete_of}
use Rattle.search.specs.Search.{search_of}
use Rattle.search.specs.Search.{Outcome as Listing}
use Rattle.soundness.specs.Soundness.{check_of}

-- what a line of the program reports, and the table and the list after it
pub record Done : Type 0 where
  pub refusal : ℕ
  pub count : ℕ
  pub found : ℕ
  pub table : List ℕ
  pub list : List ℕ

-- a record's bytes
abbrev pub command_length : ℕ
command_length = 48

-- ---- the fields: operation, kind, arity, an unused byte, card, radius, 4 unused bytes, signature

abbrev pub operation : List ℕ → ℕ
operation c = get_or c 0 0

abbrev pub kind : List ℕ → ℕ
kind c = get_or c 1 0

abbrev pub arity : List ℕ → ℕ
arity c = get_or c 2 0

abbrev pub card : List ℕ → ℕ
card c = number_at 4 c 4

abbrev pub radius : List ℕ → ℕ
radius c = number_at 4 c 8

abbrev pub signature : List ℕ → List ℕ
signature c = take 32 (drop 16 c)

-- ---- what each operation reports: "distance count (0 for check), cards found (0 but for search)"

abbrev pub of_change : Outcome → List ℕ → Done
of_change o list = record { refusal = o.refusal; count = o.count; found = 0; table = o.table; list = list }

abbrev pub of_listing : Listing → List ℕ → Done
of_listing o l = record { refusal = o.refusal; count = o.count; found = o.found; table = l; list = o.list }

abbrev pub of_number : ℕ → List ℕ → List ℕ → Done
of_number k l list = record { refusal = k; count = 0; found = 0; table = l; list = list }

-- a report of these numbers
pub same_report :
    {refusal count found k n m : ℕ} (l list : List ℕ)
    → (refusal ≡ k) × (count ≡ n) × (found ≡ m)
    → ◌≡◌ {A = Done}
    (record { refusal = refusal; count = count; found = found; table = l; list = list })
    (record { refusal = k; count = n; found = m; table = l; list = list })
same_report l list e i = record { refusal = e.0 i; count = e.1 i; found = e.2 i; table = l; list = list }

-- "operation (1 insert, 2 delete, 3 search, 4 check) .. another operation gives refusal 3, before any other"
unfoldable pub operation_of : List ℕ → List ℕ → List ℕ → Done
operation_of c l list =
    pick
    (eqb (operation c) 1)
    (of_change (insert_of l (card c) (kind c) (arity c) (signature c)) list)
    (pick
    (eqb (operation c) 2)
    (of_change (delete_of l (card c) (arity c)) list)
    (pick
    (eqb (operation c) 3)
    (of_listing (search_of l (kind c) (signature c) (radius c) list) l)
    (pick (eqb (operation c) 4) (of_number (check_of l) l list) (of_number ARGUMENT l list))))

-- "command records of 48 bytes": one of another length is refused as another operation is, and nothing is touched
unfoldable pub command_of : List ℕ → List ℕ → List ℕ → Done
command_of c l list = pick (eqb (length c) command_length) (operation_of c l list) (of_number ARGUMENT l list)

-- the contract of a command fixes it: two outcomes that it allows are equal
pub command_fixed : (c l list : List ℕ) (o p : Done) → o ≡ command_of c l list → p ≡ command_of c l list → o ≡ p
command_fixed c l list o p e f = e ∙ sym f

-- ---- a record's length

module _ (c l list : List ℕ) where
  pub command_whole : length c ≡ command_length → command_of c l list ≡ operation_of c l list
  unfolding command_of
  command_whole e = rw (eq-eqb (length c) command_length e)

  pub command_length_lem : (length c ≡ command_length → ⊥) → command_of c l list ≡ of_number ARGUMENT l list
  unfolding command_of
  command_length_lem h = rw (ne_eqb (length c) command_length h)

-- ---- the outcome of each operation, by its number

module _ (c l list : List ℕ) where
  pub operation_insert :
      operation c ≡ 1 → operation_of c l list ≡ of_change (insert_of l (card c) (kind c) (arity c) (signature c)) list
  unfolding operation_of
  operation_insert e = rw (eq-eqb (operation c) 1 e)

  pub operation_delete : operation c ≡ 2 → operation_of c l list ≡ of_change (delete_of l (card c) (arity c)) list
  unfolding operation_of
  operation_delete e = rw e

  pub operation_search :
      operation c ≡ 3 → operation_of c l list ≡ of_listing (search_of l (kind c) (signature c) (radius c) list) l
  unfolding operation_of
  operation_search e = rw e

  pub operation_check : operation c ≡ 4 → operation_of c l list ≡ of_number (check_of l) l list
  unfolding operation_of
  operation_check e = rw e

  pub operation_other :
      (operation c ≡ 1 → ⊥)
      → (operation c ≡ 2 → ⊥)
      → (operation c ≡ 3 → ⊥)
      → (operation c ≡ 4 → ⊥)
      → operation_of c l list ≡ of_number ARGUMENT l list
  unfolding operation_of
  operation_other a b d e =
      rw (
        ne_eqb (operation c) 1 a,
        ne_eqb (operation c) 2 b,
        ne_eqb (operation c) 3 d,
        ne_eqb (operation c) 4 e,
      )
