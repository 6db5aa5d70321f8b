-- How a key is seated among the cells: open addressing, with a cap on the cells looked at. Assumes nothing.
use Rattle.std.specs.Prelude.{ℕ, zero, suc, ◌+◌, ◌-◌, ◌*◌, ◌/◌, ◌%◌, ◌≤◌, ◌<◌, ◌≡◌, List, eqb, get_or, set}
use Rattle.std.proofs.Common.{arith}
use borrow.Author.Tests.{eq-eqb, ne_eqb}
use Rattle.places.specs.Choice.{pick}
use Rattle.distinct.specs.declared.Seat.{Seat}
use Rattle.distinct.specs.declared.Seat.TheVariants.{Fresh, Seen, Crowded}

-- how many cells there are, and how many of them a key looks at
abbrev pub cell_count : ℕ
cell_count = 4096

abbrev pub probes : ℕ
probes = 32

-- where a key's cells begin
unfoldable pub start_of : ℕ → ℕ
start_of key = key * 2654435769 / 1048576 % cell_count

-- the cell that is d further on, where the first follows the last
abbrev pub onward : ℕ → ℕ → ℕ
onward first d = (first + d) % cell_count

-- the cells that a key looks at, one after another
abbrev pub cells_of : ℕ → ℕ → ℕ
cells_of key = onward (start_of key)

-- what comes of seating a key, and the cells afterwards
pub record Seated : Type 0 where
  pub seat : Seat
  pub cells : List ℕ

-- the cells place d, place (d + 1), .. are looked at, n of them, up to one that holds the key;
-- the first that is empty takes it
unfoldable pub seat_from : ℕ → (ℕ → ℕ) → ℕ → List ℕ → ℕ → Seated
seat_from zero place d cells key = record { seat = Crowded; cells = cells }
seat_from (suc n) place d cells key =
    pick
    (eqb (get_or cells (place d) 0) 0)
    (record { seat = Fresh; cells = set cells (place d) key })
    (pick
    (eqb (get_or cells (place d) 0) key)
    (record { seat = Seen; cells = cells })
    (seat_from n place (d + 1) cells key))

abbrev pub seated : List ℕ → ℕ → Seated
seated cells key = seat_from probes (cells_of key) 0 cells key

-- ---- the turns of the loop over a key's cells: d of at most n were looked at

module _ (place : ℕ → ℕ) (cells : List ℕ) (key n d : ℕ) (h : d < n) where
  left : n - d ≡ suc (n - (d + 1))
  left = omega arith

  pub seat_empty :
      get_or cells (place d) 0 ≡ 0
      → seat_from (n - d) place d cells key ≡ record { seat = Fresh; cells = set cells (place d) key }
  unfolding seat_from
  seat_empty e = rw (left, eq-eqb _ _ e)

  pub seat_same :
      (get_or cells (place d) 0 ≡ 0 → ⊥)
      → get_or cells (place d) 0 ≡ key
      → seat_from (n - d) place d cells key ≡ record { seat = Seen; cells = cells }
  unfolding seat_from
  seat_same z e = rw (left, ne_eqb _ _ z, eq-eqb _ _ e)

  pub seat_next :
      (get_or cells (place d) 0 ≡ 0 → ⊥)
      → (get_or cells (place d) 0 ≡ key → ⊥)
      → seat_from (n - d) place d cells key ≡ seat_from (n - (d + 1)) place (d + 1) cells key
  unfolding seat_from
  seat_next z e = rw (left, ne_eqb _ _ z, ne_eqb _ _ e)

pub seat_out :
    (place : ℕ → ℕ) (cells : List ℕ) (key n d : ℕ)
    → n ≤ d
    → seat_from (n - d) place d cells key ≡ record { seat = Crowded; cells = cells }
unfolding seat_from
seat_out place cells key n d h =
    let k : n - d ≡ 0 = omega arith in
    rw k
