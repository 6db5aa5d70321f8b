-- "The nearest few cards" (02, #101): the outcome of the call, for every input.
use Rattle.std.specs.Prelude.{ℕ, Bool, not, ◌&&◌, List, [], ◌∷◌, ◌++◌, map, eqb, leb, ltb, length}
use Rattle.std.proofs.lemmas.List.Edits.{sets}
use Rattle.places.specs.Choice.{pick}
use Rattle.distance.specs.Signature.{readings_at}
use Rattle.distance.specs.Kind.{apart}
use Rattle.refusals.specs.Limits.{most_nearest}
use Rattle.refusals.specs.Refusal.{ARGUMENT, KIND, SHORT, first_of, done}
use Rattle.pairs.specs.declared.Pair.{Pair}
use Rattle.table.specs.Record.{Record, record_of}
use Rattle.table.specs.Table.{records_in}
use Rattle.survey.specs.Survey.{used_in, root_of}
use Rattle.tree.specs.View.{distance_count, compared}
use Rattle.tree.specs.Nearest.{taken, held}
use Rattle.view.specs.View.{view_of}
use Rattle.admission.specs.Admission.{admission_tests}
use Rattle.admission.specs.Query.{known_query, other_kind}

-- what the call returns, and the list as it leaves it
pub record Outcome : Type 0 where
  pub refusal : ℕ
  pub count : ℕ
  pub found : ℕ
  pub list : List Pair

abbrev pub outcome : ℕ → ℕ → ℕ → List Pair → Outcome
outcome refusal count found list = record { refusal = refusal; count = count; found = found; list = list }

-- "a lent list of pairs, card and distance"
abbrev pub pair : ℕ → ℕ → Pair
pair card distance = record { card = card; distance = distance }

-- ---- in a table of n records, for the signature q, the k nearest

module _ (n : ℕ) (R : ℕ → Record) (kind : ℕ) (q : List ℕ) (k : ℕ) where
  -- the slots taken, the last one first: none in a free table
  unfoldable pub taken_slots : List ℕ
  taken_slots = pick (eqb (used_in n R) 0) [] (taken (apart kind) (view_of R) q k (root_of n R) n)

  -- the slots compared: the root and the children of those taken, none in a free table
  unfoldable pub compared_slots : List ℕ
  compared_slots = pick (eqb (used_in n R) 0) [] (compared (view_of R) (root_of n R) taken_slots)

  -- "The distance count is 1 plus the child counts of the records taken, 0 in a free table"
  unfoldable pub distances : ℕ
  distances = pick (eqb (used_in n R) 0) 0 (distance_count (view_of R) taken_slots)

  -- the card of the record in slot a, and its distance
  abbrev pub pair_at : ℕ → Pair
  pair_at a = pair (R a).card (apart kind (R a).readings q)

  -- "The cards held are the first k of all compared", with their distances
  unfoldable pub nearest_pairs : List Pair
  nearest_pairs = map pair_at (held (apart kind) (view_of R) q k compared_slots)

-- ---- the call

-- a known kind, a signature of its length, and "k from 1 to 64"
abbrev pub right_arguments : ℕ → List ℕ → ℕ → Bool
right_arguments kind s k = known_query kind s && (leb 1 k && leb k most_nearest)

-- the refusal, 0 if there is none: table l, kind, signature bytes s, k, and a list of m entries; "as search, but 3 also
-- for k outside 1 to 64, and 9 for a list shorter than k"
unfoldable pub refusal_of : List ℕ → ℕ → List ℕ → ℕ → ℕ → ℕ
refusal_of l kind s k m =
    first_of
    (admission_tests l
    ++ ((not (right_arguments kind s k), ARGUMENT)
    ∷ (other_kind (records_in l) (record_of l) kind, KIND)
    ∷ (ltb m k, SHORT)
    ∷ []))

-- "A refusal returns zero counts and touches nothing lent"
unfoldable pub refused : ℕ → List Pair → Outcome
refused refusal list = outcome refusal 0 0 list

-- "The answer goes into a lent list of pairs .. later entries stay"
unfoldable pub listing : ℕ → List Pair → List Pair → Outcome
listing count ps list = outcome done count (length ps) (sets list 0 ps)

-- what an accepted call leaves, of the table l and the query's readings q
abbrev pub listing_of : List ℕ → ℕ → List ℕ → ℕ → List Pair → Outcome
listing_of l kind q k list =
    listing
    (distances (records_in l) (record_of l) kind q k)
    (nearest_pairs (records_in l) (record_of l) kind q k)
    list

-- table l, kind, signature bytes s, k, and a lent list of pairs
unfoldable pub nearest_of : List ℕ → ℕ → List ℕ → ℕ → List Pair → Outcome
nearest_of l kind s k list =
    pick
    (eqb (refusal_of l kind s k (length list)) done)
    (listing_of l kind (readings_at s 0) k list)
    (refused (refusal_of l kind s k (length list)) list)
