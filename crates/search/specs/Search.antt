-- "Range search (001, Algorithm 2)": the outcome of the call, for every input.
use Rattle.std.specs.Prelude.{ℕ, ◌^◌, not, List, [], ◌∷◌, ◌++◌, eqb, ltb, length}
use Rattle.std.proofs.lemmas.List.Edits.{sets}
use Rattle.places.specs.Choice.{pick}
use Rattle.distance.specs.Signature.{readings_at}
use Rattle.distance.specs.Kind.{apart}
use Rattle.table.specs.Record.{Record, record_of}
use Rattle.table.specs.Table.{records_in}
use Rattle.survey.specs.Survey.{used_in, root_of}
use Rattle.tree.specs.View.{distance_count, compared}
use Rattle.tree.specs.Search.{visit, listed}
use Rattle.view.specs.View.{view_of}
use Rattle.admission.specs.Admission.{admission_tests}
use Rattle.admission.specs.Query.{known_query, other_kind}
use Rattle.refusals.specs.Refusal.{ARGUMENT, KIND, SHORT, first_of, done}

-- what a search returns, and the list as it leaves it
pub record Outcome : Type 0 where
  pub refusal : ℕ
  pub count : ℕ
  pub found : ℕ
  pub list : List ℕ

abbrev pub outcome : ℕ → ℕ → ℕ → List ℕ → Outcome
outcome refusal count found list = record { refusal = refusal; count = count; found = found; list = list }

-- "no bound on time": above every timestamp that four bytes hold
abbrev pub no_bound : ℕ
no_bound = 2 ^ 32

-- ---- a table of n records, searched for the signature q and the radius r

module _ (n : ℕ) (R : ℕ → Record) (kind : ℕ) (q : List ℕ) (r : ℕ) where
  -- the slots entered, in walk order: none in a free table, else those of the walk from the root
  unfoldable pub entered : List ℕ
  entered = pick (eqb (used_in n R) 0) [] (visit (apart kind) (view_of R) q r (used_in n R) (root_of n R) no_bound)

  -- the cards listed, in walk order
  unfoldable pub cards : List ℕ
  cards = listed (apart kind) (view_of R) q r entered

  -- "1 plus the child counts of all entered records (if the root is not entered, 1); 0 in a free table"
  unfoldable pub distances : ℕ
  distances = pick (eqb (used_in n R) 0) 0 (distance_count (view_of R) entered)

  -- "the cards compared are the root and the children of entered records": their slots, none in a free table
  unfoldable pub compared_slots : List ℕ
  compared_slots = pick (eqb (used_in n R) 0) [] (compared (view_of R) (root_of n R) entered)

-- ---- the call

-- the refusal, 0 if there is none: table l, kind, signature bytes s, and a list of m entries
unfoldable pub refusal_of : List ℕ → ℕ → List ℕ → ℕ → ℕ
refusal_of l kind s m =
    first_of
    (admission_tests l
    ++ ((not (known_query kind s), ARGUMENT)
    ∷ (other_kind (records_in l) (record_of l) kind, KIND)
    ∷ (ltb m (used_in (records_in l) (record_of l)), SHORT)
    ∷ []))

-- "A refusal returns zero counts and touches nothing lent"
unfoldable pub refused : ℕ → List ℕ → Outcome
refused k list = outcome k 0 0 list

-- "Cards are listed in walk order from the list's start; later entries stay"
unfoldable pub listing : ℕ → List ℕ → List ℕ → Outcome
listing count cs list = outcome done count (length cs) (sets list 0 cs)

-- what an accepted search leaves, of the table l and the query's readings q
abbrev pub listing_of : List ℕ → ℕ → List ℕ → ℕ → List ℕ → Outcome
listing_of l kind q r list =
    listing (distances (records_in l) (record_of l) kind q r) (cards (records_in l) (record_of l) kind q r) list

-- table l, kind, signature bytes s, radius r and a lent list of cards
unfoldable pub search_of : List ℕ → ℕ → List ℕ → ℕ → List ℕ → Outcome
search_of l kind s r list =
    pick
    (eqb (refusal_of l kind s (length list)) done)
    (listing
    (distances (records_in l) (record_of l) kind (readings_at s 0) r)
    (cards (records_in l) (record_of l) kind (readings_at s 0) r)
    list)
    (refused (refusal_of l kind s (length list)) list)
