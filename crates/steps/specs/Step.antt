-- "Visiting a with bound t": what is asked, and the paper's steps 1 and 2 of one record.
use Rattle.std.specs.Prelude.{ℕ, ◌+◌, Bool, ◌&&◌, List, [], ◌∷◌, leb, ltb}
use Rattle.distance.specs.Kind.{apart}
use Rattle.distance.specs.declared.Signature.{Signature}
use Rattle.table.specs.Record.{Record, record_of}
use Rattle.tree.specs.Slots.{keep}
use Rattle.steps.specs.declared.Asked.{Asked}

-- ---- what is asked

-- of some records: the kind, the query's readings and the radius
pub record Query : Type 0 where
  pub records : ℕ → Record
  pub kind : ℕ
  pub readings : List ℕ
  pub radius : ℕ

abbrev pub asked : (ℕ → Record) → ℕ → List ℕ → ℕ → Query
asked R kind q r = record { records = R; kind = kind; readings = q; radius = r }

-- of the records that the bytes l hold
abbrev pub query : List ℕ → ℕ → Signature → ℕ → Query
query l kind q r = asked (record_of l) kind q.readings r

-- .. what the code asks of them
abbrev pub asked_of : List ℕ → Asked → Query
asked_of l a = query l a.query.kind a.query.signature a.radius

-- the distance of slot a's record to the query
abbrev pub away_from : (ℕ → Record) → ℕ → List ℕ → ℕ → ℕ
away_from R kind q a = apart kind (R a).readings q

abbrev pub away_in : Query → ℕ → ℕ
away_in Q a = away_from Q.records Q.kind Q.readings a

-- ---- one record, at the distance `away`

-- step 1: "its timestamp is below t and its distance to the query is at most its covering radius plus r"
abbrev pub is_covered : Record → ℕ → ℕ → Bool
is_covered a away r = leb away (a.radius + r)

abbrev pub is_entered : Record → ℕ → ℕ → ℕ → Bool
is_entered a away r t = ltb a.timestamp t && is_covered a away r

-- step 2: its card, if the distance is at most r
abbrev pub card_within : Record → ℕ → ℕ → List ℕ
card_within a away r = keep (leb away r) (a.card ∷ [])
