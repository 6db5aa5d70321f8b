-- What the rows of keys come to: the keys of the cards that the definition holds, and its distance count. Assumes
-- nothing.
use Rattle.std.specs.Prelude.{ℕ, ◌≤◌, ◌≡◌, List, [], map}
use Rattle.std.proofs.Common.{sym, subst, ◌∙◌, arith}
use Rattle.std.proofs.Math.Path.{ap}
use Rattle.number.specs.Frame.{Bytes}
use Rattle.distance.specs.Laws.{farthest}
use Rattle.distance.specs.Kind.{apart}
use Rattle.distance.specs.Signature.{Fit}
use Rattle.refusals.specs.Limits.{most_records}
use Rattle.table.specs.Record.{Record, record_of}
use Rattle.table.specs.Table.{records_in}
use Rattle.table.specs.Stands.{right_most}
use Rattle.table.specs.Fitting.{record_fits}
use Rattle.survey.specs.Survey.{used_in, root_of}
use Rattle.survey.specs.Laws.{used_in_most}
use Rattle.judge.specs.Readable.{Readable}
use Rattle.tree.proofs.Nearest.Lean.Same.{lean_held, lean_count}
use Rattle.view.specs.Survey.{used_in_used_count}
use Rattle.view.specs.Readable.{readable_root}
use Rattle.steps.specs.Step.{away_from}
use Rattle.waiting.specs.Front.{State, state, lower_from, meet_one, finish, start_at}
use Rattle.waiting.specs.Rows.{Known}
use Rattle.waiting.specs.Known.{start_known}
use Rattle.waiting.specs.Same.{Given, readable_given, key_held, held_of}
use Rattle.waiting.proofs.Same.Finish.{rows_held, rows_count}
use Rattle.nearest.specs.Nearest.{distances}
use Rattle.nearest.specs.Keys.{keys_held}
use Rattle.nearest.proofs.Laws.{compared_some, distances_some, distances_fit}

-- of n records with this root, of which some are used: as many may be taken as are used
module _ {n : ℕ} {R : ℕ → Record} {q : List ℕ} (some : 1 ≤ used_in n R) (given : Given n R (root_of n R) q) (kind k : ℕ)
    (one : 1 ≤ k) where
  pub ends_held : (finish R kind q k (used_in n R) (start_at R kind q k (root_of n R))).held ≡ keys_held n R kind q k
  unfolding keys_held
  ends_held =
      rows_held given kind k one (used_in n R)
      ∙ ap (map (key_held R kind q k))
      (lean_held (apart kind) q k given.seen one (used_in n R) (omega (arith, used_in_used_count n R))
      ∙ ap (held_of R kind q k) (sym (compared_some n R kind q k some)))

  pub ends_count : (finish R kind q k (used_in n R) (start_at R kind q k (root_of n R))).count ≡ distances n R kind q k
  ends_count =
      rows_count given kind k one (used_in n R)
      ∙ lean_count (apart kind) q k given.seen one (used_in n R) (omega (arith, used_in_used_count n R))
      ∙ sym (distances_some n R kind q k some)

-- ---- the work as the code begins it

-- in the table l, for a query with the readings q: the root was compared, which left S, and as many may be taken as are
-- used
pub record Begun (l : List ℕ) (kind : ℕ) (q : List ℕ) (k used : ℕ) (S : State) : Type 0 where
  pub readable : Readable l
  pub bytes : Bytes l
  pub fit : Fit q
  pub one : 1 ≤ k
  pub some : 1 ≤ used
  pub used_is : used ≡ used_in (records_in l) (record_of l)
  pub start_is : S ≡ start_at (record_of l) kind q k (root_of (records_in l) (record_of l))

-- the root was compared at this distance, under no parent and with no older sibling
pub begun_at :
    (l : List ℕ) (kind : ℕ) (q : List ℕ) (k root away : ℕ) (S : State)
    → root ≡ root_of (records_in l) (record_of l)
    → away ≡ away_from (record_of l) kind q root
    → S ≡ meet_one (record_of l) k root away (lower_from (record_of l root) 0 farthest away) (state [] [] 0)
    → S ≡ start_at (record_of l) kind q k (root_of (records_in l) (record_of l))
begun_at l kind q k root away S o ea es = rw (es, ea, o)

module _ {l : List ℕ} {kind : ℕ} {q : List ℕ} {k used : ℕ} {S : State} (b : Begun l kind q k used S) where
  used_some : 1 ≤ used_in (records_in l) (record_of l)
  used_some = omega (arith, b.some, b.used_is)

  given : Given (records_in l) (record_of l) (root_of (records_in l) (record_of l)) q
  given = readable_given b.readable b.bytes used_some b.fit

  ended :
      finish (record_of l) kind q k used S
      ≡ finish (record_of l) kind q k (used_in (records_in l) (record_of l))
      (start_at (record_of l) kind q k (root_of (records_in l) (record_of l)))
  ended = rw (b.used_is, b.start_is)

  pub begun_known : Known l S.waits
  begun_known =
      subst (λ (T : State). Known l T.waits) (sym b.start_is)
      (start_known l (λ a. record_fits l a b.bytes) (right_most l b.readable.size) kind q b.fit k _
      (readable_root b.readable used_some))

  pub ended_held : (finish (record_of l) kind q k used S).held ≡ keys_held (records_in l) (record_of l) kind q k
  ended_held = ap (λ (T : State). T.held) ended ∙ ends_held used_some given kind k b.one

  pub ended_count : (finish (record_of l) kind q k used S).count ≡ distances (records_in l) (record_of l) kind q k
  ended_count = ap (λ (T : State). T.count) ended ∙ ends_count used_some given kind k b.one

  pub ended_fits : (finish (record_of l) kind q k used S).count ≤ most_records
  ended_fits =
      omega (
        arith,
        ended_count,
        distances_fit (records_in l) (record_of l) kind q k used_some given.seen,
        used_in_most (records_in l) (record_of l),
        given.small,
      )
