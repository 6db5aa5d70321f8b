-- Free records behind a table make it a longer one with more room, and change nothing else: it is sound as before, and
-- stores the same cards (`longer_holds`). The key: past a table's end every record reads as free, so that the records
-- of the longer table are those of the shorter. Assumes nothing.
use Rattle.std.specs.Prelude.{ℕ, ◌+◌, ◌<◌, ◌≡◌, ◌↔◌}
use Rattle.std.proofs.Common.{sym, subst, arith}
use mathlib.Core.List.{◌++◌, Memᴰ}
use Rattle.places.specs.Cases.{below_or}
use Rattle.table.specs.Record.{Record, Used, record_of}
use Rattle.table.specs.Table.{free_table}
use Rattle.table.specs.Stands.{are_behind}
use Rattle.table.specs.Same.{free_behind, behind_bytes}
use Rattle.judge.specs.WellFormed.{WellFormed}
use Rattle.survey.specs.Survey.{kind_of}
use Rattle.newcomer.specs.Newcomer.{Newcomer}
use Rattle.placing.specs.Stored.{Stored}
use Rattle.view.specs.Shaped.{Shaped, shaped_bytes}
use Rattle.view.specs.Survey.{kind_of_is}
use Rattle.view.specs.Formed.{used_within}
use Rattle.view.specs.Sound.{SoundTable, sound_at}
use Rattle.history.specs.History.{State}
use Rattle.history.specs.Demands.{Holds}

-- ---- the same records, of which k more are counted to the table

module _ {n : ℕ} {R : ℕ → Record} (shape : Shaped n R) (k : ℕ) where
  -- what is used stands before them
  before : (s : ℕ) → Used (R s) → s < n
  before = used_within shape

  more : (s : ℕ) → s < n → s < n + k
  more s h = omega arith

  longer_shaped : Shaped (n + k) R
  longer_shaped =
      record { eight = shape.eight; sixteen = shape.sixteen; past = λ s h. shape.past s (omega arith) }

  longer_formed : WellFormed n R → WellFormed (n + k) R
  longer_formed wf =
      record {
        free_if_no_card = λ s b none. below_or s n (λ h. wf.free_if_no_card s h none) (shape.past s);
        filled = λ s b u. wf.filled s (before s u) u;
        cards = λ a b p q u w. wf.cards a b (before a u) (before b w) u w;
        timestamps = λ a b p q u w. wf.timestamps a b (before a u) (before b w) u w;
        kinds = λ a b p q u w. wf.kinds a b (before a u) (before b w) u w;
        a_root = λ s b u. let z = wf.a_root s (before s u) u in (z.0, more z.0 z.1, z.2, z.3);
        one_root_lem = λ a b p q u w. wf.one_root_lem a b (before a u) (before b w) u w;
        hung = λ s b u ne.
            let h = wf.hung s (before s u) u ne in
            record {
              parent_in = more (R s).parent h.parent_in;
              parent_used = h.parent_used;
              parent_older = h.parent_older;
              stands_once = h.stands_once;
            };
        owned = λ a i b u l.
            let o = wf.owned a i (before a u) u l in
            record {
              child_in = more _ o.child_in;
              child_used = o.child_used;
              child_parent = o.child_parent;
            };
        rising = λ a i b u l. wf.rising a i (before a u) u l;
      }

  longer_sound : SoundTable n R → SoundTable (n + k) R
  longer_sound ok =
      sound_at (kind_of n R) longer_shaped (longer_formed ok.well_formed)
      (λ a b u. sym (kind_of_is n R ok.well_formed a (before a u) u)) ok.sound

  longer_stored : (x : Newcomer) → Stored (n + k) R x ↔ Stored n R x
  longer_stored x = (
    λ z.
        (z.0, record { within = before z.0 z.1.used; used = z.1.used; same = z.1.same }),
    λ z.
        (z.0, record { within = more z.0 z.1.within; used = z.1.used; same = z.1.same }),
  )

-- ---- a table after some calls

-- with k free records behind it
abbrev pub longer : ℕ → State → State
longer k st = record { table = st.table ++ free_table k; stored = st.stored }

pub longer_holds : {n : ℕ} {st : State} (k : ℕ) → Holds n st → Holds (n + k) (longer k st)
longer_holds {n} {st} k h =
    let shape = shaped_bytes n st.table h.size in
    let same : record_of st.table ≡ record_of (st.table ++ free_table k) =
    λ i s. sym (free_behind st.table k s) i in
    record {
      size = are_behind st.table n k h.size;
      bytes = behind_bytes st.table k h.bytes;
      sound = subst (SoundTable (n + k)) same (longer_sound shape k h.sound);
      stored = λ x.
          subst (λ (R : ℕ → Record). Stored (n + k) R x ↔ Memᴰ x st.stored) same (
            λ z. (h.stored x).0 ((longer_stored shape k x).0 z),
            λ i. (longer_stored shape k x).1 ((h.stored x).1 i),
          );
      once = h.once;
    }
