-- What the check call uses of its definition: the table's own refusal comes first, and of an admitted table the route
-- stands for the paper's words. And what its answer says: done exactly if the table is sound. Assumes nothing.
use Rattle.std.specs.Prelude.{ℕ, ◌≡◌, refl, Bool, true, false, not, List, [], ◌∷◌, length}
use Rattle.std.proofs.Common.{sym, ◌∙◌, arith}
use Rattle.std.proofs.Math.Path.{ap}
use Rattle.refusals.specs.Refusal.{Test, LOOSE, done, first_of}
use Rattle.table.specs.Record.{record_of}
use Rattle.table.specs.Table.{right_size, records_in}
use Rattle.table.specs.Stands.{right_are, right_most}
use Rattle.judge.specs.Decided.{formed_decided}
use Rattle.judge.specs.Readable.{Readable}
use Rattle.admission.specs.Admission.{admission_tests, admitted_readable, table_refuses, own_first, table_passes}
use Rattle.view.specs.Shaped.{shaped_bytes}
use Rattle.view.specs.Readable.{readable_formed, readable_shaped}
use Rattle.view.specs.Sound.{SoundTable}
use Rattle.soundness.specs.Soundness.{is_sound, check_of}
use Rattle.soundness.specs.Decided.{sound_decided}
use Rattle.soundness.specs.Climb.{route}
use Rattle.soundness.specs.Route.{route_is}

module _ (l : List ℕ) where
  -- the check's own test
  abbrev loose : List Test
  loose = (not (is_sound (records_in l) (record_of l)), LOOSE) ∷ []

  -- a table that is refused before it is looked through
  pub check_refused : (first_of (admission_tests l) ≡ done → ⊥) → check_of l ≡ first_of (admission_tests l)
  unfolding check_of
  check_refused ne = table_refuses l loose ne

  module _ (admitted : first_of (admission_tests l) ≡ done) where
    readable : Readable l
    readable = admitted_readable l admitted

    -- the route stands for the paper's words
    route_sound : route (records_in l) (record_of l) ≡ is_sound (records_in l) (record_of l)
    route_sound = route_is (right_most l readable.size) (readable_shaped readable) (readable_formed readable)

    -- and decides
    decided : (t : Bool) → route (records_in l) (record_of l) ≡ t → check_of l ≡ first_of ((not t, LOOSE) ∷ [])
    unfolding check_of
    decided t e =
        own_first l loose admitted ∙ ap (λ (b : Bool). first_of ((not b, LOOSE) ∷ [])) (sym route_sound ∙ e)

    pub check_loose : route (records_in l) (record_of l) ≡ false → check_of l ≡ LOOSE
    check_loose = decided false

    pub check_done : route (records_in l) (record_of l) ≡ true → check_of l ≡ done
    check_done = decided true

-- ---- what the answer says of the table

-- a test that does not refuse is passed
passed : (sound : Bool) → first_of ((not sound, LOOSE) ∷ []) ≡ done → sound ≡ true
passed true e = refl
passed false e = absurd (omega arith)

module _ (l : List ℕ) where
  -- a check that is done was of a table that was admitted
  done_admitted : check_of l ≡ done → first_of (admission_tests l) ≡ done
  unfolding check_of
  done_admitted e = table_passes l (loose l) e

  -- a check that is done saw a sound table
  pub done_sound : check_of l ≡ done → (right_size (length l) ≡ true) × SoundTable (records_in l) (record_of l)
  unfolding check_of
  done_sound e =
      let admitted = done_admitted e in
      let ok = admitted_readable l admitted in
      let sound = passed (is_sound (records_in l) (record_of l)) (sym (own_first l (loose l) admitted) ∙ e) in
      (ok.size, (sound_decided (right_most l ok.size) (readable_shaped ok) (readable_formed ok)).shows sound)

  -- and on a sound table it is done
  pub sound_done : right_size (length l) ≡ true → SoundTable (records_in l) (record_of l) → check_of l ≡ done
  unfolding check_of
  sound_done size s =
      let shape = shaped_bytes (records_in l) l (right_are l size) in
      let formed = (formed_decided (records_in l) (record_of l)).passes s.well_formed in
      let sound = (sound_decided (right_most l size) shape s.well_formed).passes s in
      rw (size, formed, sound)
